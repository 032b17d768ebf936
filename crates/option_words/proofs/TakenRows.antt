-- What clap keeps of the rows of a command's arguments, where it finds no fault.
use Rattle.std.proofs.Common.{◌≡◌, ◌&&◌, ℕ, Bool, cond, true, false, not, zero, suc, refl, subst, ap, List, [], ◌∷◌, length, drop, Option, Some, None, is_some}
use Rattle.std.specs.Prelude.{⊤, encode_utf8, slice_get, unwrap_or, find, fold, option_map}
use Rattle.std.specs.List.{list_any}
use Rattle.std.specs.Option.{option_map_or}
use Rattle.std.specs.Str.{bytes_eq, chars}
use Rattle.clap.specs.Lexer.{long_of, short_of}
use Rattle.clap.specs.Takes.{is_given}
use Rattle.clap.specs.Walk.{Held, Names, Outcome, Row, Rule, Step, Text, Waiting, Walk, after_flag, after_step, arg_by_id, arg_by_index, arg_by_long, arg_by_short, attached_value, bundle, bundle_met, bundle_step, done, flag_met, idle, nothing_held, refused, rows_after, settled_rows, used_by_id, is_pending, long_met, long_or_other, next, option, option_met, option_word, plain, plain_word, positional, positional_held, reacted, settled, short_met, short_or_plain, subcommand, subcommand_met, subcommand_or_other, takes_several, takes_values, to_positional, trailing, value, waits, walk, walk_from, walked, walked_from, answers_to, with_default, word_met}
use Rattle.clap.specs.Simple.{App, Shape, entered, label_of, names_of, rows_at}
use Rattle.clap.specs.Kinds.{Kinds, check_kinds, or_else}
use Rattle.clap.specs.Faults.{built_fault, bundle_fault, bundle_step_fault, defaults_fault, entered_fault, flag_word_fault, flags_fault, level_fault, long_fault, option_fault, other_fault, positional_fault, react_fault, settle_fault, short_fault, step_fault, stray_fault, turn_fault, use_fault, walk_fault, word_fault}
use Rattle.clap.specs.declared.error.kind.ErrorKind.TheVariants as kind
use Rattle.option_words.proofs.ArgumentRows.{AllKeep, FoundKeeps, Keeps, found, or_nil}

-- ---- over the words

module _ (P : List Row → Type 0) (c : List Rule) (all : AllKeep P c) (again : Bool) (once : again ≡ false) where
  settled_keeps : (h : Held) → settle_fault c again h ≡ [] → P h.rows → P (settled c h).rows
  settled_keeps h none good = go h.pending none
    where
      one : (o : Option Rule) → FoundKeeps P o → (vs : List Text) → option_map_or (λ a. use_fault again a vs h.rows) o [] ≡ []
          → P (used_by_id o vs h.rows)
      one None is vs e = good
      one (Some a) is vs e = is.in_use again once vs h.rows e good

      go : (o : Option (Text × List Text)) → option_map_or (λ p. option_map_or (λ a. use_fault again a p.1 h.rows) (arg_by_id c p.0) []) o [] ≡ []
          → P (settled_rows c o h.rows)
      go None e = good
      go (Some p) e = one (arg_by_id c p.0) (found P _ c all) p.1 e

  react_keeps : (a : Rule) → Keeps P a → (vs : List Text) (h : Held) → react_fault c again a vs h ≡ [] → P h.rows → P (reacted c a vs h).rows
  react_keeps a is vs h none good =
      let parts = or_nil (settle_fault c again h) _ none in
      is.in_use again once vs (settled c h).rows parts.1 (settled_keeps h parts.0 good)

  option_keeps : (a : Rule) → Keeps P a → (v : Option Text) (h : Held) → option_fault c again a v h ≡ [] → P h.rows → P (option_met c a v h).0.rows
  option_keeps a is (Some v) h none good = react_keeps a is (v ∷ []) h none good
  option_keeps a is None h none good = settled_keeps h none good

  long_keeps : (o : Option Rule) → FoundKeeps P o → (v : Option Text) (h : Held) → long_fault c again o v h ≡ [] → P h.rows → P (long_met c o v h).0.rows
  long_keeps None is v h none good = good
  long_keeps (Some a) is v h none good = go (takes_values a) none
    where
      flag : (o : Option Text) → cond (is_some o) (kind.TooManyValues ∷ []) (react_fault c again a [] h) ≡ [] → P (flag_met c a o h).0.rows
      flag (Some x) e = good
      flag None e = react_keeps a is [] h e good

      go : (b : Bool) → cond b (option_fault c again a v h) (cond (is_some v) (kind.TooManyValues ∷ []) (react_fault c again a [] h)) ≡ []
          → P (cond b (option_met c a v h) (flag_met c a v h)).0.rows
      go true e = option_keeps a is v h e good
      go false e = flag v e

  short_keeps : (o : Option Rule) → FoundKeeps P o → (rest : Text) (h : Held) (faults : Held → Kinds) (then : Held → Held × Outcome)
      → ((x : Held) → faults x ≡ [] → P x.rows → P (then x).0.rows)
      → short_fault c again o rest h faults ≡ [] → P h.rows → P (short_met c o rest h then).0.rows
  short_keeps None is rest h faults then keeps none good = good
  short_keeps (Some a) is rest h faults then keeps none good = go (takes_values a) none
    where
      go : (b : Bool) → cond b (option_fault c again a (attached_value rest) h) (or_else (react_fault c again a [] h) (faults (reacted c a [] h))) ≡ []
          → P (cond b (option_met c a (attached_value rest) h) (then (reacted c a [] h))).0.rows
      go true e = option_keeps a is (attached_value rest) h e good
      go false e =
          let parts = or_nil _ _ e in
          keeps (reacted c a [] h) parts.1 (react_keeps a is [] h parts.0 good)

  step_keeps : (o : Option ℕ) (flags : Text) (skip : ℕ) (so_far : Outcome) (h : Held) (faults : Text → ℕ → Held → Kinds)
      (then : Text → ℕ → Outcome → Held → Held × Outcome)
      → ((t : Text) (n : ℕ) (x : Outcome) (y : Held) → faults t n y ≡ [] → P y.rows → P (then t n x y).0.rows)
      → bundle_step_fault c again o flags skip h faults ≡ [] → P h.rows → P (bundle_step c o flags skip so_far h then).0.rows
  step_keeps None flags skip so_far h faults then keeps none good = good
  step_keeps (Some x) flags zero so_far h faults then keeps none good =
      let rest = drop (length (encode_utf8 x)) flags in
      short_keeps (arg_by_short c x) (found P _ c all) rest h (faults rest 0) (then rest 0 done) (keeps rest 0 done) none good
  step_keeps (Some x) flags (suc skip) so_far h faults then keeps none good = keeps (drop (length (encode_utf8 x)) flags) skip so_far h none good

  bundle_keeps : (k : ℕ) (flags : Text) (skip : ℕ) (so_far : Outcome) (h : Held) → flags_fault c again k flags skip h ≡ [] → P h.rows
      → P (bundle_met c k flags skip so_far h).0.rows
  unfolding flags_fault bundle_met
  bundle_keeps zero flags skip so_far h none good = good
  bundle_keeps (suc k) flags skip so_far h none good =
      step_keeps (slice_get (chars flags) 0) flags skip so_far h (flags_fault c again k) (bundle_met c k) (bundle_keeps k) none good

  plain_keeps : (waiting : Waiting) (word : Text) (h : Held) → P h.rows → P (plain_word c waiting word h).0.rows
  plain_keeps (option id) word h good = go (arg_by_id c id)
    where
      go : (o : Option Rule) → P (option_word o id word h).0.rows
      go None = good
      go (Some a) = good
  plain_keeps idle word h good = good
  plain_keeps positional word h good = good

  after_keeps : (waiting : Waiting) (word : Text) (h : Held) (o : Outcome) → P h.rows → P (after_flag c waiting word h o).0.rows
  after_keeps waiting word h done good = good
  after_keeps waiting word h (waits id) good = good
  after_keeps waiting word h plain good = plain_keeps waiting word h good
  after_keeps waiting word h refused good = plain_keeps waiting word h good

  flag_keeps : (waiting : Waiting) (word : Text) (o : Option (Text × Option Text)) (h : Held) → flag_word_fault c again o word h ≡ [] → P h.rows
      → P (long_or_other c waiting word o h).0.rows
  flag_keeps waiting word (Some p) h none good =
      after_keeps waiting word _ (long_met c (arg_by_long c p.0) p.1 h).1 (long_keeps (arg_by_long c p.0) (found P _ c all) p.1 h none good)
  flag_keeps waiting word None h none good = go (short_of word) none
    where
      go : (o : Option Text) → option_map_or (λ flags. bundle_fault c again flags h) o [] ≡ [] → P (short_or_plain c waiting word o h).0.rows
      go None e = plain_keeps waiting word h good
      go (Some flags) e =
          after_keeps waiting word _ (bundle c flags h).1 (bundle_keeps (length flags) flags h.skip plain (record h { skip = 0 }) e good)

  other_keeps : (o : Option Text) (waiting : Waiting) (position : ℕ) (word : Text) (h : Held)
      → ((o ≡ None) → cond (bytes_eq word (45 ∷ 45 ∷ [])) [] (flag_word_fault c again (long_of word) word h) ≡ []) → P h.rows
      → P (subcommand_or_other c o waiting position word h).0.rows
  other_keeps (Some name) waiting position word h none good = good
  other_keeps None waiting position word h none good = go (bytes_eq word (45 ∷ 45 ∷ [])) (none refl)
    where
      go : (b : Bool) → cond b [] (flag_word_fault c again (long_of word) word h) ≡ [] → P (cond b (h, trailing position) (long_or_other c waiting word (long_of word) h)).0.rows
      go true e = good
      go false e = flag_keeps waiting word (long_of word) h e good

  positional_keeps : (a : Rule) (word : Text) (h : Held) → positional_fault c again a h ≡ [] → P h.rows → P (positional_held c a word h).rows
  positional_keeps a word h none good = go (is_pending a h.pending && takes_several a) none
    where
      go : (b : Bool) → cond b [] (settle_fault c again h) ≡ [] → P (cond b h (settled c h)).rows
      go true e = good
      go false e = settled_keeps h e good

module _ (P : List Row → Type 0) (s : Shape) (all : AllKeep P s.rules) (once : s.args_override_self ≡ false) (names : Names) where
  turn_keeps : (w : Walk) (word : Text) → turn_fault s names w word ≡ [] → P w.held.rows → P (walked s.rules names w word).held.rows
  unfolding walked
  turn_keeps w word none good = go w.stopped none
    where
      to : (h : Held) (o : Option Rule) → option_map_or (λ a. positional_fault s.rules s.args_override_self a h) o (stray_fault s) ≡ [] → P h.rows
          → P (to_positional s.rules o word w h).held.rows
      to h None e kept = kept
      to h (Some a) e kept = positional_keeps P s.rules all s.args_override_self once a word h e kept

      after : (h : Held) (step : Step) → step_fault s w.position h step ≡ [] → P h.rows → P (after_step s.rules word w h step).held.rows
      after h (next x) e kept = kept
      after h (trailing p) e kept = kept
      after h (subcommand t) e kept = kept
      after h value e kept = to h (arg_by_index s.rules w.position) e kept

      met : (b : Bool) → cond b [] (other_fault s (subcommand_met names w.waiting word) word w.held) ≡ []
          → P (cond b (w.held, value) (subcommand_or_other s.rules (subcommand_met names w.waiting word) w.waiting w.position word w.held)).0.rows
      met true e = good
      met false e = other_keeps P s.rules all s.args_override_self once (subcommand_met names w.waiting word) w.waiting w.position word w.held
          (λ is. subst (λ (o : Option Text). other_fault s o word w.held ≡ []) is e) good

      go : (o : Option (Text × List Text)) → cond (is_some o) [] (or_else (word_fault s names w.is_trailing w.waiting word w.held)
          (step_fault s w.position (word_met s.rules names w.is_trailing w.waiting w.position word w.held).0
          (word_met s.rules names w.is_trailing w.waiting w.position word w.held).1)) ≡ [] → P (walked_from s.rules names o w word).held.rows
      go (Some p) e = good
      go None e =
          let parts = or_nil (word_fault s names w.is_trailing w.waiting word w.held) _ e in
          after _ _ parts.1 (met w.is_trailing parts.0)

  walk_keeps : (words : List Text) (w : Walk) → walk_fault s names w words ≡ [] → P w.held.rows → P (fold (walked s.rules names) w words).held.rows
  unfolding walk_fault
  walk_keeps [] w none good = good
  walk_keeps (word ∷ rest) w none good =
      let parts = or_nil (turn_fault s names w word) _ none in
      walk_keeps rest (walked s.rules names w word) parts.1 (turn_keeps w word parts.0 good)

-- ---- after the words

-- no argument that is required is missing
none-missing : (help command negates missing : Bool) → check_kinds help command (not (negates && false) && missing) ≡ [] → missing ≡ false
none-missing help command negates false none = refl
none-missing true command negates true none = cc
none-missing false true negates true none = cc
none-missing false false true true none = cc
none-missing false false false true none = cc

-- the rows of a subcommand that clap takes: those of its words, with the defaults
pub record IsTaken (P : List Row → Type 0) (s : Shape) (words : List Text) : Type 0 where
  pub rows : List Row
  pub good : P rows
  pub after : rows_after s.rules [] words ≡ fold with_default rows s.rules
  pub given : list_any (λ a. a.required && not (is_given a.id (rows_after s.rules [] words))) s.rules ≡ false

pub level-taken : (P : List Row → Type 0) (s : Shape) → AllKeep P s.rules → s.args_override_self ≡ false → P [] → (words : List Text)
    → level_fault s [] nothing_held words false [] ≡ [] → IsTaken P s words
level-taken P s all once empty words none =
    let end = (walk s.rules [] nothing_held words).held in
    let walked_by = or_nil (walk_fault s [] (walk_from nothing_held) words) _ none in
    let settled_by = or_nil (settle_fault s.rules s.args_override_self end) _ walked_by.1 in
    let good : P end.rows = walk_keeps P s all once [] words (walk_from nothing_held) walked_by.0 empty in
    let checked = or_nil (defaults_fault (settled s.rules end).rows s.rules) _ settled_by.1 in
    record {
      rows = (settled s.rules end).rows;
      good = settled_keeps P s.rules all s.args_override_self once end settled_by.0 good;
      after = refl;
      given = none-missing _ _ s.subcommand_negates_reqs _ checked.1;
    }

-- ---- a subcommand

-- this holds of a subcommand's name and rows, where clap takes its words
abbrev pub LevelGives : (Text → List Row → Type 0) → Shape → Type 0
LevelGives Q s = (words : List Text) → level_fault s [] nothing_held words false [] ≡ [] → Q s.name (rows_after s.rules [] words)

abbrev pub AllGive : (Text → List Row → Type 0) → List Shape → Type 0
AllGive Q [] = ⊤
AllGive Q (sub ∷ subs) = LevelGives Q sub × AllGive Q subs

module _ (Q : Text → List Row → Type 0) where
  entered-gives : (subs : List Shape) → AllGive Q subs → (words : List Text) (name : Text) (rows : List Row) (p : Shape → Bool)
      → option_map_or (λ s. level_fault s [] nothing_held words false []) (find p subs) [] ≡ []
      → option_map (λ s. rows_at s words) (find p subs) ≡ Some (name, rows) → Q name rows
  entered-gives [] all words name rows p none are = cc
  entered-gives (sub ∷ subs) all words name rows p none are = go (p sub) (λ none are. entered-gives subs all.1 words name rows p none are) none are
    where
      go : (b : Bool)
          → (option_map_or (λ s. level_fault s [] nothing_held words false []) (find p subs) [] ≡ []
          → option_map (λ s. rows_at s words) (find p subs) ≡ Some (name, rows) → Q name rows)
          → option_map_or (λ s. level_fault s [] nothing_held words false []) (cond b (Some sub) (find p subs)) [] ≡ []
          → option_map (λ s. rows_at s words) (cond b (Some sub) (find p subs)) ≡ Some (name, rows) → Q name rows
      go true others none are =
          let same : rows_at sub words ≡ (name, rows) = ap (λ (o : Option (Text × List Row)). unwrap_or o (name, rows)) are in
          subst (λ (at : Text × List Row). Q at.0 at.1) same (all.0 words none)
      go false others none are = others none are

  stopped-gives : (a : App) → AllGive Q a.subs → (stop : Option (Text × List Text)) (name : Text) (rows : List Row)
      → entered_fault a stop ≡ [] → entered a stop ≡ Some (name, rows) → Q name rows
  stopped-gives a all None name rows none are = cc
  stopped-gives a all (Some p) name rows none are = entered-gives a.subs all p.1 name rows (λ s. answers_to p.0 (label_of s)) none are

  pub built-gives : (a : App) → AllGive Q a.subs → (words : List Text) (name : Text) (rows : List Row)
      → built_fault a nothing_held words ≡ [] → entered a (walk a.top.rules (names_of a) nothing_held words).stopped ≡ Some (name, rows) → Q name rows
  built-gives a all words name rows none are =
      let stop = (walk a.top.rules (names_of a) nothing_held words).stopped in
      let past_walk = or_nil (walk_fault a.top (names_of a) (walk_from nothing_held) words) _ none in
      stopped-gives a all stop name rows (or_nil (entered_fault a stop) _ past_walk.1).0 are
