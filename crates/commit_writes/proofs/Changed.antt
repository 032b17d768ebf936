-- The changes of a sound batch insert, rewrite and erase the pieces of its commit.
use Rattle.std.proofs.Common.{◌≡◌, ℕ, ◌<◌, ◌≤◌, true, false, not, ◌||◌, cond, Bool, Option, Some, None, List, [], ◌∷◌, ◌++◌, reverse, filter, flat_map, IsTrue, Contains, inl, inr, refl, sym, ap, ap₂, subst, ◌∙◌, arith, ltb-true, eq-eqb}
use Rattle.std.specs.Prelude.{AllPairs, nat_eq, nat_lt, option_map}
use Rattle.std.specs.List.{filter_map, cons_option}
use Rattle.std.specs.Option.{option_or}
use Rattle.std.proofs.lemmas.Bool.{cases_Bool, cases_eq, cond-true, cond-false, both_ways, ne_eqb}
use Rattle.std.proofs.lemmas.List.{append-nil, reverse-append}
use Rattle.std.proofs.lemmas.List.Folds.{flat_map-map}
use Rattle.std.proofs.lemmas.List.Elements.{All-contains, filter_map-append}
use Rattle.slot_order.proofs.Lists.{AllByRecursion-member, contains_head, contains_tail, contains_cases, contains_none, any_from, in_filter, filter_nothing}
use Rattle.rule_model.specs.declared.Rule.{Rule}
use Rattle.rule_model.specs.declared.Piece.{Piece}
use Rattle.rule_model.specs.RuleSet.{IsRuleSet, rule_at}
use Rattle.rule_model.specs.Piece.{same_piece}
use Rattle.rule_model.proofs.Pairs.{pairs_head, pairs_tail}
use Rattle.rule_model.proofs.Parts.{same_piece-self}
use Rattle.rule_store.specs.declared.Mode.{Mode}
use Rattle.rule_store.specs.declared.Command.{Command}
use Rattle.rule_store.specs.Batch.{removes, IsSound, additions, with_result_after, set_after}
use Rattle.rule_store.specs.Verdict.{pieces_of, has_piece, replaced_rule, added_pieces, added_pieces_over}
use Rattle.rule_store.proofs.Additions.{new_rules, new_rules-member, additions_set}
use Rattle.rule_store.proofs.After.{set_after-set}
use Rattle.rule_store.proofs.AfterAt.{own_priority, rule_at-filter, after_at}
use Rattle.rule_store.proofs.Falling.{IsRuleSet-filter}
use Rattle.rule_store.proofs.Members.{sound-gone}
use Rattle.rule_store.proofs.RulesAt.{cases_rule_at}
use Rattle.rule_store.proofs.Sets.{has_priority-found}
use Rattle.rule_model.specs.Entry.{RankedPiece}
use Rattle.commit_writes.specs.Bits.{FieldBits}
use Rattle.commit_writes.specs.Shape.{names, common_pieces, ranked_piece, ranked_pieces, inserted_pieces, rewritten_pieces, erased_pieces}
use Rattle.commit_writes.proofs.BatchRules.{added_named, unnamed_stays}
use Rattle.commit_writes.proofs.ModePieces.{pieces_after}
use Rattle.commit_writes.specs.declared.batch.pieces.Choice.TheVariants.{Common, Fresh}
use Rattle.commit_writes.specs.Changes.{RuleChange, AreChanges, names_at, change_at, pieces_at, is_among, chosen_pieces, inserted_by, rewritten_by, erased_by}
use Rattle.commit_writes.proofs.Named.{map_reverse}

-- the images of what is found, if something is
abbrev images_at : {X Y : Type 0} → (X → List Y) → Option X → List Y
images_at images None = []
images_at images (Some x) = images x

-- a list of what is found at each of some elements
images_found : {X Y Z : Type 0} (F : X → List Z) (images : Y → List Z) (find : X → Option Y) (xs : List X) → ((x : X) → Contains xs x → F x ≡ images_at images (find x)) → flat_map F xs ≡ flat_map images (filter_map find xs)
images_found F images find [] same = refl
images_found F images find (x ∷ xs) same =
    ap₂ (λ first rest. first ++ rest) (same x (contains_head x xs)) (images_found F images find xs (λ y member. same y (contains_tail x y xs member))) ∙ listed (find x)
  where
    listed : (found : Option _) → images_at images found ++ flat_map images (filter_map find xs) ≡ flat_map images (cons_option found (filter_map find xs))
    listed None = refl
    listed (Some y) = refl

found_reverse : {X Y : Type 0} (find : X → Option Y) (xs : List X) → filter_map find (reverse xs) ≡ reverse (filter_map find xs)
found_reverse find [] = refl
found_reverse find (x ∷ xs) =
    ap (filter_map find) (reverse-append (x ∷ []) xs) ∙ filter_map-append find (reverse xs) (x ∷ []) ∙ ap (λ some. some ++ filter_map find (x ∷ [])) (found_reverse find xs) ∙ listed (find x)
  where
    listed : (found : Option _) → reverse (filter_map find xs) ++ cons_option found [] ≡ reverse (cons_option found (filter_map find xs))
    listed None = append-nil _
    listed (Some y) = sym (reverse-append (y ∷ []) (filter_map find xs))

found_agree : {X Y : Type 0} (f g : X → Option Y) (xs : List X) → ((x : X) → Contains xs x → f x ≡ g x) → filter_map f xs ≡ filter_map g xs
found_agree f g [] same = refl
found_agree f g (x ∷ xs) same = ap₂ cons_option (same x (contains_head x xs)) (found_agree f g xs (λ y member. same y (contains_tail x y xs member)))

found_none : (priorities : List ℕ) → filter_map (rule_at []) priorities ≡ []
found_none [] = refl
found_none (priority ∷ priorities) = found_none priorities

-- at priorities that fall, among them all of a set, its rules are found
found_all : (rules : List Rule) (priorities : List ℕ) → IsRuleSet rules → AllPairs (λ a b. b < a) priorities → ((rule : Rule) → Contains rules rule → Contains priorities rule.priority) → filter_map (rule_at rules) priorities ≡ rules
found_all [] priorities set falls all = found_none priorities
found_all (rule ∷ rules) [] set falls all = absurd (contains_none _ (all rule (contains_head rule rules)))
found_all (rule ∷ rules) (first ∷ rest) set falls all = elim (cases_eq rule.priority first) [
  | inl same ↦
      ap₂ cons_option (cond-true _ _ _ (eq-eqb _ _ same)) (found_agree (rule_at (rule ∷ rules)) (rule_at rules) rest
      (λ priority member. cond-false _ _ _ (lower_apart same priority (below priority member))))
      ∙ ap (λ some. rule ∷ some) (found_all rules rest set.1 (pairs_tail (λ a b. b < a) first rest falls) (λ other member. elim (contains_cases first other.priority rest (all other (contains_tail rule other rules member))) [
        | inl here ↦ let less = lower other member in let at : first ≡ other.priority = here in absurd (omega arith)
        | inr later ↦ later
      ]))
  | inr differ ↦ elim (contains_cases first rule.priority rest (all rule (contains_head rule rules))) [
    | inl here ↦ absurd (differ (sym here))
    | inr later ↦
        let less = below rule.priority later in
        ap (λ found. cons_option found (filter_map (rule_at (rule ∷ rules)) rest)) (absent less)
        ∙ found_all (rule ∷ rules) rest set (pairs_tail (λ a b. b < a) first rest falls) (λ other member. elim (contains_cases first other.priority rest (all other member)) [
          | inl here ↦ let most = highest other member in let at : first ≡ other.priority = here in absurd (omega arith)
          | inr behind ↦ behind
        ])
  ]
]
  where
    lower_apart : rule.priority ≡ first → (priority : ℕ) → priority < first → nat_eq rule.priority priority ≡ false
    lower_apart at priority less = ne_eqb rule.priority priority (λ same. let here : rule.priority ≡ priority = same in omega arith)

    below : (priority : ℕ) → Contains rest priority → priority < first
    below priority member = All-contains (λ b. b < first) rest priority (pairs_head (λ a b. b < a) first rest falls) member

    lower : (other : Rule) → Contains rules other → other.priority < rule.priority
    lower other member = ltb-true other.priority rule.priority (AllByRecursion-member (λ (one : Rule). IsTrue (nat_lt one.priority rule.priority)) rules other set.0 member)

    highest : (other : Rule) → Contains (rule ∷ rules) other → other.priority ≤ rule.priority
    highest other member = elim (contains_cases rule other rules member) [
      | inl is ↦ let own : rule.priority ≡ other.priority = ap (λ (r : Rule). r.priority) is in omega arith
      | inr behind ↦ let under = lower other behind in omega arith
    ]

    absent : rule.priority < first → rule_at (rule ∷ rules) first ≡ None
    absent less = elim (cases_rule_at (rule ∷ rules) first) [
      | inr none ↦ none.0
      | inl found ↦ absurd (let most = highest found.0 found.2 in let at = found.3 in omega arith)
    ]

-- whether a piece is among others doesn't rest on priorities, results and bits
among_has : (bits : FieldBits) (other rule : Rule) (others : List Piece) (piece : Piece) → is_among (ranked_pieces bits other others) (ranked_piece bits rule piece) ≡ has_piece others piece
among_has bits other rule [] piece = refl
among_has bits other rule (first ∷ others) piece = ap (λ later. same_piece piece first || later) (among_has bits other rule others piece)

ranked_kept : (bits : FieldBits) (keeps : RankedPiece → Bool) (test : Piece → Bool) (rule : Rule) (pieces : List Piece) → ((piece : Piece) → keeps (ranked_piece bits rule piece) ≡ test piece)
    → filter keeps (ranked_pieces bits rule pieces) ≡ ranked_pieces bits rule (filter test pieces)
ranked_kept bits keeps test rule [] same = refl
ranked_kept bits keeps test rule (piece ∷ pieces) same =
    ap₂ (λ passes rest. cond passes (ranked_piece bits rule piece ∷ rest) rest) (same piece) (ranked_kept bits keeps test rule pieces same) ∙ either (test piece)
  where
    either : (passes : Bool) → cond passes (ranked_piece bits rule piece ∷ ranked_pieces bits rule (filter test pieces)) (ranked_pieces bits rule (filter test pieces))
        ≡ ranked_pieces bits rule (cond passes (piece ∷ filter test pieces) (filter test pieces))
    either true = refl
    either false = refl

all_kept : {X : Type 0} (xs : List X) → filter (λ x. true) xs ≡ xs
all_kept [] = refl
all_kept (x ∷ xs) = ap (λ rest. x ∷ rest) (all_kept xs)

-- the fresh pieces of a rule are those that it adds over another one, and those that go where the other comes in its place
fresh_added : (mode : Mode) (bits : FieldBits) (other : Option Rule) (rule : Rule)
    → chosen_pieces Fresh (pieces_at mode bits other) (pieces_at mode bits (Some rule)) ≡ ranked_pieces bits rule (added_pieces_over mode other rule)
fresh_added mode bits None rule = all_kept (ranked_pieces bits rule (pieces_of mode rule))
fresh_added mode bits (Some old) rule =
    ranked_kept bits _ (λ piece. not (has_piece (pieces_of mode old) piece)) rule (pieces_of mode rule) (λ piece. ap not (among_has bits old rule (pieces_of mode old) piece))

-- and the common ones stay
common_stay : (mode : Mode) (bits : FieldBits) (other : Option Rule) (rule : Rule)
    → chosen_pieces Common (pieces_at mode bits other) (pieces_at mode bits (Some rule)) ≡ ranked_pieces bits rule (common_pieces mode other rule)
common_stay mode bits None rule = filter_nothing (λ x. false) (ranked_pieces bits rule (pieces_of mode rule)) (λ x member. refl)
common_stay mode bits (Some old) rule =
    ranked_kept bits _ (has_piece (pieces_of mode old)) rule (pieces_of mode rule) (λ piece. among_has bits old rule (pieces_of mode old) piece)

-- of a rule whose result alone changes no piece is fresh, be it the old one or the new one
none_fresh : (pieces others : List Piece) → others ≡ pieces → filter (λ piece. not (has_piece others piece)) pieces ≡ []
none_fresh pieces others same = filter_nothing (λ piece. not (has_piece others piece)) pieces
    (λ piece member. ap not (any_from (same_piece piece) others piece (subst (λ some. Contains some piece) (sym same) member) (same_piece-self piece)))

module _ (mode : Mode) (bits : FieldBits) (rules : List Rule) (batch : List Command) (is_set : IsRuleSet rules) (sound : IsSound rules batch) where
  stands_after : (priority : ℕ) (new old : Option Rule) (gone : Bool) → rule_at (additions batch) priority ≡ new → rule_at rules priority ≡ old → removes priority batch ≡ gone
      → change_at rules batch priority ≡ record { old = old; new = option_or new (option_map (with_result_after batch) (cond (not gone) old None)) }
  stands_after priority new old gone is_new is_old is_gone =
      ap (λ after. record { old = rule_at rules priority; new = after }) (after_at rules batch priority (set_after-set rules batch is_set sound))
      ∙ (ap₂ (λ new gone. record { old = rule_at rules priority; new = option_or new (option_map (with_result_after batch) (cond (not gone) (rule_at rules priority) None)) }) is_new is_gone
      ∙ ap (λ old. record { old = old; new = option_or new (option_map (with_result_after batch) (cond (not gone) old None)) }) is_old)

  abbrev pub inserts : Rule → List RankedPiece
  inserts new = ranked_pieces bits new (added_pieces mode rules new)

  -- what the change at a priority inserts
  inserted_at : (priority : ℕ) → inserted_by mode bits (change_at rules batch priority) ≡ images_at inserts (rule_at (new_rules batch) priority)
  inserted_at priority = go (rule_at (additions batch) priority) (rule_at rules priority) (removes priority batch) refl refl refl
    where
      nothing_kept : (keeps : Bool) → option_map (with_result_after batch) (cond keeps None None) ≡ None
      nothing_kept true = refl
      nothing_kept false = refl

      new_at : rule_at (new_rules batch) priority ≡ option_or (rule_at (additions batch) priority) None
      new_at = after_at [] batch priority (additions_set rules batch sound) ∙ ap (option_or (rule_at (additions batch) priority)) (nothing_kept (not (removes priority batch)))

      go : (new old : Option Rule) (gone : Bool) → rule_at (additions batch) priority ≡ new → rule_at rules priority ≡ old → removes priority batch ≡ gone
          → inserted_by mode bits (change_at rules batch priority) ≡ images_at inserts (rule_at (new_rules batch) priority)
      go (Some new) old gone is_new is_old is_gone =
          ap (inserted_by mode bits) (stands_after priority (Some new) old gone is_new is_old is_gone) ∙ fresh_added mode bits old new
          ∙ ap (λ found. ranked_pieces bits new (added_pieces_over mode found new)) (sym (ap (rule_at rules) (own_priority (additions batch) priority new is_new) ∙ is_old))
          ∙ sym (ap (images_at inserts) (new_at ∙ ap (λ found. option_or found None) is_new))
      go None None gone is_new is_old is_gone = ap (inserted_by mode bits) (stands_after priority None None gone is_new is_old is_gone) ∙ nothing gone ∙ sym (ap (images_at inserts) (new_at ∙ ap (λ found. option_or found None) is_new))
        where
          nothing : (gone : Bool) → inserted_by mode bits (record { old = None; new = option_map (with_result_after batch) (cond (not gone) None None) }) ≡ []
          nothing true = refl
          nothing false = refl
      go None (Some old) gone is_new is_old is_gone =
          ap (inserted_by mode bits) (stands_after priority None (Some old) gone is_new is_old is_gone) ∙ nothing gone ∙ sym (ap (images_at inserts) (new_at ∙ ap (λ found. option_or found None) is_new))
        where
          nothing : (gone : Bool) → inserted_by mode bits (record { old = Some old; new = option_map (with_result_after batch) (cond (not gone) (Some old) None) }) ≡ []
          nothing true = refl
          nothing false = fresh_added mode bits (Some old) (with_result_after batch old)
              ∙ ap (ranked_pieces bits (with_result_after batch old)) (none_fresh (pieces_of mode (with_result_after batch old)) (pieces_of mode old) (sym (pieces_after mode batch old)))

  abbrev pub rewrites : Rule → List RankedPiece
  rewrites new = ranked_pieces bits new (common_pieces mode (replaced_rule rules new) new)

  rewritten_at : (priority : ℕ) → IsTrue (names_at batch priority) → rewritten_by mode bits (change_at rules batch priority) ≡ images_at rewrites (rule_at (filter (names batch) (set_after rules batch)) priority)
  rewritten_at priority named =
      go (rule_at (set_after rules batch) priority) refl ∙ sym (ap (images_at rewrites) (rule_at-filter (names_at batch) (set_after rules batch) priority ∙ cond-true _ _ _ named))
    where
      go : (new : Option Rule) → rule_at (set_after rules batch) priority ≡ new → rewritten_by mode bits (record { old = rule_at rules priority; new = new }) ≡ images_at rewrites new
      go None is = refl
      go (Some new) is = common_stay mode bits (rule_at rules priority) new
          ∙ ap (λ n. ranked_pieces bits new (common_pieces mode (rule_at rules n) new)) (sym (own_priority (set_after rules batch) priority new is))

  abbrev pub erases : Rule → List RankedPiece
  erases old = ranked_pieces bits old (added_pieces_over mode (rule_at (additions batch) old.priority) old)

  abbrev pub removed : List Rule
  removed = filter (λ rule. removes rule.priority batch) rules

  erased_at : (priority : ℕ) → erased_by mode bits (change_at rules batch priority) ≡ images_at erases (rule_at removed priority)
  erased_at priority = go (rule_at (additions batch) priority) (rule_at rules priority) (removes priority batch) refl refl refl
    where
      gone_at : (old : Option Rule) (gone : Bool) → rule_at rules priority ≡ old → removes priority batch ≡ gone → rule_at removed priority ≡ cond gone old None
      gone_at old gone is_old is_gone = rule_at-filter (λ n. removes n batch) rules priority ∙ ap₂ (λ (test : Bool) (found : Option Rule). cond test found None) is_gone is_old

      go : (new old : Option Rule) (gone : Bool) → rule_at (additions batch) priority ≡ new → rule_at rules priority ≡ old → removes priority batch ≡ gone
          → erased_by mode bits (change_at rules batch priority) ≡ images_at erases (rule_at removed priority)
      go new None gone is_new is_old is_gone = ap (erased_by mode bits) (stands_after priority new None gone is_new is_old is_gone) ∙ sym (ap (images_at erases) (gone_at None gone is_old is_gone) ∙ nothing gone)
        where
          nothing : (gone : Bool) → images_at erases (cond gone None None) ≡ []
          nothing true = refl
          nothing false = refl
      go new (Some old) true is_new is_old is_gone =
          ap (erased_by mode bits) (stands_after priority new (Some old) true is_new is_old is_gone) ∙ ap (λ found. erased_by mode bits (record { old = Some old; new = found })) (or_none new)
          ∙ fresh_added mode bits new old ∙ ap (λ found. ranked_pieces bits old (added_pieces_over mode found old)) (sym (ap (rule_at (additions batch)) (own_priority rules priority old is_old) ∙ is_new))
          ∙ sym (ap (images_at erases) (gone_at (Some old) true is_old is_gone))
        where
          or_none : (found : Option Rule) → option_or found None ≡ found
          or_none None = refl
          or_none (Some rule) = refl
      go (Some new) (Some old) false is_new is_old is_gone = absurd (elim (sound-gone rules batch priority sound (has_priority-found (additions batch) priority new is_new)) [
        | inl absent ↦ both_ways _ absent (has_priority-found rules priority old is_old)
        | inr goes ↦ both_ways _ is_gone goes
      ])
      go None (Some old) false is_new is_old is_gone =
          ap (erased_by mode bits) (stands_after priority None (Some old) false is_new is_old is_gone) ∙ fresh_added mode bits (Some (with_result_after batch old)) old
          ∙ ap (ranked_pieces bits old) (none_fresh (pieces_of mode old) (pieces_of mode (with_result_after batch old)) (pieces_after mode batch old)) ∙ sym (ap (images_at erases) (gone_at (Some old) false is_old is_gone))

  module _ (changes : List RuleChange) (are : AreChanges rules batch changes) where
    -- the rules of a set whose priorities the batch names are found there
    found : (set : List Rule) → IsRuleSet set → ((rule : Rule) → Contains set rule → IsTrue (names batch rule)) → filter_map (rule_at set) are.priorities ≡ set
    found set is_one named = found_all set are.priorities is_one are.falling (λ rule member. (are.named rule.priority).1 (named rule member))

    inserted_are : flat_map (inserted_by mode bits) changes ≡ inserted_pieces mode bits rules batch
    inserted_are =
        ap (flat_map (inserted_by mode bits)) are.are ∙ flat_map-map (inserted_by mode bits) (change_at rules batch) are.priorities
        ∙ images_found (λ priority. inserted_by mode bits (change_at rules batch priority)) inserts (rule_at (new_rules batch)) are.priorities (λ priority member. inserted_at priority)
        ∙ ap (flat_map inserts) (found (new_rules batch) (additions_set rules batch sound) (λ rule member. added_named batch rule (new_rules-member batch rule member)))

    rewritten_are : flat_map (rewritten_by mode bits) changes ≡ rewritten_pieces mode bits rules batch
    rewritten_are =
        ap (flat_map (rewritten_by mode bits)) are.are ∙ flat_map-map (rewritten_by mode bits) (change_at rules batch) are.priorities
        ∙ images_found (λ priority. rewritten_by mode bits (change_at rules batch priority)) rewrites (rule_at changed) are.priorities (λ priority member. rewritten_at priority ((are.named priority).0 member))
        ∙ ap (flat_map rewrites) (found changed (IsRuleSet-filter (names batch) (set_after rules batch) (set_after-set rules batch is_set sound)) (λ rule member. (in_filter (names batch) (set_after rules batch) rule member).1))
      where
        changed : List Rule
        changed = filter (names batch) (set_after rules batch)

    erased_are : flat_map (erased_by mode bits) (reverse changes) ≡ erased_pieces mode bits rules batch
    erased_are =
        ap (λ some. flat_map (erased_by mode bits) (reverse some)) are.are ∙ ap (flat_map (erased_by mode bits)) (sym (map_reverse (change_at rules batch) are.priorities)) ∙ flat_map-map (erased_by mode bits) (change_at rules batch) (reverse are.priorities)
        ∙ images_found (λ priority. erased_by mode bits (change_at rules batch priority)) erases (rule_at removed) (reverse are.priorities) (λ priority member. erased_at priority)
        ∙ ap (flat_map erases) (found_reverse (rule_at removed) are.priorities ∙ ap reverse (found removed (IsRuleSet-filter (λ rule. removes rule.priority batch) rules is_set) named))
      where
        named : (rule : Rule) → Contains removed rule → IsTrue (names batch rule)
        named rule member = elim (cases_Bool (names batch rule)) [
          | inl is ↦ is
          | inr none ↦ absurd (both_ways _ (unnamed_stays batch rule none) (in_filter (λ one. removes one.priority batch) rules rule member).1)
        ]

-- so their pieces are those of the commit
pub record ArePieces (mode : Mode) (bits : FieldBits) (rules : List Rule) (batch : List Command) (changes : List RuleChange) : Type 0 where
  pub inserted : flat_map (inserted_by mode bits) changes ≡ inserted_pieces mode bits rules batch
  pub rewritten : flat_map (rewritten_by mode bits) changes ≡ rewritten_pieces mode bits rules batch
  pub erased : flat_map (erased_by mode bits) (reverse changes) ≡ erased_pieces mode bits rules batch

pub pieces_are : (mode : Mode) (bits : FieldBits) (rules : List Rule) (batch : List Command) → IsRuleSet rules → IsSound rules batch → (changes : List RuleChange) → AreChanges rules batch changes
    → (listed : List RuleChange) → listed ≡ changes → ArePieces mode bits rules batch listed
pieces_are mode bits rules batch set sound changes are listed same = subst (ArePieces mode bits rules batch) (sym same) (record {
  inserted = inserted_are mode bits rules batch set sound changes are;
  rewritten = rewritten_are mode bits rules batch set sound changes are;
  erased = erased_are mode bits rules batch set sound changes are;
})
