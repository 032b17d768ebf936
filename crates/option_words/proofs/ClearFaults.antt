-- Where there is no subcommand `help`, the kinds of error that clap may answer leave no choice
-- between a text to show and anything else.
use Rattle.std.proofs.Common.{◌≡◌, ◌&&◌, ◌||◌, ℕ, Bool, cond, true, false, not, zero, suc, refl, sym, true≢false, List, [], ◌∷◌, length, drop, codes, Option, Some, None, is_some}
use Rattle.std.specs.Prelude.{⊤, ◌+◌, encode_utf8, slice_get, nat_lt, ◌==◌, find, min}
use Rattle.std.specs.Option.{option_map_or}
use Rattle.std.specs.Str.{bytes_eq, chars}
use Rattle.clap.specs.Lexer.{long_of, short_of}
use Rattle.clap.specs.ValueTests.{accepts}
use Rattle.clap.specs.Matches.{count_text}
use Rattle.clap.specs.Facts.{parser_of_value, unwrap_or_range}
use Rattle.clap.specs.Walk.{Held, Names, Row, Rule, Step, Text, Walk, action_of, answers_to, arg_by_id, arg_by_index, arg_by_long, arg_by_short, attached_value, count_of, has_row, is_empty, is_pending, most_values, nothing_held, reacted, settled, subcommand_met, takes_several, takes_values, values_or_missing, walk, walk_from, walked, with_default, word_met, next, trailing, subcommand, value}
use Rattle.clap.specs.Simple.{App, Shape, label_of, names_of}
use Rattle.clap.specs.Values.{refused_kind}
use Rattle.clap.specs.Kinds.{Kinds, check_kinds, or_else, range_kinds, request_kinds, values_kinds}
use Rattle.clap.specs.Faults.{count_fault, set_fault, action_fault, use_fault, settle_fault, react_fault, option_fault, long_fault, short_fault, bundle_step_fault, flags_fault, bundle_fault, flag_word_fault, other_fault, positional_fault, stray_fault, step_fault, turn_fault, walk_fault, given_default_fault, defaults_fault, level_fault, entered_fault, built_fault}
use Rattle.clap.specs.declared.builder.value_parser.ValueParser.{ValueParser}
use Rattle.clap.specs.declared.builder.action.ArgAction.{ArgAction}
use Rattle.clap.specs.declared.builder.action.ArgAction.TheVariants as action
use Rattle.clap.specs.declared.error.kind.ErrorKind.TheVariants as kind

-- no kind, one kind, or the two of a word that is neither an argument nor a subcommand
abbrev pub Clear : Kinds → Type 0
Clear [] = ⊤
Clear (k ∷ []) = ⊤
Clear (k ∷ l ∷ ks) = (k ≡ kind.UnknownArgument) × (l ≡ kind.InvalidSubcommand) × (ks ≡ [])

or_else-clear : (a b : Kinds) → Clear a → Clear b → Clear (or_else a b)
or_else-clear [] b ha hb = hb
or_else-clear (k ∷ ks) b ha hb = ha

cond-clear : (t : Bool) (a b : Kinds) → Clear a → Clear b → Clear (cond t a b)
cond-clear true a b ha hb = ha
cond-clear false a b ha hb = hb

-- ---- one use of an argument

values-clear : (i : Bool) (p : ValueParser) (vs : List Text) → Clear (values_kinds i p vs)
values-clear i p [] = tt
values-clear i p (v ∷ vs) = or_else-clear _ _ (cond-clear (accepts i p v) [] (refused_kind p ∷ []) tt tt) (values-clear i p vs)

range-clear : (least most n : ℕ) → Clear (range_kinds least most n)
range-clear least most n =
    cond-clear (nat_lt 0 least && n == 0) _ _ tt
    (cond-clear (least == most) _ _ (cond-clear (least == n) _ _ tt tt)
    (cond-clear (nat_lt n least) _ _ tt (cond-clear (nat_lt most n) _ _ tt tt)))

request-clear : (x : ArgAction) → Clear (request_kinds x)
request-clear action.Help = tt
request-clear action.HelpShort = tt
request-clear action.HelpLong = tt
request-clear action.Version = tt
request-clear action.Set = tt
request-clear action.Append = tt
request-clear action.SetTrue = tt
request-clear action.SetFalse = tt
request-clear action.Count = tt

count-clear : (a : Rule) (vs : List Text) (rows : List Row) → Clear (count_fault a vs rows)
count-clear a [] rows = cond-clear (accepts a.ignore_case (parser_of_value a.parser) (count_text (min (count_of a.id rows + 1) 255))) _ _ tt tt
count-clear a (v ∷ vs) rows = values-clear a.ignore_case (parser_of_value a.parser) (v ∷ vs)

set-clear : (again : Bool) (a : Rule) (vs : List Text) (rows : List Row) → Clear (set_fault again a vs rows)
set-clear again a vs rows =
    or_else-clear _ _ (cond-clear (has_row a.id rows && not again) _ _ tt tt) (values-clear a.ignore_case (parser_of_value a.parser) vs)

action-clear : (x : ArgAction) (again : Bool) (a : Rule) (vs : List Text) (rows : List Row) → Clear (action_fault x again a vs rows)
action-clear action.Help again a vs rows = tt
action-clear action.HelpShort again a vs rows = tt
action-clear action.HelpLong again a vs rows = tt
action-clear action.Version again a vs rows = tt
action-clear action.Set again a vs rows = set-clear again a vs rows
action-clear action.Append again a vs rows = values-clear a.ignore_case (parser_of_value a.parser) vs
action-clear action.SetTrue again a vs rows = set-clear again a vs rows
action-clear action.SetFalse again a vs rows = set-clear again a vs rows
action-clear action.Count again a vs rows = count-clear a vs rows

use-clear : (again : Bool) (a : Rule) (vs : List Text) (rows : List Row) → Clear (use_fault again a vs rows)
use-clear again a vs rows =
    or_else-clear _ _ (range-clear (unwrap_or_range a.range).start_inclusive (most_values a) (length vs))
    (action-clear (action_of a) again a (values_or_missing a vs) rows)

-- ---- the walk

found-clear : (again : Bool) (found : Option Rule) (vs : List Text) (rows : List Row) → Clear (option_map_or (λ a. use_fault again a vs rows) found [])
found-clear again None vs rows = tt
found-clear again (Some a) vs rows = use-clear again a vs rows

settle-clear : (c : List Rule) (again : Bool) (h : Held) → Clear (settle_fault c again h)
settle-clear c again h = go h.pending
  where
    go : (o : Option (Text × List Text)) → Clear (option_map_or (λ p. option_map_or (λ a. use_fault again a p.1 h.rows) (arg_by_id c p.0) []) o [])
    go None = tt
    go (Some p) = found-clear again (arg_by_id c p.0) p.1 h.rows

react-clear : (c : List Rule) (again : Bool) (a : Rule) (vs : List Text) (h : Held) → Clear (react_fault c again a vs h)
react-clear c again a vs h = or_else-clear _ _ (settle-clear c again h) (use-clear again a vs (settled c h).rows)

option-clear : (c : List Rule) (again : Bool) (a : Rule) (v : Option Text) (h : Held) → Clear (option_fault c again a v h)
option-clear c again a (Some v) h = react-clear c again a (v ∷ []) h
option-clear c again a None h = settle-clear c again h

long-clear : (c : List Rule) (again : Bool) (found : Option Rule) (v : Option Text) (h : Held) → Clear (long_fault c again found v h)
long-clear c again None v h = tt
long-clear c again (Some a) v h =
    cond-clear (takes_values a) _ _ (option-clear c again a v h) (cond-clear (is_some v) _ _ tt (react-clear c again a [] h))

short-clear : (c : List Rule) (again : Bool) (found : Option Rule) (rest : Text) (h : Held) (then : Held → Kinds) → ((x : Held) → Clear (then x))
    → Clear (short_fault c again found rest h then)
short-clear c again None rest h then clear = tt
short-clear c again (Some a) rest h then clear =
    cond-clear (takes_values a) _ _ (option-clear c again a (attached_value rest) h)
    (or_else-clear _ _ (react-clear c again a [] h) (clear (reacted c a [] h)))

step-clear : (c : List Rule) (again : Bool) (o : Option ℕ) (flags : Text) (skip : ℕ) (h : Held) (then : Text → ℕ → Held → Kinds)
    → ((t : Text) (n : ℕ) (x : Held) → Clear (then t n x)) → Clear (bundle_step_fault c again o flags skip h then)
step-clear c again None flags skip h then clear = tt
step-clear c again (Some x) flags zero h then clear =
    let rest = drop (length (encode_utf8 x)) flags in
    short-clear c again (arg_by_short c x) rest h (then rest 0) (clear rest 0)
step-clear c again (Some x) flags (suc skip) h then clear = clear (drop (length (encode_utf8 x)) flags) skip h

flags-clear : (c : List Rule) (again : Bool) (k : ℕ) (flags : Text) (skip : ℕ) (h : Held) → Clear (flags_fault c again k flags skip h)
unfolding flags_fault
flags-clear c again zero flags skip h = tt
flags-clear c again (suc k) flags skip h = step-clear c again (slice_get (chars flags) 0) flags skip h (flags_fault c again k) (flags-clear c again k)

bundle-clear : (c : List Rule) (again : Bool) (o : Option Text) (h : Held) → Clear (option_map_or (λ flags. bundle_fault c again flags h) o [])
bundle-clear c again None h = tt
bundle-clear c again (Some flags) h = flags-clear c again (length flags) flags h.skip (record h { skip = 0 })

flag_word-clear : (c : List Rule) (again : Bool) (o : Option (Text × Option Text)) (word : Text) (h : Held) → Clear (flag_word_fault c again o word h)
flag_word-clear c again (Some p) word h = long-clear c again (arg_by_long c p.0) p.1 h
flag_word-clear c again None word h = bundle-clear c again (short_of word) h

and_not-clear : (t off : Bool) (ks : Kinds) → off ≡ true → Clear (cond (t && not off) ks [])
and_not-clear true true ks e = tt
and_not-clear false true ks e = tt
and_not-clear t false ks e = absurd (true≢false (sym e))

other-clear : (s : Shape) (o : Option Text) (word : Text) (h : Held) → s.disable_help_subcommand ≡ true → Clear (other_fault s o word h)
other-clear s (Some name) word h off = and_not-clear (bytes_eq name (codes "help")) s.disable_help_subcommand _ off
other-clear s None word h off = cond-clear (bytes_eq word (45 ∷ 45 ∷ [])) _ _ tt (flag_word-clear s.rules s.args_override_self (long_of word) word h)

positional-clear : (s : Shape) (o : Option Rule) (h : Held)
    → Clear (option_map_or (λ a. positional_fault s.rules s.args_override_self a h) o (stray_fault s))
positional-clear s None h = cond-clear s.is_leaf _ _ tt (refl, refl, refl)
positional-clear s (Some a) h = cond-clear (is_pending a h.pending && takes_several a) _ _ tt (settle-clear s.rules s.args_override_self h)

step_fault-clear : (s : Shape) (position : ℕ) (h : Held) (step : Step) → Clear (step_fault s position h step)
step_fault-clear s position h value = positional-clear s (arg_by_index s.rules position) h
step_fault-clear s position h (next w) = tt
step_fault-clear s position h (trailing p) = tt
step_fault-clear s position h (subcommand t) = tt

round-clear : (s : Shape) (names : Names) (w : Walk) (word : Text) → s.disable_help_subcommand ≡ true → Clear (turn_fault s names w word)
round-clear s names w word off =
    let met = word_met s.rules names w.is_trailing w.waiting w.position word w.held in
    cond-clear (is_some w.stopped) _ _ tt
    (or_else-clear _ _ (cond-clear w.is_trailing _ _ tt (other-clear s (subcommand_met names w.waiting word) word w.held off))
    (step_fault-clear s w.position met.0 met.1))

walk-clear : (s : Shape) (names : Names) (w : Walk) (words : List Text) → s.disable_help_subcommand ≡ true → Clear (walk_fault s names w words)
unfolding walk_fault
walk-clear s names w [] off = tt
walk-clear s names w (word ∷ rest) off = or_else-clear _ _ (round-clear s names w word off) (walk-clear s names (walked s.rules names w word) rest off)

-- ---- after the walk

given-clear : (a : Rule) (vs : List Text) → Clear (given_default_fault a vs)
given-clear a vs = or_else-clear _ _ (request-clear (action_of a)) (values-clear a.ignore_case (parser_of_value a.parser) vs)

defaults-clear : (rows : List Row) (rules : List Rule) → Clear (defaults_fault rows rules)
unfolding defaults_fault
defaults-clear rows [] = tt
defaults-clear rows (a ∷ rest) =
    or_else-clear _ _ (cond-clear (has_row a.id rows || is_empty a.defaults) _ _ tt (given-clear a a.defaults))
    (defaults-clear (with_default rows a) rest)

check-clear : (help command argument : Bool) → Clear (check_kinds help command argument)
check-clear help command argument = cond-clear help _ _ tt (cond-clear command _ _ tt (cond-clear argument _ _ tt tt))

level-clear : (s : Shape) (names : Names) (h : Held) (words : List Text) (has : Bool) (below : Kinds) → s.disable_help_subcommand ≡ true → Clear below
    → Clear (level_fault s names h words has below)
level-clear s names h words has below off clear =
    let end = (walk s.rules names h words).held in
    or_else-clear _ _ (walk-clear s names (walk_from h) words off)
    (or_else-clear _ _ clear
    (or_else-clear _ _ (settle-clear s.rules s.args_override_self end)
    (or_else-clear _ _ (defaults-clear (settled s.rules end).rows s.rules) (check-clear _ _ _))))

-- none of some subcommands has a subcommand `help`
abbrev pub AreOff : List Shape → Type 0
AreOff [] = ⊤
AreOff (sub ∷ subs) = (sub.disable_help_subcommand ≡ true) × AreOff subs

subs-clear : (p : Shape → Bool) (subs : List Shape) (words : List Text) → AreOff subs
    → Clear (option_map_or (λ x. level_fault x [] nothing_held words false []) (find p subs) [])
subs-clear p [] words off = tt
subs-clear p (sub ∷ subs) words off = go (p sub) (subs-clear p subs words off.1)
  where
    go : (b : Bool) → Clear (option_map_or (λ x. level_fault x [] nothing_held words false []) (find p subs) [])
        → Clear (option_map_or (λ x. level_fault x [] nothing_held words false []) (cond b (Some sub) (find p subs)) [])
    go true others = level-clear sub [] nothing_held words false [] off.0 tt
    go false others = others

-- a command with subcommands
pub built-clear : (a : App) (h : Held) (words : List Text) → a.top.disable_help_subcommand ≡ true → AreOff a.subs → Clear (built_fault a h words)
built-clear a h words top_off subs_off =
    level-clear a.top (names_of a) h words _ _ top_off (go (walk a.top.rules (names_of a) h words).stopped)
  where
    go : (o : Option (Text × List Text)) → Clear (entered_fault a o)
    go None = tt
    go (Some p) = subs-clear (λ s. answers_to p.0 (label_of s)) a.subs p.1 subs_off
