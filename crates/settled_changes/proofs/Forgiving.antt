-- Forgiving requests: they are always taken, they name only what differs, and once settled they come to nothing.
use Rattle.std.proofs.Common.{◌≡◌, ℕ, Bool, true, false, not, ◌||◌, Option, Some, None, List, [], ◌∷◌, ◌++◌, filter, map, fold, IsFalse, inl, inr, refl, sym, ap, ap₂, subst, ◌∙◌, eqb-true, eq-eqb}
use Rattle.std.specs.Prelude.{nat_eq, is_some}
use Rattle.std.specs.List.{list_any}
use Rattle.std.specs.Option.{option_or}
use Rattle.std.proofs.lemmas.Bool.{cases_Bool, cond-true, cond-false, or_parts, not_from_false, not_from_true}
use Rattle.std.proofs.lemmas.List.Elements.{filter-append}
use Rattle.std.proofs.lemmas.List.Sums.{fold-append}
use Rattle.slot_order.proofs.Lists.{all_append}
use Rattle.rule_model.specs.declared.Rule.{Rule}
use Rattle.rule_model.specs.RuleSet.{IsRuleSet, rule_at, has_priority}
use Rattle.rule_model.specs.Piece.{whole_piece}
use Rattle.rule_model.proofs.Parts.{same_piece-self}
use Rattle.rule_store.specs.declared.Command.{Command}
use Rattle.rule_store.specs.Batch.{named_priority, commands_naming, set_after}
use Rattle.rule_store.proofs.Sets.{has_priority-found}
use Rattle.settled_changes.specs.declared.Request.{Request}
use Rattle.settled_changes.specs.declared.Request.TheVariants.{Strict, Put, Drop}
use Rattle.settled_changes.specs.Requests.{asked_priority, is_strict, requests_naming, is_strictly_asked, request_fault, requests_fault_after, AreTaken, asked_set}
use Rattle.settled_changes.specs.Settled.{put_change, drop_change, settled, drops_of, whole_requests}
use Rattle.settled_changes.specs.Laws.{is_named, ChangesOnlyWhatDiffers, MakesTheLeastChange, IsSettledOnce, GivesTheWholeSet}
use Rattle.settled_changes.proofs.At.{behind, rule_behind, none-later, at-asked, asked-set, sets-same}
use Rattle.settled_changes.proofs.EachKind.{AreForgiving}
use Rattle.settled_changes.proofs.Leads.{settled-leads, present-is}
use Rattle.settled_changes.proofs.Fits.{Fits, fits_none, after-fits}
use Rattle.settled_changes.proofs.Naming.{settled_naming, naming-settled}

-- no strict request at a priority
none-strict : (priority : ℕ) (requests : List Request) → AreForgiving requests → is_strictly_asked priority requests ≡ false
none-strict priority [] all = refl
none-strict priority (request ∷ requests) all = elim (cases_Bool (nat_eq (asked_priority request) priority)) [
  | inl names ↦ ap (list_any is_strict) (cond-true _ _ _ names) ∙ ap₂ (λ (a b : Bool). a || b) all.0 (none-strict priority requests all.1)
  | inr other ↦ ap (list_any is_strict) (cond-false _ _ _ other) ∙ none-strict priority requests all.1
]

-- forgiving requests are taken
taken-on : (rules : List Rule) (earlier later : List Request) → AreForgiving earlier → AreForgiving later → requests_fault_after rules earlier later ≡ None
taken-on rules earlier [] before all = refl
taken-on rules earlier (request ∷ later) before all = ap₂ option_or (one request all.0) (taken-on rules (earlier ++ request ∷ []) later (all_append (λ r. IsFalse (is_strict r)) earlier (request ∷ []) before (all.0, tt)) all.1)
  where
    one : (request : Request) → IsFalse (is_strict request) → request_fault rules earlier request ≡ None
    one (Strict command) forgiving = absurd (let bad : true ≡ false = forgiving in cc)
    one (Put rule) forgiving = cond-false _ _ _ (none-strict rule.priority earlier before)
    one (Drop priority) forgiving = cond-false _ _ _ (none-strict priority earlier before)

pub forgiving-taken : (rules : List Rule) (requests : List Request) → AreForgiving requests → AreTaken rules requests
forgiving-taken rules requests all = taken-on rules [] requests tt all

-- those at a priority are forgiving
naming-forgiving : (priority : ℕ) (requests : List Request) → AreForgiving requests → AreForgiving (requests_naming priority requests)
naming-forgiving priority [] all = tt
naming-forgiving priority (request ∷ requests) all = elim (cases_Bool (nat_eq (asked_priority request) priority)) [
  | inl names ↦ subst AreForgiving (sym (cond-true _ _ _ names)) (all.0, naming-forgiving priority requests all.1)
  | inr other ↦ subst AreForgiving (sym (cond-false _ _ _ other)) (naming-forgiving priority requests all.1)
]

-- where what they lead to stands already they come to nothing
put-same : (rule : Rule) → put_change (Some rule) rule ≡ []
put-same rule = cond-false _ _ _ (not_from_true _ (same_piece-self (whole_piece rule))) ∙ cond-true _ _ _ (eq-eqb rule.result rule.result refl)

nothing-left : (old : Option Rule) (requests : List Request) → AreForgiving requests → old ≡ fold behind old requests → settled_naming old requests ≡ []
nothing-left old [] all is = refl
nothing-left old (Strict command ∷ later) all is = absurd (let bad : true ≡ false = all.0 in cc)
nothing-left old (Put rule ∷ []) all is = ap (λ found. put_change found rule) is ∙ put-same rule
nothing-left old (Drop dropped ∷ []) all is = ap (λ found. drop_change found dropped) is
nothing-left old (Put rule ∷ next ∷ later) all is = nothing-left old (next ∷ later) all.1 (is ∙ ap (λ now. fold behind now later) (forgets next (Some rule) old all.1.0))
  where
    forgets : (request : Request) (a b : Option Rule) → IsFalse (is_strict request) → behind a request ≡ behind b request
    forgets (Strict command) a b forgiving = absurd (let bad : true ≡ false = forgiving in cc)
    forgets (Put other) a b forgiving = refl
    forgets (Drop other) a b forgiving = refl
nothing-left old (Drop dropped ∷ next ∷ later) all is = nothing-left old (next ∷ later) all.1 (is ∙ ap (λ now. fold behind now later) (forgets next None old all.1.0))
  where
    forgets : (request : Request) (a b : Option Rule) → IsFalse (is_strict request) → behind a request ≡ behind b request
    forgets (Strict command) a b forgiving = absurd (let bad : true ≡ false = forgiving in cc)
    forgets (Put other) a b forgiving = refl
    forgets (Drop other) a b forgiving = refl

-- a priority that no command of a batch names has none at it, and the other way round
pub named-none : (priority : ℕ) (batch : List Command) → is_named priority batch ≡ false → commands_naming priority batch ≡ []
named-none priority [] none = refl
named-none priority (command ∷ batch) none =
    let parts = or_parts (nat_eq (named_priority command) priority) (is_named priority batch) none in
    cond-false _ _ _ parts.0 ∙ named-none priority batch parts.1

none-named : (priority : ℕ) (batch : List Command) → commands_naming priority batch ≡ [] → is_named priority batch ≡ false
none-named priority [] none = refl
none-named priority (command ∷ batch) none = elim (cases_Bool (nat_eq (named_priority command) priority)) [
  | inl names ↦ absurd (let bad : command ∷ commands_naming priority batch ≡ [] = sym (cond-true _ _ _ names) ∙ none in cc)
  | inr other ↦ ap (λ test. test || is_named priority batch) other ∙ none-named priority batch (sym (cond-false _ _ _ other) ∙ none)
]

-- only what differs is named
pub only-what-differs : ChangesOnlyWhatDiffers
only-what-differs rules requests priority is_set all named same =
    let nothing : settled_naming (rule_at rules priority) (requests_naming priority requests) ≡ [] =
    nothing-left (rule_at rules priority) (requests_naming priority requests) (naming-forgiving priority requests all) (same ∙ at-asked rules requests priority) in
    let none : is_named priority (settled rules requests) ≡ false = none-named priority (settled rules requests) (naming-settled rules requests priority ∙ nothing) in
    let bad : true ≡ false = sym named ∙ none in cc

pub least-change : MakesTheLeastChange
least-change rules requests batch priority is_set all sound leads named = elim (cases_Bool (is_named priority batch)) [
  | inl is ↦ is
  | inr none ↦
      let unnamed : commands_naming priority batch ≡ [] = named-none priority batch none in
      let stays : rule_at (set_after rules batch) priority ≡ rule_at rules priority =
      after-fits rules batch priority true is_set sound (subst (Fits true priority) (sym unnamed) fits_none) ∙ ap (fold rule_behind (rule_at rules priority)) unnamed in
      absurd (only-what-differs rules requests priority is_set all named
      (sym stays ∙ ap (λ set. rule_at set priority) (leads ∙ settled-leads rules requests is_set (forgiving-taken rules requests all))))
]

-- what stands at a priority behind forgiving requests stays there behind them
behind-again : (old : Option Rule) (requests : List Request) → AreForgiving requests → fold behind old requests ≡ fold behind (fold behind old requests) requests
behind-again old [] all = refl
behind-again old (Strict command ∷ later) all = absurd (let bad : true ≡ false = all.0 in cc)
behind-again old (Put rule ∷ later) all = refl
behind-again old (Drop dropped ∷ later) all = refl

unnamed-none : (batch : List Command) → ((priority : ℕ) → is_named priority batch ≡ false) → batch ≡ []
unnamed-none [] none = refl
unnamed-none (command ∷ batch) none =
    absurd (let own : nat_eq (named_priority command) (named_priority command) ≡ true = eq-eqb (named_priority command) (named_priority command) refl in
    let bad : true ≡ false = sym own ∙ (or_parts _ _ (none (named_priority command))).0 in cc)

pub settled-once : IsSettledOnce
settled-once rules requests is_set all =
    subst (λ set. settled set requests ≡ []) (sym (settled-leads rules requests is_set (forgiving-taken rules requests all))) (unnamed-none (settled now requests) none)
  where
    now : List Rule
    now = asked_set rules requests

    again : (priority : ℕ) → rule_at now priority ≡ rule_at (asked_set now requests) priority
    again priority =
        at-asked rules requests priority ∙ behind-again (rule_at rules priority) (requests_naming priority requests) (naming-forgiving priority requests all)
        ∙ ap (λ old. fold behind old (requests_naming priority requests)) (sym (at-asked rules requests priority)) ∙ sym (at-asked now requests priority)

    none : (priority : ℕ) → is_named priority (settled now requests) ≡ false
    none priority = elim (cases_Bool (is_named priority (settled now requests))) [
      | inr unnamed ↦ unnamed
      | inl named ↦ absurd (only-what-differs now requests priority (asked-set rules requests is_set) all named (again priority))
    ]

-- the requests of a whole new set are forgiving
puts-forgiving : (whole : List Rule) → AreForgiving (map Put whole)
puts-forgiving [] = tt
puts-forgiving (rule ∷ whole) = (refl, puts-forgiving whole)

drops-forgiving : (rules : List Rule) → AreForgiving (map (λ (old : Rule). Drop old.priority) rules)
drops-forgiving [] = tt
drops-forgiving (rule ∷ rules) = (refl, drops-forgiving rules)

-- behind the puts of a set each of its rules stands, and elsewhere what stood there
puts-lead : (whole : List Rule) (priority : ℕ) (old : Option Rule) → IsRuleSet whole → fold behind old (requests_naming priority (map Put whole)) ≡ option_or (rule_at whole priority) old
puts-lead [] priority old set = refl
puts-lead (rule ∷ whole) priority old set = elim (cases_Bool (nat_eq rule.priority priority)) [
  | inl here ↦
      ap (fold behind old) (cond-true _ _ _ here) ∙ puts-lead whole priority (Some rule) set.1
      ∙ ap (λ found. option_or found (Some rule)) (subst (λ n. rule_at whole n ≡ None) (eqb-true _ _ here) (none-later rule whole set))
      ∙ sym (ap (λ found. option_or found old) (cond-true _ _ _ here))
  | inr other ↦ ap (fold behind old) (cond-false _ _ _ other) ∙ puts-lead whole priority old set.1 ∙ sym (ap (λ found. option_or found old) (cond-false _ _ _ other))
]

-- behind the drops nothing stands at a priority of the old set that the new one lacks, and elsewhere what stood there
drops-none : (rules whole : List Rule) (priority : ℕ) → fold behind None (requests_naming priority (drops_of rules whole)) ≡ None
drops-none [] whole priority = refl
drops-none (rule ∷ rules) whole priority = elim (cases_Bool (has_priority whole rule.priority)) [
  | inl stands ↦ ap (λ some. fold behind None (requests_naming priority (map (λ (old : Rule). Drop old.priority) some))) (cond-false _ _ _ (not_from_true _ stands)) ∙ drops-none rules whole priority
  | inr goes ↦
      ap (λ some. fold behind None (requests_naming priority (map (λ (old : Rule). Drop old.priority) some))) (cond-true _ _ _ (not_from_false _ goes))
      ∙ elim (cases_Bool (nat_eq rule.priority priority)) [
        | inl here ↦ ap (fold behind None) (cond-true _ _ _ here) ∙ drops-none rules whole priority
        | inr other ↦ ap (fold behind None) (cond-false _ _ _ other) ∙ drops-none rules whole priority
      ]
]

drops-there : (rules whole : List Rule) (priority : ℕ) (old : Option Rule) → has_priority whole priority ≡ true → requests_naming priority (drops_of rules whole) ≡ []
drops-there [] whole priority old stands = refl
drops-there (rule ∷ rules) whole priority old stands = elim (cases_Bool (has_priority whole rule.priority)) [
  | inl has ↦ ap (λ some. requests_naming priority (map (λ (one : Rule). Drop one.priority) some)) (cond-false _ _ _ (not_from_true _ has)) ∙ drops-there rules whole priority old stands
  | inr goes ↦
      let other : nat_eq rule.priority priority ≡ false = elim (cases_Bool (nat_eq rule.priority priority)) [
        | inr differs ↦ differs
        | inl same ↦ absurd (let bad : true ≡ false = sym stands ∙ (ap (has_priority whole) (sym (eqb-true _ _ same)) ∙ goes) in cc)
      ] in
      ap (λ some. requests_naming priority (map (λ (one : Rule). Drop one.priority) some)) (cond-true _ _ _ (not_from_false _ goes)) ∙ cond-false _ _ _ other ∙ drops-there rules whole priority old stands
]

drops-gone : (rules whole : List Rule) (priority : ℕ) → has_priority whole priority ≡ false → fold behind (rule_at rules priority) (requests_naming priority (drops_of rules whole)) ≡ None
drops-gone [] whole priority lacks = refl
drops-gone (rule ∷ rules) whole priority lacks = elim (cases_Bool (nat_eq rule.priority priority)) [
  | inl here ↦
      let goes : has_priority whole rule.priority ≡ false = ap (has_priority whole) (eqb-true _ _ here) ∙ lacks in
      ap (λ some. fold behind (rule_at (rule ∷ rules) priority) (requests_naming priority (map (λ (one : Rule). Drop one.priority) some))) (cond-true _ _ _ (not_from_false _ goes))
      ∙ ap (fold behind (rule_at (rule ∷ rules) priority)) (cond-true _ _ _ here) ∙ drops-none rules whole priority
  | inr other ↦ ap (λ found. fold behind found (requests_naming priority (drops_of (rule ∷ rules) whole))) (cond-false _ _ _ other) ∙ elim (cases_Bool (has_priority whole rule.priority)) [
    | inl stands ↦ ap (λ some. fold behind (rule_at rules priority) (requests_naming priority (map (λ (one : Rule). Drop one.priority) some))) (cond-false _ _ _ (not_from_true _ stands)) ∙ drops-gone rules whole priority lacks
    | inr goes ↦
        ap (λ some. fold behind (rule_at rules priority) (requests_naming priority (map (λ (one : Rule). Drop one.priority) some))) (cond-true _ _ _ (not_from_false _ goes))
        ∙ ap (fold behind (rule_at rules priority)) (cond-false _ _ _ other) ∙ drops-gone rules whole priority lacks
  ]
]

pub whole-set : GivesTheWholeSet
whole-set rules whole is_set is_whole = (
  forgiving-taken rules (whole_requests rules whole) all,
  settled-leads rules (whole_requests rules whole) is_set (forgiving-taken rules (whole_requests rules whole) all)
      ∙ sets-same (asked_set rules (whole_requests rules whole)) whole (asked-set rules (whole_requests rules whole) is_set) is_whole same,
)
  where
    all : AreForgiving (whole_requests rules whole)
    all = all_append (λ r. IsFalse (is_strict r)) (map Put whole) (drops_of rules whole) (puts-forgiving whole) (drops-forgiving (filter (λ old. not (has_priority whole old.priority)) rules))

    same : (priority : ℕ) → rule_at (asked_set rules (whole_requests rules whole)) priority ≡ rule_at whole priority
    same priority =
        at-asked rules (whole_requests rules whole) priority
        ∙ ap (fold behind (rule_at rules priority)) (filter-append (λ (r : Request). nat_eq (asked_priority r) priority) (map Put whole) (drops_of rules whole))
        ∙ fold-append behind (rule_at rules priority) (requests_naming priority (map Put whole)) (requests_naming priority (drops_of rules whole))
        ∙ ap (λ now. fold behind now (requests_naming priority (drops_of rules whole))) (puts-lead whole priority (rule_at rules priority) is_whole)
        ∙ by (rule_at whole priority) refl
      where
        by : (found : Option Rule) → rule_at whole priority ≡ found → fold behind (option_or (rule_at whole priority) (rule_at rules priority)) (requests_naming priority (drops_of rules whole)) ≡ rule_at whole priority
        by (Some rule) is =
            ap (fold behind (option_or (rule_at whole priority) (rule_at rules priority))) (drops-there rules whole priority None (has_priority-found whole priority rule is))
            ∙ ap (λ some. option_or some (rule_at rules priority)) is ∙ sym is
        by None is =
            ap (λ some. fold behind (option_or some (rule_at rules priority)) (requests_naming priority (drops_of rules whole))) is
            ∙ drops-gone rules whole priority (absent-none is) ∙ sym is
          where
            absent-none : rule_at whole priority ≡ None → has_priority whole priority ≡ false
            absent-none none = present-is whole priority ∙ ap is_some none
