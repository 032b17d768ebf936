-- Requests that a set takes name each priority either strictly, as a sound batch does, or forgivingly.
use Rattle.std.proofs.Common.{◌≡◌, ℕ, Bool, true, false, not, Option, Some, None, List, [], ◌∷◌, ◌++◌, map, IsTrue, IsFalse, ◌⊎◌, inl, inr, refl, sym, ap, ap₂, subst, ◌∙◌, eqb-true, eq-eqb}
use Rattle.std.specs.Prelude.{nat_eq}
use Rattle.std.specs.List.{list_any, AllByRecursion}
use Rattle.std.specs.Option.{option_or}
use Rattle.std.proofs.lemmas.Bool.{cases_Bool, cond-true, cond-false}
use Rattle.std.proofs.lemmas.List.{append-nil, append_assoc, map-append}
use Rattle.std.proofs.lemmas.List.Elements.{filter-append}
use Rattle.slot_order.proofs.Lists.{all_append}
use Rattle.rule_model.specs.declared.Rule.{Rule}
use Rattle.rule_model.specs.RuleSet.{has_priority}
use Rattle.rule_store.specs.declared.BatchFault.{BatchFault}
use Rattle.rule_store.specs.declared.BatchFault.TheVariants.{Twice}
use Rattle.rule_store.specs.declared.Command.{Command}
use Rattle.rule_store.specs.declared.Command.TheVariants.{Add, Set, Del}
use Rattle.rule_store.specs.Batch.{named_priority, is_addition, is_removal, commands_naming, batch_fault_after}
use Rattle.rule_store.specs.Naming.{uses_of, naming_by, fault_by}
use Rattle.rule_store.proofs.Faults.{command_fault-named}
use Rattle.rule_store.proofs.Sound.{IsTaken, taken}
use Rattle.settled_changes.specs.declared.Request.{Request}
use Rattle.settled_changes.specs.declared.Request.TheVariants.{Strict, Put, Drop}
use Rattle.settled_changes.specs.Requests.{asked_priority, is_strict, strict_commands, requests_naming, is_strictly_asked, is_forgivingly_asked, request_fault, requests_fault_after}
use Rattle.settled_changes.proofs.Fits.{Fits, fits_none, fits_added, fits_changed, fits_removed, fits_replaced}
use Rattle.settled_changes.proofs.Strict.{strict-commands, strict-fault}

-- none of the requests is strict
abbrev pub AreForgiving : List Request → Type 0
AreForgiving requests = AllByRecursion (λ request. IsFalse (is_strict request)) requests

-- the requests at a priority, all of one kind
abbrev pub IsKind : Bool → ℕ → List Request → Type 0
IsKind present priority requests =
    ((commands : List Command) × (requests ≡ map Strict commands) × Fits present priority commands) ⊎ AreForgiving requests

-- A batch whose commands fit at each priority is sound.
module _ (present : Bool) (priority : ℕ) where
  -- by the commands before one and behind it
  fits-one : (command : Command) (before after all : List Command) → Fits present priority all → all ≡ before ++ command ∷ after → fault_by (naming_by (uses_of before) command) (is_addition command) (named_priority command) present ≡ None
  fits-one command before after [] fits_none is = absurd (no-cons before is)
    where
      no-cons : (some : List Command) → [] ≡ some ++ command ∷ after → ⊥
      no-cons [] bad = cc
      no-cons (one ∷ some) bad = cc
  fits-one command [] after all (fits_added rule own absent) is =
      let same : Add rule ≡ command = cc in
      subst (λ c. fault_by (naming_by (uses_of []) c) (is_addition c) (named_priority c) present ≡ None) same
      (subst (λ t. fault_by (naming_by (uses_of []) (Add rule)) true rule.priority t ≡ None) (sym absent) refl)
  fits-one command [] after all (fits_changed answer there) is =
      let same : Set priority answer ≡ command = cc in
      subst (λ c. fault_by (naming_by (uses_of []) c) (is_addition c) (named_priority c) present ≡ None) same
      (subst (λ t. fault_by (naming_by (uses_of []) (Set priority answer)) false priority t ≡ None) (sym there) refl)
  fits-one command [] after all (fits_removed there) is =
      let same : Del priority ≡ command = cc in
      subst (λ c. fault_by (naming_by (uses_of []) c) (is_addition c) (named_priority c) present ≡ None) same
      (subst (λ t. fault_by (naming_by (uses_of []) (Del priority)) false priority t ≡ None) (sym there) refl)
  fits-one command [] after all (fits_replaced rule own there) is =
      let same : Del priority ≡ command = cc in
      subst (λ c. fault_by (naming_by (uses_of []) c) (is_addition c) (named_priority c) present ≡ None) same
      (subst (λ t. fault_by (naming_by (uses_of []) (Del priority)) false priority t ≡ None) (sym there) refl)
  fits-one command (one ∷ []) after all (fits_added rule own absent) is = absurd (cc)
  fits-one command (one ∷ []) after all (fits_changed answer there) is = absurd (cc)
  fits-one command (one ∷ []) after all (fits_removed there) is = absurd (cc)
  fits-one command (one ∷ []) after all (fits_replaced rule own there) is =
      let first : Del priority ≡ one = cc in
      let same : Add rule ≡ command = cc in
      subst (λ o. fault_by (naming_by (uses_of (o ∷ [])) command) (is_addition command) (named_priority command) present ≡ None) first
      (subst (λ c. fault_by (naming_by (uses_of (Del priority ∷ [])) c) (is_addition c) (named_priority c) present ≡ None) same refl)
  fits-one command (one ∷ other ∷ more) after all (fits_added rule own absent) is = absurd (cc)
  fits-one command (one ∷ other ∷ more) after all (fits_changed answer there) is = absurd (cc)
  fits-one command (one ∷ other ∷ more) after all (fits_removed there) is = absurd (cc)
  fits-one command (one ∷ other ∷ more) after all (fits_replaced rule own there) is = absurd (no-cons more (let rest : [] ≡ more ++ command ∷ after = cc in rest))
    where
      no-cons : (some : List Command) → [] ≡ some ++ command ∷ after → ⊥
      no-cons [] bad = cc
      no-cons (one ∷ some) bad = cc

pub sound-fits : (rules : List Rule) (earlier later : List Command) → ((priority : ℕ) → Fits (has_priority rules priority) priority (commands_naming priority (earlier ++ later))) → batch_fault_after rules earlier later ≡ None
sound-fits rules earlier [] fits = refl
sound-fits rules earlier (command ∷ later) fits = ap₂ option_or
    (command_fault-named rules earlier command ∙ fits-one (has_priority rules own) own command (commands_naming own earlier) (commands_naming own later) (commands_naming own (earlier ++ command ∷ later)) (fits own) split)
    (sound-fits rules (earlier ++ command ∷ []) later (λ priority. subst (λ some. Fits (has_priority rules priority) priority (commands_naming priority some)) (sym (append_assoc earlier (command ∷ []) later)) (fits priority)))
  where
    own : ℕ
    own = named_priority command

    split : commands_naming own (earlier ++ command ∷ later) ≡ commands_naming own earlier ++ command ∷ commands_naming own later
    split = filter-append (λ one. nat_eq (named_priority one) own) earlier (command ∷ later)
        ∙ ap (λ some. commands_naming own earlier ++ some) (cond-true _ _ _ (eq-eqb own own refl))

-- the strict commands at a priority
pub strict-naming : (priority : ℕ) (requests : List Request) → commands_naming priority (strict_commands requests) ≡ strict_commands (requests_naming priority requests)
strict-naming priority [] = refl
strict-naming priority (Strict command ∷ requests) = elim (cases_Bool (nat_eq (named_priority command) priority)) [
  | inl names ↦ cond-true _ _ _ names ∙ ap (λ rest. command ∷ rest) (strict-naming priority requests) ∙ sym (ap strict_commands (cond-true _ _ _ names))
  | inr other ↦ cond-false _ _ _ other ∙ strict-naming priority requests ∙ sym (ap strict_commands (cond-false _ _ _ other))
]
strict-naming priority (Put rule ∷ requests) = elim (cases_Bool (nat_eq rule.priority priority)) [
  | inl names ↦ strict-naming priority requests ∙ sym (ap strict_commands (cond-true _ _ _ names))
  | inr other ↦ strict-naming priority requests ∙ sym (ap strict_commands (cond-false _ _ _ other))
]
strict-naming priority (Drop dropped ∷ requests) = elim (cases_Bool (nat_eq dropped priority)) [
  | inl names ↦ strict-naming priority requests ∙ sym (ap strict_commands (cond-true _ _ _ names))
  | inr other ↦ strict-naming priority requests ∙ sym (ap strict_commands (cond-false _ _ _ other))
]

-- requests of which none is forgiving are their strict commands, and those of which none is strict have none
all-strict : (requests : List Request) → list_any (λ request. not (is_strict request)) requests ≡ false → requests ≡ map Strict (strict_commands requests)
all-strict [] none = refl
all-strict (Strict command ∷ requests) none = ap (λ rest. Strict command ∷ rest) (all-strict requests none)
all-strict (Put rule ∷ requests) none = absurd (cc)
all-strict (Drop priority ∷ requests) none = absurd (cc)

all-forgiving : (requests : List Request) → list_any is_strict requests ≡ false → AreForgiving requests
all-forgiving [] none = tt
all-forgiving (Strict command ∷ requests) none = absurd (cc)
all-forgiving (Put rule ∷ requests) none = (refl, all-forgiving requests none)
all-forgiving (Drop priority ∷ requests) none = (refl, all-forgiving requests none)

no-commands : (requests : List Request) → AreForgiving requests → strict_commands requests ≡ []
no-commands [] all = refl
no-commands (Strict command ∷ requests) all = absurd (let bad : true ≡ false = all.0 in cc)
no-commands (Put rule ∷ requests) all = no-commands requests all.1
no-commands (Drop priority ∷ requests) all = no-commands requests all.1

-- one command more that is taken fits
fits-behind : (present : Bool) (rule : Rule) (commands : List Command) (removal : Command) → Fits present rule.priority commands → commands ≡ removal ∷ [] → IsTrue (is_removal removal) → Fits present rule.priority (commands ++ Add rule ∷ [])
fits-behind present rule commands removal fits_none is removes_it = absurd (cc)
fits-behind present rule commands removal (fits_added other own absent) is removes_it = absurd (let same : Add other ≡ removal = cc in let bad : is_removal (Add other) ≡ true = subst (λ c. is_removal c ≡ true) (sym same) removes_it in cc)
fits-behind present rule commands removal (fits_changed answer there) is removes_it = absurd (let same : Set rule.priority answer ≡ removal = cc in let bad : is_removal (Set rule.priority answer) ≡ true = subst (λ c. is_removal c ≡ true) (sym same) removes_it in cc)
fits-behind present rule commands removal (fits_removed there) is removes_it = fits_replaced rule refl there
fits-behind present rule commands removal (fits_replaced other own there) is removes_it = absurd (cc)

fits-more : (rules : List Rule) (done commands : List Command) (command : Command) → IsTaken rules done command → commands_naming (named_priority command) done ≡ commands → Fits (has_priority rules (named_priority command)) (named_priority command) commands
    → Fits (has_priority rules (named_priority command)) (named_priority command) (commands ++ command ∷ [])
fits-more rules done commands (Set priority answer) is same fits = subst (λ some. Fits (has_priority rules priority) priority (some ++ Set priority answer ∷ [])) (sym is.1 ∙ same) (fits_changed answer is.0)
fits-more rules done commands (Del priority) is same fits = subst (λ some. Fits (has_priority rules priority) priority (some ++ Del priority ∷ [])) (sym is.1 ∙ same) (fits_removed is.0)
fits-more rules done commands (Add rule) (inl new) same fits = subst (λ some. Fits (has_priority rules rule.priority) rule.priority (some ++ Add rule ∷ [])) (sym new.1 ∙ same) (fits_added rule refl new.0)
fits-more rules done commands (Add rule) (inr (removal, removes_it, named)) same fits = fits-behind (has_priority rules rule.priority) rule commands removal fits (sym same ∙ named) removes_it

-- what stands before a strict request that is taken fits
pub fits-before : (present : Bool) (priority : ℕ) (requests : List Request) → IsKind present priority requests → Fits present priority (strict_commands requests)
fits-before present priority requests (inl (commands, is, fits)) = subst (Fits present priority) (sym (ap strict_commands is ∙ strict-commands commands)) fits
fits-before present priority requests (inr all) = subst (Fits present priority) (sym (no-commands requests all)) fits_none

-- one request more that is taken
kind-more : (rules : List Rule) (earlier : List Request) (request : Request) → request_fault rules earlier request ≡ None
    → IsKind (has_priority rules (asked_priority request)) (asked_priority request) (requests_naming (asked_priority request) earlier)
    → IsKind (has_priority rules (asked_priority request)) (asked_priority request) (requests_naming (asked_priority request) earlier ++ request ∷ [])
kind-more rules earlier (Strict command) none kind = elim (cases_Bool (is_forgivingly_asked own earlier)) [
  | inl mixed ↦ absurd (let bad : Some (Twice own) ≡ None = sym (cond-true _ _ _ mixed) ∙ none in cc)
  | inr strict ↦ inl (
    strict_commands (requests_naming own earlier) ++ command ∷ [],
    ap (λ some. some ++ Strict command ∷ []) (all-strict (requests_naming own earlier) strict) ∙ sym (map-append Strict (strict_commands (requests_naming own earlier)) (command ∷ [])),
    fits-more rules (strict_commands earlier) (strict_commands (requests_naming own earlier)) command (taken rules (strict_commands earlier) command (sym (cond-false _ _ _ strict) ∙ none))
        (strict-naming own earlier) (fits-before (has_priority rules own) own (requests_naming own earlier) kind),
  )
]
  where
    own : ℕ
    own = named_priority command
kind-more rules earlier (Put rule) none kind = elim (cases_Bool (is_strictly_asked rule.priority earlier)) [
  | inl mixed ↦ absurd (let bad : Some (Twice rule.priority) ≡ None = sym (cond-true _ _ _ mixed) ∙ none in cc)
  | inr forgiving ↦ inr (all_append (λ request. IsFalse (is_strict request)) (requests_naming rule.priority earlier) (Put rule ∷ []) (all-forgiving _ forgiving) (refl, tt))
]
kind-more rules earlier (Drop priority) none kind = elim (cases_Bool (is_strictly_asked priority earlier)) [
  | inl mixed ↦ absurd (let bad : Some (Twice priority) ≡ None = sym (cond-true _ _ _ mixed) ∙ none in cc)
  | inr forgiving ↦ inr (all_append (λ request. IsFalse (is_strict request)) (requests_naming priority earlier) (Drop priority ∷ []) (all-forgiving _ forgiving) (refl, tt))
]

taken-parts : (rules : List Rule) (earlier : List Request) (request : Request) (later : List Request) → requests_fault_after rules earlier (request ∷ later) ≡ None
    → (request_fault rules earlier request ≡ None) × (requests_fault_after rules (earlier ++ request ∷ []) later ≡ None)
taken-parts rules earlier request later none = parts (request_fault rules earlier request) (requests_fault_after rules (earlier ++ request ∷ []) later) none
  where
    parts : (first rest : Option BatchFault) → option_or first rest ≡ None → (first ≡ None) × (rest ≡ None)
    parts None rest is = (refl, is)
    parts (Some fault) rest is = absurd (cc)

pub kinds : (rules : List Rule) (earlier later : List Request) (priority : ℕ) → requests_fault_after rules earlier later ≡ None
    → IsKind (has_priority rules priority) priority (requests_naming priority earlier) → IsKind (has_priority rules priority) priority (requests_naming priority (earlier ++ later))
kinds rules earlier [] priority none kind = subst (λ some. IsKind (has_priority rules priority) priority (requests_naming priority some)) (sym (append-nil earlier)) kind
kinds rules earlier (request ∷ later) priority none kind =
    let parts = taken-parts rules earlier request later none in
    let split = filter-append (λ (one : Request). nat_eq (asked_priority one) priority) earlier (request ∷ []) in
    let more : IsKind (has_priority rules priority) priority (requests_naming priority (earlier ++ request ∷ [])) = elim (cases_Bool (nat_eq (asked_priority request) priority)) [
      | inl names ↦
          subst (IsKind (has_priority rules priority) priority) (sym (split ∙ ap (λ some. requests_naming priority earlier ++ some) (cond-true _ _ _ names)))
          (subst (λ n. IsKind (has_priority rules n) n (requests_naming n earlier ++ request ∷ [])) (eqb-true _ _ names)
          (kind-more rules earlier request parts.0 (subst (λ n. IsKind (has_priority rules n) n (requests_naming n earlier)) (sym (eqb-true _ _ names)) kind)))
      | inr other ↦ subst (IsKind (has_priority rules priority) priority) (sym (split ∙ ap (λ some. requests_naming priority earlier ++ some) (cond-false _ _ _ other) ∙ append-nil _)) kind
    ] in
    subst (λ some. IsKind (has_priority rules priority) priority (requests_naming priority some)) (append_assoc earlier (request ∷ []) later) (kinds rules (earlier ++ request ∷ []) later priority parts.1 more)

-- what a sound batch has at each priority fits
pub fits-sound : (rules : List Rule) (batch : List Command) (priority : ℕ) → batch_fault_after rules [] batch ≡ None → Fits (has_priority rules priority) priority (commands_naming priority batch)
fits-sound rules batch priority sound =
    subst (λ some. Fits (has_priority rules priority) priority (commands_naming priority some)) (strict-commands batch)
    (subst (Fits (has_priority rules priority) priority) (sym (strict-naming priority (map Strict batch)))
    (fits-before (has_priority rules priority) priority (requests_naming priority (map Strict batch)) (kinds rules [] (map Strict batch) priority (strict-fault rules [] batch ∙ sound) (inr tt))))
