-- The batch that requests come to is sound, and leads where they say.
use Rattle.std.proofs.Common.{◌≡◌, ℕ, Bool, true, false, not, cond, Option, Some, None, List, [], ◌∷◌, map, fold, IsFalse, inl, inr, refl, sym, ap, ap₂, subst, ◌∙◌, eqb-true}
use Rattle.std.specs.Prelude.{nat_eq, IfSome, is_some}
use Rattle.std.specs.List.{AllByRecursion}
use Rattle.std.proofs.lemmas.Bool.{cases_Bool, cond-true, cond-false, cond_both, not_from_true, not_from_false}
use Rattle.rule_model.specs.declared.Rule.{Rule}
use Rattle.rule_model.specs.declared.Piece.{Piece}
use Rattle.rule_model.specs.RuleSet.{IsRuleSet, rule_at, has_priority}
use Rattle.rule_model.specs.Piece.{whole_piece}
use Rattle.rule_model.proofs.Parts.{same_piece-is}
use Rattle.rule_store.specs.declared.Command.{Command}
use Rattle.rule_store.specs.declared.Command.TheVariants.{Add, Set, Del}
use Rattle.rule_store.specs.Batch.{commands_naming, IsSound, set_after}
use Rattle.rule_store.specs.Verdict.{verdict_by}
use Rattle.rule_store.proofs.After.{set_after-set}
use Rattle.rule_store.proofs.AfterAt.{own_priority}
use Rattle.rule_store.proofs.Sets.{rule_at-none, has_priority-found}
use Rattle.settled_changes.specs.declared.Request.{Request}
use Rattle.settled_changes.specs.declared.Request.TheVariants.{Strict, Put, Drop}
use Rattle.settled_changes.specs.Requests.{asked_priority, requests_naming, asked_set, AreTaken}
use Rattle.settled_changes.specs.Settled.{same_conditions, put_change, drop_change, settled}
use Rattle.settled_changes.specs.Laws.{LeadsWhereAsked}
use Rattle.settled_changes.proofs.At.{rule_behind, behind, at-asked, asked-set, sets-same}
use Rattle.settled_changes.proofs.EachKind.{AreForgiving, IsKind, kinds, sound-fits}
use Rattle.settled_changes.proofs.Fits.{Fits, fits_none, fits_added, fits_changed, fits_removed, fits_replaced, after-fits}
use Rattle.settled_changes.proofs.Naming.{settled_naming, naming-settled}

-- each request names the priority
abbrev pub AreAt : ℕ → List Request → Type 0
AreAt priority requests = AllByRecursion (λ request. asked_priority request ≡ priority) requests

-- the rule that stands has the priority, if one does
abbrev pub IsAtOf : ℕ → Option Rule → Type 0
IsAtOf priority old = IfSome old (λ (rule : Rule). rule.priority ≡ priority)

pub requests-at : (priority : ℕ) (requests : List Request) → AreAt priority (requests_naming priority requests)
requests-at priority [] = tt
requests-at priority (request ∷ requests) = elim (cases_Bool (nat_eq (asked_priority request) priority)) [
  | inl names ↦ subst (AreAt priority) (sym (cond-true _ _ _ names)) (eqb-true _ _ names, requests-at priority requests)
  | inr other ↦ subst (AreAt priority) (sym (cond-false _ _ _ other)) (requests-at priority requests)
]

strict-naming-is : (old : Option Rule) (commands : List Command) → settled_naming old (map Strict commands) ≡ commands
strict-naming-is old [] = refl
strict-naming-is old (command ∷ commands) = ap (λ rest. command ∷ rest) (strict-naming-is old commands)

strict-leads : (old : Option Rule) (commands : List Command) → fold rule_behind old commands ≡ fold behind old (map Strict commands)
strict-leads old [] = refl
strict-leads old (command ∷ commands) = strict-leads (rule_behind old command) commands

-- a rule by its conditions, its priority and its result
abbrev as_rule : Piece → ℕ → ℕ → Rule
as_rule piece priority answer = record { priority = priority; src = piece.src; dst = piece.dst; proto = piece.proto; sport = piece.sport; dport = piece.dport; result = answer }

-- a put leads to its rule
put-leads : (old : Option Rule) (rule : Rule) → IsAtOf rule.priority old → fold rule_behind old (put_change old rule) ≡ Some rule
put-leads None rule at = refl
put-leads (Some old) rule at = elim (cases_Bool (same_conditions old rule)) [
  | inr differ ↦ ap (fold rule_behind (Some old)) (cond-true _ _ _ (not_from_false _ differ))
  | inl same ↦
      let conditions : whole_piece old ≡ whole_piece rule = same_piece-is (whole_piece old) (whole_piece rule) refl refl same in
      ap (fold rule_behind (Some old)) (cond-false _ _ _ (not_from_true _ same)) ∙ elim (cases_Bool (nat_eq old.result rule.result)) [
        | inl equal ↦
            ap (fold rule_behind (Some old)) (cond-true _ _ _ equal)
            ∙ ap (λ (r : Rule). let is : Option Rule = Some r in is)
            (ap (λ n. as_rule (whole_piece old) old.priority n) (eqb-true _ _ equal) ∙ ap₂ (λ piece n. as_rule piece n rule.result) conditions at)
        | inr other ↦
            ap (fold rule_behind (Some old)) (cond-false _ _ _ other)
            ∙ ap (λ (r : Rule). let is : Option Rule = Some r in is) (ap₂ (λ piece n. as_rule piece n rule.result) conditions at)
      ]
]

drop-leads : (old : Option Rule) (priority : ℕ) → fold rule_behind old (drop_change old priority) ≡ None
drop-leads None priority = refl
drop-leads (Some old) priority = refl

-- forgiving requests at a priority lead where the last one says
forgiving-leads : (priority : ℕ) (old : Option Rule) (requests : List Request) → IsAtOf priority old → AreAt priority requests → AreForgiving requests → fold rule_behind old (settled_naming old requests) ≡ fold behind old requests
forgiving-leads priority old [] at names all = refl
forgiving-leads priority old (Strict command ∷ requests) at names all = absurd (let bad : true ≡ false = all.0 in cc)
forgiving-leads priority old (Put rule ∷ []) at names all = put-leads old rule (subst (λ n. IsAtOf n old) (sym names.0) at)
forgiving-leads priority old (Drop dropped ∷ []) at names all = drop-leads old dropped
forgiving-leads priority old (Put rule ∷ next ∷ later) at names all = forgiving-leads priority old (next ∷ later) at names.1 all.1 ∙ ap (λ now. fold behind now later) (forgets next old (Some rule) all.1.0)
  where
    forgets : (request : Request) (a b : Option Rule) → IsFalse (Rattle.settled_changes.specs.Requests.is_strict request) → behind a request ≡ behind b request
    forgets (Strict command) a b forgiving = absurd (let bad : true ≡ false = forgiving in cc)
    forgets (Put other) a b forgiving = refl
    forgets (Drop other) a b forgiving = refl
forgiving-leads priority old (Drop dropped ∷ next ∷ later) at names all = forgiving-leads priority old (next ∷ later) at names.1 all.1 ∙ ap (λ now. fold behind now later) (forgets next old None all.1.0)
  where
    forgets : (request : Request) (a b : Option Rule) → IsFalse (Rattle.settled_changes.specs.Requests.is_strict request) → behind a request ≡ behind b request
    forgets (Strict command) a b forgiving = absurd (let bad : true ≡ false = forgiving in cc)
    forgets (Put other) a b forgiving = refl
    forgets (Drop other) a b forgiving = refl

-- and their commands fit
fits-put : (present : Bool) (old : Option Rule) (rule : Rule) → present ≡ is_some old → Fits present rule.priority (put_change old rule)
fits-put present None rule is = fits_added rule refl is
fits-put present (Some old) rule is =
    cond_both (not (same_conditions old rule)) (Del rule.priority ∷ Add rule ∷ []) (cond (nat_eq old.result rule.result) [] (Set rule.priority rule.result ∷ []))
    (Fits present rule.priority)
    (λ differ. fits_replaced rule refl is)
    (λ same. cond_both (nat_eq old.result rule.result) [] (Set rule.priority rule.result ∷ []) (Fits present rule.priority) (λ so. fits_none) (λ other. fits_changed rule.result is))

fits-drop : (present : Bool) (old : Option Rule) (priority : ℕ) → present ≡ is_some old → Fits present priority (drop_change old priority)
fits-drop present None priority is = fits_none
fits-drop present (Some old) priority is = fits_removed is

fits-forgiving : (present : Bool) (priority : ℕ) (old : Option Rule) (requests : List Request) → present ≡ is_some old → AreAt priority requests → AreForgiving requests → Fits present priority (settled_naming old requests)
fits-forgiving present priority old [] is names all = fits_none
fits-forgiving present priority old (Strict command ∷ requests) is names all = absurd (let bad : true ≡ false = all.0 in cc)
fits-forgiving present priority old (Put rule ∷ []) is names all = subst (λ n. Fits present n (put_change old rule)) names.0 (fits-put present old rule is)
fits-forgiving present priority old (Drop dropped ∷ []) is names all = subst (λ n. Fits present n (drop_change old dropped)) names.0 (fits-drop present old dropped is)
fits-forgiving present priority old (Put rule ∷ next ∷ later) is names all = fits-forgiving present priority old (next ∷ later) is names.1 all.1
fits-forgiving present priority old (Drop dropped ∷ next ∷ later) is names all = fits-forgiving present priority old (next ∷ later) is names.1 all.1

fits-kind : (present : Bool) (priority : ℕ) (old : Option Rule) (requests : List Request) → present ≡ is_some old → AreAt priority requests → IsKind present priority requests → Fits present priority (settled_naming old requests)
fits-kind present priority old requests is names (inl (commands, same, fits)) = subst (Fits present priority) (sym (ap (settled_naming old) same ∙ strict-naming-is old commands)) fits
fits-kind present priority old requests is names (inr all) = fits-forgiving present priority old requests is names all

kind-leads : (present : Bool) (priority : ℕ) (old : Option Rule) (requests : List Request) → IsAtOf priority old → AreAt priority requests → IsKind present priority requests → fold rule_behind old (settled_naming old requests) ≡ fold behind old requests
kind-leads present priority old requests at names (inl (commands, same, fits)) =
    ap (λ some. fold rule_behind old (settled_naming old some)) same ∙ ap (fold rule_behind old) (strict-naming-is old commands) ∙ strict-leads old commands ∙ sym (ap (fold behind old) same)
kind-leads present priority old requests at names (inr all) = forgiving-leads priority old requests at names all

-- what stands at a priority of a set
pub present-is : (rules : List Rule) (priority : ℕ) → has_priority rules priority ≡ is_some (rule_at rules priority)
present-is rules priority = elim (cases_Bool (has_priority rules priority)) [
  | inr absent ↦ absent ∙ sym (ap is_some (rule_at-none rules priority absent))
  | inl present ↦ go (rule_at rules priority) refl
]
  where
    go : (found : Option Rule) → rule_at rules priority ≡ found → has_priority rules priority ≡ is_some (rule_at rules priority)
    go (Some rule) is = has_priority-found rules priority rule is ∙ sym (ap is_some is)
    go None is = absent-too rules is ∙ sym (ap is_some is)
      where
        absent-too : (some : List Rule) → rule_at some priority ≡ None → has_priority some priority ≡ false
        absent-too [] none = refl
        absent-too (rule ∷ some) none = elim (cases_Bool (nat_eq rule.priority priority)) [
          | inl here ↦ absurd (let bad : Some rule ≡ None = sym (cond-true _ _ _ here) ∙ none in cc)
          | inr other ↦ Rattle.std.proofs.lemmas.Bool.or_from _ _ other (absent-too some (sym (cond-false _ _ _ other) ∙ none))
        ]

pub at-of : (rules : List Rule) (priority : ℕ) → IsAtOf priority (rule_at rules priority)
at-of rules priority = go (rule_at rules priority) refl
  where
    go : (found : Option Rule) → rule_at rules priority ≡ found → IsAtOf priority found
    go None is = tt
    go (Some rule) is = own_priority rules priority rule is

module _ (rules : List Rule) (requests : List Request) (is_set : IsRuleSet rules) (are_taken : AreTaken rules requests) where
  kind-at : (priority : ℕ) → IsKind (has_priority rules priority) priority (requests_naming priority requests)
  kind-at priority = kinds rules [] requests priority are_taken (inr tt)

  fits-at : (priority : ℕ) → Fits (has_priority rules priority) priority (commands_naming priority (settled rules requests))
  fits-at priority = subst (Fits (has_priority rules priority) priority) (sym (naming-settled rules requests priority))
      (fits-kind (has_priority rules priority) priority (rule_at rules priority) (requests_naming priority requests) (present-is rules priority) (requests-at priority requests) (kind-at priority))

  pub settled-sound : IsSound rules (settled rules requests)
  settled-sound = sound-fits rules [] (settled rules requests) fits-at

  pub settled-leads : set_after rules (settled rules requests) ≡ asked_set rules requests
  settled-leads = sets-same (set_after rules (settled rules requests)) (asked_set rules requests) (set_after-set rules (settled rules requests) is_set settled-sound) (asked-set rules requests is_set)
      (λ priority. after-fits rules (settled rules requests) priority (has_priority rules priority) is_set settled-sound (fits-at priority)
      ∙ ap (fold rule_behind (rule_at rules priority)) (naming-settled rules requests priority)
      ∙ kind-leads (has_priority rules priority) priority (rule_at rules priority) (requests_naming priority requests) (at-of rules priority) (requests-at priority requests) (kind-at priority)
      ∙ sym (at-asked rules requests priority))

pub leads : LeadsWhereAsked
leads rules requests is_set are_taken = (
  settled-sound rules requests is_set are_taken,
  settled-leads rules requests is_set are_taken,
  λ slots mode. ap₂ verdict_by (are_taken ∙ sym (settled-sound rules requests is_set are_taken)) refl,
)
