-- The requests of a whole set, rule by rule.
use Rattle.std.proofs.Common.{◌≡◌, ℕ, ◌+◌, true, false, not, Some, List, [], ◌∷◌, ◌++◌, map, filter, take, slice_get, ap, ◌∙◌, sym}
use Rattle.std.proofs.lemmas.Bool.{cond-true, cond-false}
use Rattle.std.proofs.lemmas.List.{append-nil, append_assoc, map-append}
use Rattle.std.proofs.lemmas.List.Elements.{filter-append}
use Rattle.rule_model.specs.declared.Rule.{Rule}
use Rattle.rule_model.specs.RuleSet.{has_priority}
use Rattle.rule_store.proofs.Sums.{take-read}
use Rattle.settled_changes.specs.declared.Request.{Request}
use Rattle.settled_changes.specs.declared.Request.TheVariants.{Put, Drop}
use Rattle.settled_changes.specs.Settled.{puts_of, drops_of}

-- a rule more of the new set
pub put-next : (whole : List Rule) (place : ℕ) (rule : Rule) (before old new : List Request) → slice_get whole place ≡ Some rule
    → old ≡ before ++ puts_of (take place whole) → new ≡ old ++ Put rule ∷ [] → new ≡ before ++ puts_of (take (place + 1) whole)
put-next whole place rule before old new read was pushed =
    pushed ∙ ap (λ some. some ++ Put rule ∷ []) was ∙ append_assoc before (puts_of (take place whole)) (Put rule ∷ [])
    ∙ ap (λ some. before ++ some) (sym (ap puts_of (take-read whole place rule read) ∙ map-append Put (take place whole) (rule ∷ [])))

module _ (rules whole : List Rule) (place : ℕ) (rule : Rule) (read : slice_get rules place ≡ Some rule) where
  one-more : drops_of (take (place + 1) rules) whole ≡ drops_of (take place rules) whole ++ drops_of (rule ∷ []) whole
  one-more =
      ap (λ some. drops_of some whole) (take-read rules place rule read)
      ∙ ap (map (λ (old : Rule). Drop old.priority)) (filter-append (λ (old : Rule). not (has_priority whole old.priority)) (take place rules) (rule ∷ []))
      ∙ map-append (λ (old : Rule). Drop old.priority) (filter (λ (old : Rule). not (has_priority whole old.priority)) (take place rules)) (filter (λ (old : Rule). not (has_priority whole old.priority)) (rule ∷ []))

  -- a rule more of the old set, which the new one lacks,
  pub drop-next : (before old new : List Request) → has_priority whole rule.priority ≡ false → old ≡ before ++ drops_of (take place rules) whole → new ≡ old ++ Drop rule.priority ∷ []
      → new ≡ before ++ drops_of (take (place + 1) rules) whole
  drop-next before old new lacks was pushed =
      pushed ∙ ap (λ some. some ++ Drop rule.priority ∷ []) was ∙ append_assoc before (drops_of (take place rules) whole) (Drop rule.priority ∷ [])
      ∙ ap (λ some. before ++ some) (sym (one-more
      ∙ ap (λ some. drops_of (take place rules) whole ++ map (λ (old : Rule). Drop old.priority) some) (cond-true _ _ _ (ap not lacks))))

  -- and one whose priority it has
  pub keep-next : (before old : List Request) → has_priority whole rule.priority ≡ true → old ≡ before ++ drops_of (take place rules) whole → old ≡ before ++ drops_of (take (place + 1) rules) whole
  keep-next before old stands was =
      was ∙ ap (λ some. before ++ some) (sym (one-more
      ∙ ap (λ some. drops_of (take place rules) whole ++ map (λ (old : Rule). Drop old.priority) some) (cond-false _ _ _ (ap not stands)) ∙ append-nil _))
