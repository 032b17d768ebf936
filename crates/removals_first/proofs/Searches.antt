-- Searches that go along a list, a place after the other.
use Rattle.std.proofs.Common.{◌≡◌, ℕ, ◌+◌, ◌≤◌, Bool, true, false, ◌||◌, Some, List, [], ◌∷◌, ◌++◌, cond, filter, length, take, drop, slice_get, refl, sym, ap, ◌∙◌}
use Rattle.std.specs.List.{list_any}
use Rattle.std.proofs.lemmas.Bool.{cond-true, cond-false}
use Rattle.std.proofs.lemmas.List.{append-nil, drop_all, drop_more}
use Rattle.std.proofs.lemmas.List.Elements.{filter-append}
use Rattle.rule_model.specs.declared.Rule.{Rule}
use Rattle.rule_store.specs.declared.Command.{Command}
use Rattle.rule_store.specs.declared.Command.TheVariants.{Add, Set, Del}
use Rattle.rule_store.specs.Batch.{additions}
use Rattle.rule_store.proofs.Sums.{slice_get-within, slice_get-read, take-read}

pub split-at : {X : Type 0} (xs : List X) (place : ℕ) (x : X) → slice_get xs place ≡ Some x → drop place xs ≡ x ∷ drop (place + 1) xs
split-at {X} xs place x read = drop_more xs place x (slice_get-within xs place x read) ∙ ap (λ (first : X). first ∷ drop (place + 1) xs) (slice_get-read xs place x read)

module _ {X : Type 0} (p : X → Bool) (xs : List X) (place : ℕ) where
  pub any-at : (x : X) → slice_get xs place ≡ Some x → p x ≡ true → list_any p (drop place xs) ≡ true
  any-at x read passes = ap (list_any p) (split-at xs place x read) ∙ ap (λ test. test || list_any p (drop (place + 1) xs)) passes

  pub any-past : (x : X) → slice_get xs place ≡ Some x → p x ≡ false → list_any p (drop place xs) ≡ list_any p (drop (place + 1) xs)
  any-past x read fails = ap (list_any p) (split-at xs place x read) ∙ ap (λ test. test || list_any p (drop (place + 1) xs)) fails

  pub any-end : length xs ≤ place → list_any p (drop place xs) ≡ false
  any-end past = ap (list_any p) (drop_all place xs past)

module _ (p : Rule → Bool) (batch : List Command) (place : ℕ) where
  pub added-at : (rule : Rule) → slice_get batch place ≡ Some (Add rule) → p rule ≡ true → list_any p (additions (drop place batch)) ≡ true
  added-at rule read passes = ap (λ some. list_any p (additions some)) (split-at batch place (Add rule) read) ∙ ap (λ test. test || list_any p (additions (drop (place + 1) batch))) passes

  pub added-past : (rule : Rule) → slice_get batch place ≡ Some (Add rule) → p rule ≡ false → list_any p (additions (drop place batch)) ≡ list_any p (additions (drop (place + 1) batch))
  added-past rule read fails = ap (λ some. list_any p (additions some)) (split-at batch place (Add rule) read) ∙ ap (λ test. test || list_any p (additions (drop (place + 1) batch))) fails

  pub added-other : (command : Command) → slice_get batch place ≡ Some command → ((rule : Rule) → command ≡ Add rule → ⊥) → list_any p (additions (drop place batch)) ≡ list_any p (additions (drop (place + 1) batch))
  added-other command read isnt = ap (λ some. list_any p (additions some)) (split-at batch place command read) ∙ by command isnt
    where
      by : (one : Command) → ((rule : Rule) → one ≡ Add rule → ⊥) → list_any p (additions (one ∷ drop (place + 1) batch)) ≡ list_any p (additions (drop (place + 1) batch))
      by (Add rule) not_so = absurd (not_so rule refl)
      by (Set priority answer) not_so = refl
      by (Del priority) not_so = refl

  pub added-end : length batch ≤ place → list_any p (additions (drop place batch)) ≡ false
  added-end past = ap (λ some. list_any p (additions some)) (drop_all place batch past)

-- one element more that a test keeps, and one that it doesn't
module _ {X : Type 0} (p : X → Bool) (xs : List X) (place : ℕ) (x : X) (read : slice_get xs place ≡ Some x) where
  one-more : filter p (take (place + 1) xs) ≡ filter p (take place xs) ++ cond (p x) (x ∷ []) []
  one-more = ap (filter p) (take-read xs place x read) ∙ filter-append p (take place xs) (x ∷ [])

  pub kept-next : (old new : List X) → p x ≡ true → old ≡ filter p (take place xs) → new ≡ old ++ x ∷ [] → new ≡ filter p (take (place + 1) xs)
  kept-next old new passes was pushed =
      pushed ∙ ap (λ (some : List X). some ++ x ∷ []) was ∙ sym (one-more ∙ ap (λ (last : List X). filter p (take place xs) ++ last) (cond-true _ _ _ passes))

  pub left-next : (old new : List X) → p x ≡ false → old ≡ filter p (take place xs) → new ≡ old → new ≡ filter p (take (place + 1) xs)
  left-next old new fails was same =
      same ∙ was ∙ sym (one-more ∙ ap (λ (last : List X). filter p (take place xs) ++ last) (cond-false _ _ _ fails) ∙ append-nil _)
