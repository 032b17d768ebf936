-- Sums over a list and over a batch's additions, one element more.
use Rattle.std.proofs.Common.{◌≡◌, ℕ, ◌+◌, ◌<◌, List, [], ◌∷◌, ◌++◌, length, get_or, take, slice_get, Option, Some, None, sum_by, refl, ap, ◌∙◌}
use Rattle.std.specs.List.{cons_option}
use Rattle.std.proofs.lemmas.List.{take_more, append-nil}
use Rattle.std.proofs.lemmas.List.Sums.{sum_by_push}
use Rattle.std.proofs.lemmas.List.Elements.{filter_map-append}
use Rattle.std.proofs.lemmas.Option.{slice_get_within, get_or_from_slice_get}
use Rattle.rule_model.specs.declared.Rule.{Rule}
use Rattle.rule_store.specs.declared.Command.{Command}
use Rattle.rule_store.specs.declared.Command.TheVariants.{Add, Set, Del}
use Rattle.rule_store.specs.Batch.{added_rule, additions}

-- what is read at a place of a list
pub slice_get-within : {X : Type 0} (xs : List X) (place : ℕ) (x : X) → slice_get xs place ≡ Some x → place < length xs
slice_get-within xs place x read = slice_get_within xs place x read

pub slice_get-read : {X : Type 0} (xs : List X) (place : ℕ) (x : X) → slice_get xs place ≡ Some x → get_or xs place x ≡ x
slice_get-read xs place x read = get_or_from_slice_get xs place x x read

pub take-read : {X : Type 0} (xs : List X) (place : ℕ) (x : X) → slice_get xs place ≡ Some x → take (place + 1) xs ≡ take place xs ++ x ∷ []
take-read {X} xs place x read =
    take_more xs place x (slice_get-within xs place x read) ∙ ap (λ (last : X). take place xs ++ last ∷ []) (slice_get-read xs place x read)

pub sum_by-read : {X : Type 0} (f : X → ℕ) (xs : List X) (place : ℕ) (x : X) → slice_get xs place ≡ Some x → sum_by f (take (place + 1) xs) ≡ sum_by f (take place xs) + f x
sum_by-read f xs place x read = ap (sum_by f) (take-read xs place x read) ∙ sum_by_push f (take place xs) x

-- an addition more
pub additions-add : (batch : List Command) (place : ℕ) (rule : Rule) → slice_get batch place ≡ Some (Add rule) → additions (take (place + 1) batch) ≡ additions (take place batch) ++ rule ∷ []
additions-add batch place rule read =
    ap additions (take-read batch place (Add rule) read) ∙ filter_map-append added_rule (take place batch) (Add rule ∷ [])

-- a command more that adds nothing
pub additions-other : (batch : List Command) (place : ℕ) (command : Command) → slice_get batch place ≡ Some command → added_rule command ≡ None → additions (take (place + 1) batch) ≡ additions (take place batch)
additions-other batch place command read none =
    ap additions (take-read batch place command read)
    ∙ filter_map-append added_rule (take place batch) (command ∷ [])
    ∙ ap (λ (found : Option Rule). additions (take place batch) ++ cons_option found []) none
    ∙ append-nil (additions (take place batch))

pub added_rule-none : (command : Command) → ((rule : Rule) → command ≡ Add rule → ⊥) → added_rule command ≡ None
added_rule-none (Add rule) not-add = absurd (not-add rule refl)
added_rule-none (Set priority answer) not-add = refl
added_rule-none (Del priority) not-add = refl
