use Rattle.std.proofs.Common.{◌≡◌, ℕ, ◌∙◌, List, ◌++◌, length, take, drop, min, ap, ap₂, rules, arith}
use Rattle.std.proofs.lemmas.Grind.{common_steps}
use Rattle.std.proofs.lemmas.List.{take_min, take_rest, drop_min}
use Rattle.counted_blocks.specs.declared.Item.{Item}
use Rattle.counted_blocks.proofs.block.Block.split.Goals as goal

pub returns-clause-lower : goal.returns-clause-lower
returns-clause-lower c =
    let items = c.self.inside.items.items in
    let half : c.min-half.result ≡ min 64 (length items) = first_of (search rules, grind (arith, common_steps)) in
    c.truncate.ensures.items ∙ ap (λ (n : ℕ). take n items) half ∙ take_min 64 items ∙ ap (take 64) c.self.view_is

pub returns-clause-upper : goal.returns-clause-upper
returns-clause-upper c =
    let items = c.self.inside.items.items in
    let half : c.min-half.result ≡ min 64 (length items) = first_of (search rules, grind (arith, common_steps)) in
    (rw c.unwrap.ensures at c.extend_from_slice.ensures.items)
    ∙ ap₂ (λ (a b : List Item). a ++ b) (c.upper.view_is ∙ c.requires) (take_rest c.deref.result.now c.min-half.result ∙ ap₂ (λ (n : ℕ) (xs : List Item). drop n xs) half c.deref.ensures.value ∙ drop_min 64 items ∙ ap (drop 64) c.self.view_is)
