-- A place that is found by weights is found among the blocks, and sums of weights fit.
use Rattle.std.proofs.Common.{◌≡◌, ℕ, ◌*◌, ◌<◌, ◌≤◌, List, [], length, map, take, All, ap, ◌∙◌, arith}
use Rattle.std.proofs.lemmas.List.{take-map, get_or-map, length-map}
use Rattle.std.proofs.lemmas.List.Sums.{sum_by-le}
use Rattle.counted_blocks.specs.declared.Item.{Item}
use Rattle.counted_blocks.specs.declared.weights.Weight.{Weight}
use Rattle.counted_blocks.specs.Counted.{HasPlace, IsSpot, block_at, count_sum, items_of, size_of, size_sum, start_of, weight_of}
use Rattle.counted_blocks.specs.Finding.{IsFound, count_at, no_weight}
use Rattle.counted_blocks.proofs.Flat.{count-weights, size-weights}

-- what the weights before a block come to
pub count-before : (blocks : List (List Item)) (b : ℕ) → count_sum (take b (map weight_of blocks)) ≡ start_of blocks b
count-before blocks b = ap count_sum (take-map weight_of b blocks) ∙ count-weights (take b blocks)

pub size-before : (blocks : List (List Item)) (b : ℕ) → size_sum (take b (map weight_of blocks)) ≡ size_of (items_of (take b blocks))
size-before blocks b = ap size_sum (take-map weight_of b blocks) ∙ size-weights (take b blocks)

count-read : (blocks : List (List Item)) (b : ℕ) → b < length blocks → count_at (map weight_of blocks) b ≡ length (block_at blocks b)
count-read blocks b within = ap (λ (weight : Weight). weight.count) (get_or-map weight_of blocks b [] no_weight within)

-- small items come to what fits
pub size-most : (items : List Item) → All (λ item. item.size ≤ 65535) items → size_of items ≤ 65535 * length items
size-most items small =
    let most = sum_by-le (λ (item : Item). item.size) 65535 items small in omega arith

module _ (blocks : List (List Item)) (weights : List Weight) (place b start : ℕ) (are : weights ≡ map weight_of blocks) (found : IsFound weights place b start) where
  within-blocks : b < length blocks
  within-blocks = let n = ap (length {A = Weight}) are ∙ length-map blocks weight_of in omega (arith, found.within)

  here : count_at weights b ≡ length (block_at blocks b)
  here = ap (λ (all : List Weight). count_at all b) are ∙ count-read blocks b within-blocks

  pub spot-found : IsSpot blocks place b start
  spot-found =
      let to = found.to in
      record {
        within = within-blocks;
        start_is = found.start_is ∙ ap (λ (all : List Weight). count_sum (take b all)) are ∙ count-before blocks b;
        from = found.from;
        to = omega (arith, here);
      }

  pub place-found : HasPlace blocks place b start
  place-found to =
      let all : count_sum weights ≡ length (items_of blocks) = ap count_sum are ∙ count-weights blocks in
      let inside = found.inside (omega arith) in
      omega (arith, here)
