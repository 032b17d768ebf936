-- A full block that is cut in two: where a place is afterwards.
use Rattle.std.proofs.Common.{◌≡◌, ℕ, ◌+◌, ◌<◌, ◌≤◌, List, [], ◌∷◌, ◌++◌, length, take, drop, sym, ap, ◌∙◌, arith, length-append}
use Rattle.std.proofs.lemmas.List.{append_assoc, get_or_at, length-drop, length-take-le, take-append-drop, take_at}
use Rattle.counted_blocks.specs.declared.Item.{Item}
use Rattle.counted_blocks.specs.Counted.{AreFilled, IsSpot, block_at, items_of, start_of}
use Rattle.counted_blocks.specs.Cuts.{split_at}
use Rattle.counted_blocks.proofs.Filled.{filled-split}
use Rattle.counted_blocks.proofs.Flat.{items-split, split-form, start-more}

module _ (blocks : List (List Item)) (b : ℕ) (within : b < length blocks) (full : length (block_at blocks b) ≡ 128) where
  form : split_at blocks b ≡ take b blocks ++ take 64 (block_at blocks b) ∷ drop 64 (block_at blocks b) ∷ drop (b + 1) blocks
  form = split-form blocks b (take 64 (block_at blocks b)) (drop 64 (block_at blocks b)) within

  lower-count : length (take 64 (block_at blocks b)) ≡ 64
  lower-count = length-take-le 64 (block_at blocks b) (omega arith)

  upper-count : length (drop 64 (block_at blocks b)) ≡ 64
  upper-count = let n = length-drop 64 (block_at blocks b) in omega arith

  front-count : length (take b blocks) ≡ b
  front-count = length-take-le b blocks (omega arith)

  pub split-items : items_of (split_at blocks b) ≡ items_of blocks
  split-items = ap items_of form ∙ items-split blocks b (take 64 (block_at blocks b)) (drop 64 (block_at blocks b)) within (take-append-drop 64 (block_at blocks b))

  pub split-filled : AreFilled blocks → AreFilled (split_at blocks b)
  split-filled filled = rw form (filled-split blocks b within filled (take 64 (block_at blocks b)) (drop 64 (block_at blocks b)) lower-count upper-count)

  pub split-count : length (split_at blocks b) ≡ length blocks + 1
  split-count =
      let n = ap (length {A = List Item}) form ∙ length-append (take b blocks) (take 64 (block_at blocks b) ∷ drop 64 (block_at blocks b) ∷ drop (b + 1) blocks) in
      let back = length-drop (b + 1) blocks in
      omega (arith, front-count)

  lower-read : block_at (split_at blocks b) b ≡ take 64 (block_at blocks b)
  lower-read = ap (λ (all : List (List Item)). block_at all b) form ∙ get_or_at (take b blocks) (take 64 (block_at blocks b)) (drop 64 (block_at blocks b) ∷ drop (b + 1) blocks) [] b front-count

  upper-form : split_at blocks b ≡ (take b blocks ++ take 64 (block_at blocks b) ∷ []) ++ drop 64 (block_at blocks b) ∷ drop (b + 1) blocks
  upper-form = form ∙ sym (append_assoc (take b blocks) (take 64 (block_at blocks b) ∷ []) (drop 64 (block_at blocks b) ∷ drop (b + 1) blocks))

  more-count : length (take b blocks ++ take 64 (block_at blocks b) ∷ []) ≡ b + 1
  more-count = length-append (take b blocks) (take 64 (block_at blocks b) ∷ []) ∙ ap (λ (n : ℕ). n + 1) front-count

  upper-read : block_at (split_at blocks b) (b + 1) ≡ drop 64 (block_at blocks b)
  upper-read = ap (λ (all : List (List Item)). block_at all (b + 1)) upper-form ∙ get_or_at (take b blocks ++ take 64 (block_at blocks b) ∷ []) (drop 64 (block_at blocks b)) (drop (b + 1) blocks) [] (b + 1) more-count

  start-same : start_of (split_at blocks b) b ≡ start_of blocks b
  start-same = ap (λ (all : List (List Item)). length (items_of (take b all))) form ∙ ap (λ (front : List (List Item)). length (items_of front)) (take_at (take b blocks) (take 64 (block_at blocks b) ∷ drop 64 (block_at blocks b) ∷ drop (b + 1) blocks) b front-count)

  start-next : start_of (split_at blocks b) (b + 1) ≡ start_of blocks b + 64
  start-next =
      let count = split-count in
      start-more (split_at blocks b) b (omega arith)
      ∙ ap (λ (n : ℕ). n + length (block_at (split_at blocks b) b)) start-same
      ∙ ap (λ (n : ℕ). start_of blocks b + n) (ap (length {A = Item}) lower-read ∙ lower-count)

  module _ (place start : ℕ) (spot : IsSpot blocks place b start) where
    pub spot-lower : place < start + 64 → IsSpot (split_at blocks b) place b start
    spot-lower before =
        let count = split-count in
        let n = ap (length {A = Item}) lower-read ∙ lower-count in
        record {
          within = omega arith;
          start_is = spot.start_is ∙ sym start-same;
          from = spot.from;
          to = omega arith;
        }

    pub spot-upper : (block' start' : ℕ) → block' ≡ b + 1 → start' ≡ start + 64 → start + 64 ≤ place → IsSpot (split_at blocks b) place block' start'
    spot-upper block' start' next more from =
        let count = split-count in
        let n = ap (length {A = Item}) upper-read ∙ upper-count in
        let old = spot.start_is in
        let here = start-next in
        let to = spot.to in
        let same = ap (λ (k : ℕ). length (block_at (split_at blocks b) k)) next in
        let there = ap (start_of (split_at blocks b)) next in
        record {
          within = omega arith;
          start_is = omega arith;
          from = omega arith;
          to = omega arith;
        }

    pub loose-lower : length (block_at (split_at blocks b) b) < 128
    loose-lower = let n = ap (length {A = Item}) lower-read ∙ lower-count in omega arith

    pub loose-upper : (block' : ℕ) → block' ≡ b + 1 → length (block_at (split_at blocks b) block') < 128
    loose-upper block' next =
        let n = ap (length {A = Item}) upper-read ∙ upper-count in
        let same = ap (λ (k : ℕ). length (block_at (split_at blocks b) k)) next in
        omega arith
