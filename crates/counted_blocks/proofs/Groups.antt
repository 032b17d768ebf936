-- Groups of 32 blocks: what they come to, and what a change of one block leaves of the others.
use Rattle.std.proofs.Common.{◌≡◌, ℕ, zero, suc, ◌+◌, ◌-◌, ◌*◌, ◌^◌, ◌<◌, ◌≤◌, List, [], ◌∷◌, ◌++◌, length, get_or, set, take, drop, All, min, ◌/◌, inl, inr, refl, sym, ap, ap₂, ◌∙◌, arith}
use Rattle.std.specs.List.{insert, remove, sum_by}
use Rattle.std.proofs.lemmas.List.{take-append-drop, take-take, drop-take, take_more, take-append-le, take_min, take_all, length-take, length-take-le, length-set, length-drop, take-set-le, drop-set-lt, get_or-set_same, get_or-set_other, get_or-take, get_or-drop, get_or_push, get_or_append_left}
use Rattle.std.proofs.lemmas.Bool.{cases_eq, cases_lt}
use Rattle.std.proofs.lemmas.List.Elements.{All-drop, All-take}
use Rattle.std.proofs.lemmas.List.Sums.{sum_by-append, sum_by_push, sum_by-le}
use Rattle.counted_blocks.specs.declared.weights.Weight.{Weight}
use Rattle.counted_blocks.specs.Counted.{count_sum, size_sum}
use Rattle.counted_blocks.specs.Finding.{AreGrouped, AreSums, Fits, IsFound, IsLight, count_at, group_at, no_weight, weight_sum}

-- the weights up to the end of a group
pub take-group : (weights : List Weight) (g : ℕ) → take (32 * (g + 1)) weights ≡ take (32 * g) weights ++ group_at weights g
take-group weights g =
    let n : 32 * (g + 1) ≡ 32 * g + 32 = omega arith in
    ap (λ (m : ℕ). take m weights) n
    ∙ sym (take-append-drop (32 * g) (take (32 * g + 32) weights))
    ∙ ap₂ (λ (a b : List Weight). a ++ b) (take-take (32 * g) (32 * g + 32) weights (omega arith)) (drop-take (32 * g) 32 weights)

-- a group is told by the weights up to its end
pub group-front : (weights others : List Weight) (g : ℕ) → take (32 * g + 32) weights ≡ take (32 * g + 32) others → group_at weights g ≡ group_at others g
group-front weights others g same =
    sym (drop-take (32 * g) 32 weights) ∙ ap (drop (32 * g)) same ∙ drop-take (32 * g) 32 others

module _ (f : Weight → ℕ) (weights groups : List Weight) (each : (g : ℕ) → g < length groups → f (get_or groups g no_weight) ≡ sum_by f (group_at weights g)) where
  -- the groups before one come to what the weights before it come to
  pub sum-groups : (g : ℕ) → g ≤ length groups → sum_by f (take g groups) ≡ sum_by f (take (32 * g) weights)
  sum-groups zero within = refl
  sum-groups (suc g) within =
      let more : suc g ≡ g + 1 = omega arith in
      let here = each g (omega arith) in
      ap (λ (n : ℕ). sum_by f (take n groups)) more
      ∙ ap (sum_by f) (take_more groups g no_weight (omega arith))
      ∙ sum_by_push f (take g groups) (get_or groups g no_weight)
      ∙ ap₂ (λ (a b : ℕ). a + b) (sum-groups g (omega arith)) here
      ∙ sym (ap (λ (n : ℕ). sum_by f (take (32 * n) weights)) more ∙ ap (sum_by f) (take-group weights g) ∙ sum_by-append f (take (32 * g) weights) (group_at weights g))

-- what is put or taken at a place, or changed there, leaves the groups before it
pub group-set-front : (weights : List Weight) (b : ℕ) (weight : Weight) (g : ℕ) → 32 * g + 32 ≤ b → group_at (set weights b weight) g ≡ group_at weights g
group-set-front weights b weight g before = group-front (set weights b weight) weights g (take-set-le (32 * g + 32) weights b weight before)

pub group-set-back : (weights : List Weight) (b : ℕ) (weight : Weight) (g : ℕ) → b < 32 * g → group_at (set weights b weight) g ≡ group_at weights g
group-set-back weights b weight g behind = ap (take 32) (drop-set-lt (32 * g) weights b weight behind)

pub group-insert : (weights : List Weight) (b : ℕ) (weight : Weight) (g : ℕ) → b ≤ length weights → 32 * g + 32 ≤ b → group_at (insert weights b weight) g ≡ group_at weights g
group-insert weights b weight g within before =
    let n = length-take-le b weights within in
    group-front (insert weights b weight) weights g
    (take-append-le (32 * g + 32) (take b weights) (weight ∷ drop b weights) (omega arith) ∙ take-take (32 * g + 32) b weights before)

pub group-remove : (weights : List Weight) (b : ℕ) (g : ℕ) → b < length weights → 32 * g + 32 ≤ b → group_at (remove weights b) g ≡ group_at weights g
group-remove weights b g within before =
    let n = length-take-le b weights (omega arith) in
    group-front (remove weights b) weights g
    (take-append-le (32 * g + 32) (take b weights) (drop (suc b) weights) (omega arith) ∙ take-take (32 * g + 32) b weights before)

-- light weights come to what fits
pub light-fits : (weights : List Weight) → All IsLight weights → length weights ≤ 2 ^ 31 → Fits weights
light-fits weights light few =
    let count = sum_by-le (λ (weight : Weight). weight.count) 128 weights (λ k none to. (light k none to).count) in
    let size = sum_by-le (λ (weight : Weight). weight.size) 8388480 weights (λ k none to. (light k none to).size) in
    record { count = omega arith; size = omega arith }

-- a group as a slice
pub slice-group : (weights : List Weight) (from to : ℕ) → from ≤ length weights → to ≡ min (length weights) (from + 32) → take (to - from) (drop from weights) ≡ take 32 (drop from weights)
slice-group weights from to within is =
    let n = length-drop from weights in
    let same : to - from ≡ min 32 (length (drop from weights)) = omega arith in
    ap (λ (m : ℕ). take m (drop from weights)) same ∙ take_min 32 (drop from weights)

-- the weights before a place, as those before its group and a part of the group
pub take-part : (weights : List Weight) (from to : ℕ) → from ≤ to → take to weights ≡ take from weights ++ take (to - from) (drop from weights)
take-part weights from to within =
    let same : from + (to - from) ≡ to = omega arith in
    sym (take-append-drop from (take to weights))
    ∙ ap₂ (λ (a b : List Weight). a ++ b) (take-take from to weights within)
    (ap (λ (m : ℕ). drop from (take m weights)) (sym same) ∙ drop-take from (to - from) weights)

module _ (weights : List Weight) (few : length weights ≤ 2 ^ 31) (light : All IsLight weights) where
  -- any part of light weights fits
  pub part-fits : (from n : ℕ) → Fits (take n (drop from weights))
  part-fits from n =
      let all = length-drop from weights in
      let part = length-take n (drop from weights) in
      light-fits (take n (drop from weights)) (All-take IsLight n (drop from weights) (All-drop IsLight from weights light)) (omega arith)

module _ (weights : List Weight) (few : length weights ≤ 2 ^ 31) (light : All IsLight weights) where
  pub front-fits : (n : ℕ) → Fits (take n weights)
  front-fits n = let count = length-take n weights in light-fits (take n weights) (All-take IsLight n weights light) (omega arith)

module _ (weights groups : List Weight) (grouped : AreGrouped weights groups) where
  each-count : (g : ℕ) → g < length groups → (get_or groups g no_weight).count ≡ count_sum (group_at weights g)
  each-count g within = ap (λ (weight : Weight). weight.count) (grouped.sums g within)

  each-size : (g : ℕ) → g < length groups → (get_or groups g no_weight).size ≡ size_sum (group_at weights g)
  each-size g within = ap (λ (weight : Weight). weight.size) (grouped.sums g within)

  -- what the groups before one come to
  pub groups-count : (g : ℕ) → g ≤ length groups → count_sum (take g groups) ≡ count_sum (take (32 * g) weights)
  groups-count g within = sum-groups (λ (weight : Weight). weight.count) weights groups each-count g within

  pub groups-size : (g : ℕ) → g ≤ length groups → size_sum (take g groups) ≡ size_sum (take (32 * g) weights)
  groups-size g within = sum-groups (λ (weight : Weight). weight.size) weights groups each-size g within

  -- and all of them
  pub groups-all : count_sum groups ≡ count_sum weights
  groups-all =
      let least = grouped.least in
      ap count_sum (sym (take_all (length groups) groups (omega arith)))
      ∙ groups-count (length groups) (omega arith)
      ∙ ap count_sum (take_all (32 * length groups) weights (omega arith))

  pub groups-all-size : size_sum groups ≡ size_sum weights
  groups-all-size =
      let least = grouped.least in
      ap size_sum (sym (take_all (length groups) groups (omega arith)))
      ∙ groups-size (length groups) (omega arith)
      ∙ ap size_sum (take_all (32 * length groups) weights (omega arith))

  -- another weight in its group
  pub grouped-set : (b : ℕ) (weight sum : Weight) → b < length weights → sum ≡ weight_sum (group_at (set weights b weight) (b / 32)) → AreGrouped (set weights b weight) (set groups (b / 32) sum)
  grouped-set b weight sum within is =
      let n = length-set weights b weight in
      let m = length-set groups (b / 32) sum in
      let least = grouped.least in
      let most = grouped.most in
      record { least = omega arith; most = omega arith; sums = λ k to. at k (omega arith) }
    where
      at : (k : ℕ) → k < length groups → get_or (set groups (b / 32) sum) k no_weight ≡ weight_sum (group_at (set weights b weight) k)
      at k to =
          elim (cases_eq k (b / 32)) [
            | inl here ↦
                ap (λ (n : ℕ). get_or (set groups (b / 32) sum) n no_weight) here
                ∙ get_or-set_same groups (b / 32) sum no_weight (omega arith)
                ∙ is
                ∙ sym (ap (λ (n : ℕ). weight_sum (group_at (set weights b weight) n)) here)
            | inr away ↦
                get_or-set_other groups (b / 32) k sum no_weight away
                ∙ grouped.sums k to
                ∙ ap weight_sum (sym (elim (cases_lt k (b / 32)) [
                  | inl before ↦ group-set-front weights b weight k (omega arith)
                  | inr behind ↦ group-set-back weights b weight k (omega arith)
                ]))
          ]

module _ (weights groups : List Weight) (few : length weights ≤ 2 ^ 31) (light : All IsLight weights) (grouped : AreGrouped weights groups) where
  -- the groups fit
  pub groups-fit : (g : ℕ) → g ≤ length groups → Fits (take g groups)
  groups-fit g within =
      let fits = front-fits weights few light (32 * g) in
      let count = groups-count weights groups grouped g within in
      let size = groups-size weights groups grouped g within in
      let count_fits = fits.count in
      let size_fits = fits.size in
      record { count = omega arith; size = omega arith }

  pub all-fit : Fits groups
  all-fit =
      let fits = light-fits weights light few in
      let count = groups-all weights groups grouped in
      let size = groups-all-size weights groups grouped in
      let count_fits = fits.count in
      let size_fits = fits.size in
      record { count = omega arith; size = omega arith }

  -- what stands before a block, by groups and by blocks
  pub before-count : (b : ℕ) → b ≤ length weights → count_sum (take (b / 32) groups) + count_sum (take (b - 32 * (b / 32)) (drop (32 * (b / 32)) weights)) ≡ count_sum (take b weights)
  before-count b within =
      let least = grouped.least in
      ap (λ (n : ℕ). n + count_sum (take (b - 32 * (b / 32)) (drop (32 * (b / 32)) weights))) (groups-count weights groups grouped (b / 32) (omega arith))
      ∙ sym (ap count_sum (take-part weights (32 * (b / 32)) b (omega arith))
      ∙ sum_by-append (λ (weight : Weight). weight.count) (take (32 * (b / 32)) weights) (take (b - 32 * (b / 32)) (drop (32 * (b / 32)) weights)))

  pub before-size : (b : ℕ) → b ≤ length weights → size_sum (take (b / 32) groups) + size_sum (take (b - 32 * (b / 32)) (drop (32 * (b / 32)) weights)) ≡ size_sum (take b weights)
  before-size b within =
      let least = grouped.least in
      ap (λ (n : ℕ). n + size_sum (take (b - 32 * (b / 32)) (drop (32 * (b / 32)) weights))) (groups-size weights groups grouped (b / 32) (omega arith))
      ∙ sym (ap size_sum (take-part weights (32 * (b / 32)) b (omega arith))
      ∙ sum_by-append (λ (weight : Weight). weight.size) (take (32 * (b / 32)) weights) (take (b - 32 * (b / 32)) (drop (32 * (b / 32)) weights)))

-- a place is found in a group, and then in its blocks
module _ (weights groups : List Weight) (grouped : AreGrouped weights groups) (place g s b t : ℕ) (top : IsFound groups place g s) (inner : IsFound (group_at weights g) (place - s) b t) where
  inner-count : length (group_at weights g) ≡ min 32 (length weights - 32 * g)
  inner-count = length-take 32 (drop (32 * g) weights) ∙ ap (min 32) (length-drop (32 * g) weights)

  group-is : count_at groups g ≡ count_sum (group_at weights g)
  group-is = ap (λ (weight : Weight). weight.count) (grouped.sums g top.within)

  block-is : count_at (group_at weights g) b ≡ count_at weights (32 * g + b)
  block-is =
      let count = inner-count in
      let within = inner.within in
      ap (λ (weight : Weight). weight.count) (get_or-take 32 (drop (32 * g) weights) b no_weight (omega arith) ∙ get_or-drop (32 * g) weights b no_weight)

  front-is : count_sum (take (32 * g + b) weights) ≡ s + t
  front-is =
      let count = inner-count in
      let within = inner.within in
      let inside = top.within in
      let back : 32 * g + b - 32 * g ≡ b = omega arith in
      ap count_sum (take-part weights (32 * g) (32 * g + b) (omega arith) ∙ ap (λ (n : ℕ). take (32 * g) weights ++ take n (drop (32 * g) weights)) back)
      ∙ sum_by-append (λ (weight : Weight). weight.count) (take (32 * g) weights) (take b (drop (32 * g) weights))
      ∙ ap₂ (λ (n m : ℕ). n + m)
      (sym (top.start_is ∙ groups-count weights groups grouped g (omega arith)))
      (sym (inner.start_is ∙ ap count_sum (take-take b 32 (drop (32 * g) weights) (omega arith))))

  pub found-joined : IsFound weights place (32 * g + b) (s + t)
  found-joined =
      let count = inner-count in
      let within = inner.within in
      let from = top.from in
      let inner_from = inner.from in
      let inner_to = inner.to in
      let block = block-is in
      record {
        within = omega arith;
        start_is = sym front-is;
        from = omega arith;
        to = omega arith;
        inside = λ some.
            let all = groups-all weights groups grouped in
            let group = group-is in
            let here = top.inside (omega arith) in
            let there = inner.inside (omega arith) in
            omega arith;
      }

-- one group more
pub sums-more : (weights groups : List Weight) (sum : Weight) → AreSums weights groups (length groups) → sum ≡ weight_sum (group_at weights (length groups)) → AreSums weights (groups ++ sum ∷ []) (length groups + 1)
sums-more weights groups sum sums is k to =
    elim (cases_lt k (length groups)) [
      | inl before ↦ get_or_append_left groups (sum ∷ []) no_weight k before ∙ sums k before
      | inr last ↦
          let same : k ≡ length groups = omega arith in
          get_or_push groups sum no_weight k (sym same) ∙ is ∙ ap (λ (n : ℕ). weight_sum (group_at weights n)) (sym same)
    ]
