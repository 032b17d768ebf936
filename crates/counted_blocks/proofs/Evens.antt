-- Two blocks that are cut, joined or evened out: their items, and their weights.
use Rattle.std.proofs.Common.{◌≡◌, ℕ, suc, ◌+◌, ◌<◌, ◌≤◌, List, [], ◌∷◌, ◌++◌, length, set, map, take, drop, Some, refl, sym, ap, ap₂, ◌∙◌, arith, length-append}
use Rattle.std.specs.Prelude.{slice_get}
use Rattle.std.specs.List.{insert, remove}
use Rattle.std.proofs.lemmas.List.{append-nil, append_assoc, take_all, take_more, drop_all, map-set, set_comm}
use Rattle.std.proofs.lemmas.List.Edits.{insert_end, length-insert, length-remove}
use Rattle.std.proofs.lemmas.Option.{get_or_from_slice_get, slice_get_within}
use Rattle.counted_blocks.specs.declared.Item.{Item}
use Rattle.counted_blocks.specs.declared.weights.Weight.{Weight}
use Rattle.counted_blocks.specs.Counted.{block_at, items_of, weight_of}
use Rattle.counted_blocks.specs.Cuts.{AreLoose, AreMended}
use Rattle.counted_blocks.proofs.Flat.{even-form, items-evened, items-joined, join-form, map-insert, map-remove}
use Rattle.counted_blocks.proofs.Filled.{filled-evened, filled-joined}

-- the first item of the upper block goes behind those of the lower one
moved-down : (lower upper : List Item) (n : ℕ) (item : Item) → n ≡ length lower → slice_get upper 0 ≡ Some item → insert lower n item ++ remove upper 0 ≡ lower ++ upper
moved-down lower [] n item is read = absurd (cc)
moved-down lower (first ∷ upper) n item is read =
    let same : first ≡ item = get_or_from_slice_get (first ∷ upper) 0 item item read in
    ap (λ (m : ℕ). insert lower m item ++ upper) is
    ∙ ap (λ (items : List Item). items ++ upper) (insert_end lower item)
    ∙ append_assoc lower (item ∷ []) upper
    ∙ ap (λ (one : Item). lower ++ one ∷ upper) (sym same)

-- the last item of the lower block goes before those of the upper one
moved-up : (lower upper : List Item) (n : ℕ) (item : Item) → n + 1 ≡ length lower → slice_get lower n ≡ Some item → remove lower n ++ insert upper 0 item ≡ lower ++ upper
moved-up lower upper n item is read =
    let none : drop (suc n) lower ≡ [] = drop_all (suc n) lower (omega arith) in
    let last : take n lower ++ item ∷ [] ≡ lower =
    ap (λ (one : Item). take n lower ++ one ∷ []) (sym (get_or_from_slice_get lower n item item read))
    ∙ sym (take_more lower n item (omega arith))
    ∙ take_all (n + 1) lower (omega arith) in
    ap (λ (rest : List Item). (take n lower ++ rest) ++ (item ∷ upper)) none
    ∙ ap (λ (front : List Item). front ++ (item ∷ upper)) (append-nil (take n lower))
    ∙ sym (append_assoc (take n lower) (item ∷ []) upper)
    ∙ ap (λ (items : List Item). items ++ upper) last

module _ (blocks : List (List Item)) (left : ℕ) (loose : AreLoose blocks left) where
  -- other blocks with the same items, of which each has enough
  evened : (lower upper : List Item) (new : List (List Item)) → new ≡ set (set blocks left lower) (left + 1) upper → lower ++ upper ≡ block_at blocks left ++ block_at blocks (left + 1)
      → length lower ≤ 128 → 64 ≤ length lower → length upper ≤ 128 → 64 ≤ length upper → AreMended blocks new
  evened lower upper new is same low-fits low-many up-fits up-many =
      let form = is ∙ even-form blocks left lower upper loose.within in
      record {
        items = ap items_of form ∙ items-evened blocks left lower upper loose.within same;
        filled = rw form (filled-evened blocks left loose lower upper low-fits low-many up-fits up-many);
      }

  pub mended-down : (item : Item) (lower upper : List Item) (n : ℕ) → lower ≡ insert (block_at blocks left) n item → upper ≡ remove (block_at blocks (left + 1)) 0 → n ≡ length (block_at blocks left)
      → slice_get (block_at blocks (left + 1)) 0 ≡ Some item → length (block_at blocks left) < 64 → 128 < length (block_at blocks left) + length (block_at blocks (left + 1)) → length (block_at blocks (left + 1)) ≤ 128
      → AreMended blocks (set (set blocks (left + 1) upper) left lower)
  mended-down item lower upper n low-is up-is is read less much fits =
      let up-inside = slice_get_within (block_at blocks (left + 1)) 0 item read in
      let low-count = ap (length {A = Item}) low-is ∙ length-insert (block_at blocks left) n item (omega arith) in
      let up-count = length-remove (block_at blocks (left + 1)) 0 up-inside in
      let up-same = ap (length {A = Item}) up-is in
      let many = loose.left_least in
      evened lower upper _ (set_comm blocks (left + 1) left upper lower (λ same. omega arith))
      (ap₂ (λ (a b : List Item). a ++ b) low-is up-is ∙ moved-down (block_at blocks left) (block_at blocks (left + 1)) n item is read)
      (omega arith) (omega arith) (omega arith) (omega arith)

  pub mended-up : (item : Item) (lower upper : List Item) (n : ℕ) → lower ≡ remove (block_at blocks left) n → upper ≡ insert (block_at blocks (left + 1)) 0 item → n + 1 ≡ length (block_at blocks left)
      → slice_get (block_at blocks left) n ≡ Some item → length (block_at blocks (left + 1)) < 64 → 128 < length (block_at blocks left) + length (block_at blocks (left + 1)) → length (block_at blocks left) ≤ 128
      → AreMended blocks (set (set blocks left lower) (left + 1) upper)
  mended-up item lower upper n low-is up-is is read less much fits =
      let low-inside = slice_get_within (block_at blocks left) n item read in
      let up-count = ap (length {A = Item}) up-is ∙ length-insert (block_at blocks (left + 1)) 0 item (omega arith) in
      let low-count = length-remove (block_at blocks left) n low-inside in
      let low-same = ap (length {A = Item}) low-is in
      let many = loose.right_least in
      evened lower upper _ refl
      (ap₂ (λ (a b : List Item). a ++ b) low-is up-is ∙ moved-up (block_at blocks left) (block_at blocks (left + 1)) n item is read)
      (omega arith) (omega arith) (omega arith) (omega arith)

  pub mended-joined : (joined : List Item) → joined ≡ block_at blocks left ++ block_at blocks (left + 1) → length joined ≤ 128 → AreMended blocks (set (remove blocks (left + 1)) left joined)
  mended-joined joined is fits =
      let form = join-form blocks left joined loose.within in
      let count = ap (length {A = Item}) is ∙ length-append (block_at blocks left) (block_at blocks (left + 1)) in
      let low-many = loose.left_least in
      let up-many = loose.right_least in
      record {
        items = ap items_of (form ∙ ap (λ (one : List Item). take left blocks ++ one ∷ drop (left + 2) blocks) is) ∙ items-joined blocks left loose.within;
        filled = rw form (filled-joined blocks left loose joined fits (omega arith));
      }

-- the weights go with the blocks
pub weights-split : (blocks : List (List Item)) (weights new : List Weight) (b : ℕ) (lower upper : List Item) → weights ≡ map weight_of blocks → new ≡ insert (set weights b (weight_of lower)) (b + 1) (weight_of upper)
    → new ≡ map weight_of (insert (set blocks b lower) (b + 1) upper)
weights-split blocks weights new b lower upper are is =
    is
    ∙ ap (λ (all : List Weight). insert (set all b (weight_of lower)) (b + 1) (weight_of upper)) are
    ∙ sym (map-insert weight_of (set blocks b lower) (b + 1) upper ∙ ap (λ (all : List Weight). insert all (b + 1) (weight_of upper)) (map-set weight_of blocks b lower))

pub weights-joined : (blocks : List (List Item)) (weights new : List Weight) (b : ℕ) (joined : List Item) → weights ≡ map weight_of blocks → new ≡ set (remove weights (b + 1)) b (weight_of joined)
    → new ≡ map weight_of (set (remove blocks (b + 1)) b joined)
weights-joined blocks weights new b joined are is =
    is
    ∙ ap (λ (all : List Weight). set (remove all (b + 1)) b (weight_of joined)) are
    ∙ sym (map-set weight_of (remove blocks (b + 1)) b joined ∙ ap (λ (all : List Weight). set all b (weight_of joined)) (map-remove weight_of blocks (b + 1)))

pub weights-evened : (blocks new : List (List Item)) (weights after : List Weight) (b : ℕ) (lower upper : Weight) → b + 1 < length blocks → new ≡ take b blocks ++ block_at new b ∷ block_at new (b + 1) ∷ drop (b + 2) blocks
    → weights ≡ map weight_of blocks → lower ≡ weight_of (block_at new b) → upper ≡ weight_of (block_at new (b + 1)) → after ≡ set (set weights b lower) (b + 1) upper → after ≡ map weight_of new
weights-evened blocks new weights after b lower upper within form are low up is =
    let l : List Item = block_at new b in
    let u : List Item = block_at new (b + 1) in
    is
    ∙ ap (λ (all : List Weight). set (set all b lower) (b + 1) upper) are
    ∙ ap₂ (λ (x y : Weight). set (set (map weight_of blocks) b x) (b + 1) y) low up
    ∙ sym (ap (map weight_of) (form ∙ sym (even-form blocks b l u within))
    ∙ map-set weight_of (set blocks b l) (b + 1) u
    ∙ ap (λ (all : List Weight). set all (b + 1) (weight_of u)) (map-set weight_of blocks b l))
