-- What a list in blocks keeps, over a change.
use Rattle.std.proofs.Common.{◌≡◌, ℕ, suc, ◌+◌, ◌-◌, ◌*◌, ◌^◌, ◌<◌, ◌≤◌, List, [], ◌∷◌, ◌++◌, length, get_or, set, map, take, drop, All, Some, refl, sym, ap, ap₂, subst, ◌∙◌, arith, length-append}
use Rattle.std.specs.Prelude.{slice_get}
use Rattle.std.specs.List.{insert, remove}
use Rattle.std.proofs.lemmas.List.{length-set, length-map, length-take-le, map-set, get_or-map}
use Rattle.std.proofs.lemmas.List.Edits.{length-insert, length-remove}
use Rattle.std.proofs.lemmas.List.Elements.{All-append, All-cons, All-from_get_or, All-get_or, All-nil, All-take, All-drop}
use Rattle.std.proofs.lemmas.List.Sums.{get_or-le-sum_by, sum_by-insert, sum_by-remove, sum_by-append}
use Rattle.std.proofs.lemmas.Option.{get_or_from_slice_get, same_Some, slice_get_within, slice_get-get_or}
use Rattle.counted_blocks.specs.declared.Item.{Item}
use Rattle.counted_blocks.specs.declared.weights.Weight.{Weight}
use Rattle.counted_blocks.specs.Counted.{AreFilled, IsCounted, Weighed, block_at, items_of, room_of, size_of, start_of, weight_of}
use Rattle.counted_blocks.specs.Cuts.{AreFilledBut, AreMended}
use Rattle.counted_blocks.specs.Finding.{IsLight, no_weight}
use Rattle.counted_blocks.proofs.Flat.{count-around, item-at, items-put, items-taken, size-around, take-at}
use Rattle.counted_blocks.proofs.Filled.{blocks-few, but-taken, filled-put, full-most}
use Rattle.counted_blocks.proofs.Spots.{size-most}

-- a size fits its type
abbrev pub IsSmall : Item → Type 0
IsSmall item = item.size ≤ 65535

module _ (blocks : List (List Item)) (capacity : ℕ) (weighed : Weighed) (stock : List (List Item)) (stock_capacity len size : ℕ) (counted : IsCounted blocks capacity weighed stock stock_capacity len size) where
  -- other blocks in the same memory
  pub counted-with : (blocks' : List (List Item)) (capacity' : ℕ) (weighed' : Weighed) (stock' : List (List Item)) (stock_capacity' len' size' : ℕ)
      → AreFilled blocks' → All (λ block. block ≡ []) stock' → length blocks' + length stock' ≡ length blocks + length stock
      → capacity' ≡ capacity → stock_capacity' ≡ stock_capacity → weighed'.capacity ≡ weighed.capacity → weighed'.weights ≡ map weight_of blocks'
      → len' ≡ length (items_of blocks') → size' ≡ size_of (items_of blocks') → length (items_of blocks') < 2 ^ 32 → length (items_of blocks') ≤ 64 * (length blocks + length stock) → All IsSmall (items_of blocks')
      → IsCounted blocks' capacity' weighed' stock' stock_capacity' len' size'
  counted-with blocks' capacity' weighed' stock' stock_capacity' len' size' filled empty many same same_stock same_weights are is_len is_size few fits small =
      let block_room = counted.block_room in
      let stock_room = counted.stock_room in
      let weight_room = counted.weight_room in
      record {
        filled = filled;
        empty = empty;
        block_room = omega arith;
        stock_room = omega arith;
        weight_room = omega arith;
        weights_are = are;
        len_is = is_len;
        size_is = is_size;
        few = few;
        enough = omega arith;
        small = small;
      }

  -- with the same items
  pub counted-same : (blocks' : List (List Item)) (capacity' : ℕ) (weighed' : Weighed) (stock' : List (List Item)) (stock_capacity' : ℕ)
      → items_of blocks' ≡ items_of blocks → AreFilled blocks' → All (λ block. block ≡ []) stock' → length blocks' + length stock' ≡ length blocks + length stock
      → capacity' ≡ capacity → stock_capacity' ≡ stock_capacity → weighed'.capacity ≡ weighed.capacity → weighed'.weights ≡ map weight_of blocks'
      → IsCounted blocks' capacity' weighed' stock' stock_capacity' len size
  counted-same blocks' capacity' weighed' stock' stock_capacity' items filled empty many same same_stock same_weights are =
      counted-with blocks' capacity' weighed' stock' stock_capacity' len size filled empty many same same_stock same_weights are
      (counted.len_is ∙ ap (length {A = Item}) (sym items)) (counted.size_is ∙ ap size_of (sym items))
      (subst (λ (all : List Item). length all < 2 ^ 32) (sym items) counted.few) (subst (λ (all : List Item). length all ≤ 64 * (length blocks + length stock)) (sym items) counted.enough) (subst (λ (all : List Item). All IsSmall all) (sym items) counted.small)

  -- where a block is full and there is room, the stock has a block
  pub stock-some : (b : ℕ) → b < length blocks → length (block_at blocks b) ≡ 128 → 0 < room_of blocks stock → 0 < length stock
  stock-some b within full room =
      let most = full-most blocks b within counted.filled full in omega arith

  pub few-blocks : length blocks < 2 ^ 31
  few-blocks = blocks-few blocks counted.filled counted.few

  pub size-fits : size ≤ 65535 * length (items_of blocks)
  size-fits = let most = size-most (items_of blocks) counted.small in let is = counted.size_is in omega arith

  -- the weight of a block
  pub weight-read : (b : ℕ) (weight : Weight) → slice_get weighed.weights b ≡ Some weight → weight ≡ weight_of (block_at blocks b)
  weight-read b weight read =
      let within = slice_get_within weighed.weights b weight read in
      let count = ap (length {A = Weight}) counted.weights_are ∙ length-map blocks weight_of in
      sym (get_or_from_slice_get weighed.weights b weight no_weight read)
      ∙ ap (λ (all : List Weight). get_or all b no_weight) counted.weights_are
      ∙ get_or-map weight_of blocks b [] no_weight (omega arith)

  -- other items of a block, and its weight
  pub weights-with : (b : ℕ) (block : List Item) (weight : Weight) (after : List Weight) → weight ≡ weight_of block → after ≡ set weighed.weights b weight → after ≡ map weight_of (set blocks b block)
  weights-with b block weight after is set_is =
      set_is ∙ ap₂ (λ (all : List Weight) (one : Weight). set all b one) counted.weights_are is ∙ sym (map-set weight_of blocks b block)

-- an item of a block by its place in the list
pub read-at : (blocks : List (List Item)) (b i place : ℕ) (item : Item) → b < length blocks → start_of blocks b + i ≡ place → slice_get (block_at blocks b) i ≡ Some item → slice_get (items_of blocks) place ≡ Some item
read-at blocks b i place item within is read =
    let inside = slice_get_within (block_at blocks b) i item read in
    let count = count-around blocks b within in
    ap (slice_get (items_of blocks)) (sym is)
    ∙ slice_get-get_or (items_of blocks) (start_of blocks b + i) item (omega arith)
    ∙ ap (λ (one : Item). Some one) (item-at blocks b i item within inside ∙ get_or_from_slice_get (block_at blocks b) i item item read)

-- one item more in a block
pub weight-more : (block : List Item) (i : ℕ) (item : Item) (weight : Weight) → i ≤ length block → weight ≡ weight_of block → record { count = weight.count + 1; size = weight.size + item.size } ≡ weight_of (insert block i item)
weight-more block i item weight within is =
    let count : weight.count + 1 ≡ length (insert block i item) = ap (λ (w : Weight). w.count + 1) is ∙ sym (length-insert block i item within) in
    let size : weight.size + item.size ≡ size_of (insert block i item) = ap (λ (w : Weight). w.size + item.size) is ∙ sym (sum_by-insert (λ (one : Item). one.size) block i item) in
    ap₂ {C = Weight} (λ (n m : ℕ). record { count = n; size = m }) count size

-- and one less
pub weight-less : (block : List Item) (i : ℕ) (item : Item) (weight : Weight) → slice_get block i ≡ Some item → weight ≡ weight_of block → record { count = weight.count - 1; size = weight.size - item.size } ≡ weight_of (remove block i)
weight-less block i item weight read is =
    let within = slice_get_within block i item read in
    let counted = ap (λ (w : Weight). w.count) is in
    let sized = ap (λ (w : Weight). w.size) is in
    let fewer = length-remove block i within in
    let lighter = sum_by-remove (λ (one : Item). one.size) block i item within in
    let there = ap (λ (one : Item). one.size) (get_or_from_slice_get block i item item read) in
    let count : weight.count - 1 ≡ length (remove block i) = omega arith in
    let size : weight.size - item.size ≡ size_of (remove block i) = omega arith in
    ap₂ {C = Weight} (λ (n m : ℕ). record { count = n; size = m }) count size

pub All-insert : {X : Type 0} (P : X → Type 0) (xs : List X) (place : ℕ) (x : X) → All P xs → P x → All P (insert xs place x)
All-insert P xs place x all one =
    All-append P (take place xs) (x ∷ drop place xs) (All-take P place xs all) (All-cons P x (drop place xs) one (All-drop P place xs all))

pub All-remove : {X : Type 0} (P : X → Type 0) (xs : List X) (place : ℕ) → All P xs → All P (remove xs place)
All-remove P xs place all = All-append P (take place xs) (drop (suc place) xs) (All-take P place xs all) (All-drop P (suc place) xs all)

-- what stands before a place comes to what the blocks before its block come to, and a part of this one
pub size-at : (blocks : List (List Item)) (b i place : ℕ) → b < length blocks → i ≤ length (block_at blocks b) → start_of blocks b + i ≡ place
    → size_of (take place (items_of blocks)) ≡ size_of (items_of (take b blocks)) + size_of (take i (block_at blocks b))
size-at blocks b i place within inside is =
    ap (λ (n : ℕ). size_of (take n (items_of blocks))) (sym is)
    ∙ ap size_of (take-at blocks b i within inside)
    ∙ sum_by-append (λ (item : Item). item.size) (items_of (take b blocks)) (take i (block_at blocks b))

-- an empty first block
module _ (blocks : List (List Item)) (capacity : ℕ) (weighed : Weighed) (stock : List (List Item)) (stock_capacity len size : ℕ) (counted : IsCounted blocks capacity weighed stock stock_capacity len size) (none : blocks ≡ []) (some : 0 < length stock) (block : List Item) (empty : block ≡ []) (blocks' : List (List Item)) (is : blocks' ≡ blocks ++ block ∷ []) (stock' : List (List Item)) (rest : stock' ≡ take (length stock - 1) stock) where
  begun-items : items_of blocks' ≡ items_of blocks
  begun-items = rw (is, none, empty) refl

  begun-many : length blocks' + length stock' ≡ length blocks + length stock
  begun-many =
      let one = ap (length {A = List Item}) is ∙ length-append blocks (block ∷ []) in
      let left = ap (length {A = List Item}) rest ∙ length-take-le (length stock - 1) stock (omega arith) in
      omega arith

  pub counted-begun : (capacity' : ℕ) (weighed' : Weighed) (stock_capacity' : ℕ) → capacity' ≡ capacity → stock_capacity' ≡ stock_capacity → weighed'.capacity ≡ weighed.capacity
      → weighed'.weights ≡ insert weighed.weights 0 (weight_of block) → IsCounted blocks' capacity' weighed' stock' stock_capacity' len size
  counted-begun capacity' weighed' stock_capacity' same same_stock same_weights set_is =
      let form : blocks' ≡ [] ∷ [] = is ∙ ap₂ (λ (front : List (List Item)) (one : List Item). front ++ one ∷ []) none empty in
      counted-same blocks capacity weighed stock stock_capacity len size counted blocks' capacity' weighed' stock' stock_capacity' begun-items
      (record {
        most = rw form (All-cons (λ (one : List Item). length one ≤ 128) [] [] (omega arith) (All-nil (λ (one : List Item). length one ≤ 128)));
        least = λ more. let one = ap (length {A = List Item}) form in absurd (omega arith);
      })
      (rw rest (All-take (λ (one : List Item). one ≡ []) (length stock - 1) stock counted.empty)) begun-many same same_stock same_weights
      (set_is
      ∙ ap₂ (λ (all : List Weight) (one : Weight). insert all 0 one) (counted.weights_are ∙ ap (map weight_of) none) (ap weight_of empty)
      ∙ sym (ap (map weight_of) form))

  pub room-begun : room_of blocks' stock' ≡ room_of blocks stock
  room-begun =
      let items = ap (length {A = Item}) begun-items in
      let many = begun-many in
      omega arith

-- a block of the stock is empty
pub stock-last : (stock : List (List Item)) (block : List Item) → All (λ one. one ≡ []) stock → 0 < length stock → Some block ≡ Some (get_or stock (length stock - 1) block) → block ≡ []
stock-last stock block empty some is = same_Some block (get_or stock (length stock - 1) block) is ∙ empty (length stock - 1) block (omega arith)

-- the weight of a block is light
pub light-of : (block : List Item) → length block ≤ 128 → All IsSmall block → IsLight (weight_of block)
light-of block few small = let most = size-most block small in record { count = few; size = omega arith }

-- a block of a list, and one item more or less in it
module _ (blocks : List (List Item)) (capacity : ℕ) (weighed : Weighed) (stock : List (List Item)) (stock_capacity len size : ℕ) (counted : IsCounted blocks capacity weighed stock stock_capacity len size) (b i : ℕ) (item : Item) (within : b < length blocks) (weight : Weight) (read : slice_get weighed.weights b ≡ Some weight) where
  weight-is : weight ≡ weight_of (block_at blocks b)
  weight-is = weight-read blocks capacity weighed stock stock_capacity len size counted b weight read

  -- the size of a block is part of that of all
  pub part-size : weight.size ≤ size
  part-size =
      let whole = size-around blocks b within in
      let is = ap (λ (w : Weight). w.size) weight-is in
      let all = counted.size_is in
      omega arith

  -- its items are small
  block-small : All IsSmall (block_at blocks b)
  block-small =
      All-from_get_or IsSmall (block_at blocks b) (record { key = 0; size = 0 }) (λ k to.
      let count = count-around blocks b within in
      let here : IsSmall (get_or (items_of blocks) (start_of blocks b + k) (record { key = 0; size = 0 })) = counted.small (start_of blocks b + k) (record { key = 0; size = 0 }) (omega arith) in
      rw (item-at blocks b k (record { key = 0; size = 0 }) within to) at here)

  pub size-most-all : size ≤ 65535 * length (items_of blocks)
  size-most-all = size-fits blocks capacity weighed stock stock_capacity len size counted

  module _ (new : List Item) (is : new ≡ insert (block_at blocks b) i item) (inside : i ≤ length (block_at blocks b)) where
    pub put-items : items_of (set blocks b new) ≡ insert (items_of blocks) (start_of blocks b + i) item
    put-items = ap (λ (block : List Item). items_of (set blocks b block)) is ∙ items-put blocks b i item within inside

    place-within : start_of blocks b + i ≤ length (items_of blocks)
    place-within = let count = count-around blocks b within in omega arith

    pub put-room : 0 < room_of blocks stock → room_of (set blocks b new) stock + 1 ≡ room_of blocks stock
    put-room some =
        let same = length-set blocks b new in
        let more = ap (length {A = Item}) put-items ∙ length-insert (items_of blocks) (start_of blocks b + i) item place-within in
        omega arith

    put-weight : (added : ℕ) → added ≡ item.size → record { count = weight.count + 1; size = weight.size + added } ≡ weight_of new
    put-weight added size-is =
        ap {B = Weight} (λ (n : ℕ). record { count = weight.count + 1; size = weight.size + n }) size-is ∙ weight-more (block_at blocks b) i item weight inside weight-is ∙ ap weight_of (sym is)

    pub put-light : (added : ℕ) → added ≡ item.size → added ≤ 65535 → length (block_at blocks b) < 128 → IsLight (record { count = weight.count + 1; size = weight.size + added })
    put-light added size-is most loose =
        let longer = ap (length {A = Item}) is ∙ length-insert (block_at blocks b) i item inside in
        subst IsLight (sym (put-weight added size-is))
        (light-of new (omega arith) (subst (λ (items : List Item). All IsSmall items) (sym is) (All-insert IsSmall (block_at blocks b) i item block-small (omega arith))))

    pub put-counted : (capacity' : ℕ) (weighed' : Weighed) (stock_capacity' added : ℕ) → capacity' ≡ capacity → stock_capacity' ≡ stock_capacity → weighed'.capacity ≡ weighed.capacity
        → added ≡ item.size → added ≤ 65535 → weighed'.weights ≡ set weighed.weights b (record { count = weight.count + 1; size = weight.size + added })
        → length (block_at blocks b) < 128 → length (items_of blocks) + 1 < 2 ^ 32 → 0 < room_of blocks stock
        → IsCounted (set blocks b new) capacity' weighed' stock stock_capacity' (len + 1) (size + added)
    put-counted capacity' weighed' stock_capacity' added same same_stock same_weights size-is most set-is loose few some =
        let longer = ap (length {A = Item}) is ∙ length-insert (block_at blocks b) i item inside in
        let more = ap (length {A = Item}) put-items ∙ length-insert (items_of blocks) (start_of blocks b + i) item place-within in
        let heavier = ap size_of put-items ∙ sum_by-insert (λ (one : Item). one.size) (items_of blocks) (start_of blocks b + i) item in
        let is_len = counted.len_is in
        let is_size = counted.size_is in
        let one : record { count = weight.count + 1; size = weight.size + added } ≡ weight_of new =
        ap {B = Weight} (λ (n : ℕ). record { count = weight.count + 1; size = weight.size + n }) size-is ∙ weight-more (block_at blocks b) i item weight inside weight-is ∙ ap weight_of (sym is) in
        counted-with blocks capacity weighed stock stock_capacity len size counted (set blocks b new) capacity' weighed' stock stock_capacity' (len + 1) (size + added)
        (filled-put blocks b within counted.filled new (omega arith) (omega arith)) counted.empty (omega (arith, length-set blocks b new)) same same_stock same_weights
        (weights-with blocks capacity weighed stock stock_capacity len size counted b new (record { count = weight.count + 1; size = weight.size + added }) weighed'.weights one set-is)
        (omega arith) (omega arith) (omega arith) (omega arith)
        (subst (λ (items : List Item). All IsSmall items) (sym put-items) (All-insert IsSmall (items_of blocks) (start_of blocks b + i) item counted.small (omega arith)))

  module _ (new : List Item) (is : new ≡ remove (block_at blocks b) i) (found : slice_get (block_at blocks b) i ≡ Some item) where
    inside-block : i < length (block_at blocks b)
    inside-block = slice_get_within (block_at blocks b) i item found

    pub taken-items : items_of (set blocks b new) ≡ remove (items_of blocks) (start_of blocks b + i)
    taken-items = ap (λ (block : List Item). items_of (set blocks b block)) is ∙ items-taken blocks b i within inside-block

    place-inside : start_of blocks b + i < length (items_of blocks)
    place-inside = let count = count-around blocks b within in let inside = inside-block in omega arith

    item-size : item.size ≤ weight.size
    item-size =
        let part = get_or-le-sum_by (λ (one : Item). one.size) (block_at blocks b) i item inside-block in
        let there = ap (λ (one : Item). one.size) (get_or_from_slice_get (block_at blocks b) i item item found) in
        let all = ap (λ (w : Weight). w.size) weight-is in
        omega arith

    pub taken-fits : (taken : ℕ) → taken ≡ item.size → taken ≤ weight.size
    taken-fits taken is_size = let most = item-size in omega arith

    pub taken-some : 1 ≤ len
    taken-some = let inside = place-inside in let is_len = counted.len_is in omega arith

    pub taken-but : AreFilledBut (set blocks b new) b
    taken-but =
        let shorter = length-remove (block_at blocks b) i inside-block in
        let same = ap (length {A = Item}) is in
        let most : length (block_at blocks b) ≤ 128 = All-get_or (λ (one : List Item). length one ≤ 128) blocks b [] within counted.filled.most in
        but-taken blocks b within counted.filled new (omega arith) (omega arith)

    pub taken-light : (taken : ℕ) → taken ≡ item.size → IsLight (record { count = weight.count - 1; size = weight.size - taken })
    taken-light taken is_size =
        let shorter = length-remove (block_at blocks b) i inside-block in
        let same = ap (length {A = Item}) is in
        let most : length (block_at blocks b) ≤ 128 = All-get_or (λ (one : List Item). length one ≤ 128) blocks b [] within counted.filled.most in
        let one : record { count = weight.count - 1; size = weight.size - taken } ≡ weight_of new =
        ap {B = Weight} (λ (n : ℕ). record { count = weight.count - 1; size = weight.size - n }) is_size ∙ weight-less (block_at blocks b) i item weight found weight-is ∙ ap weight_of (sym is) in
        subst IsLight (sym one)
        (light-of new (omega arith) (subst (λ (items : List Item). All IsSmall items) (sym is) (All-remove IsSmall (block_at blocks b) i block-small)))

    pub taken-weights : (after : List Weight) (taken : ℕ) → taken ≡ item.size → after ≡ set weighed.weights b (record { count = weight.count - 1; size = weight.size - taken }) → after ≡ map weight_of (set blocks b new)
    taken-weights after taken is_size set-is =
        let one : record { count = weight.count - 1; size = weight.size - taken } ≡ weight_of new =
        ap {B = Weight} (λ (n : ℕ). record { count = weight.count - 1; size = weight.size - n }) is_size ∙ weight-less (block_at blocks b) i item weight found weight-is ∙ ap weight_of (sym is) in
        weights-with blocks capacity weighed stock stock_capacity len size counted b new (record { count = weight.count - 1; size = weight.size - taken }) after one set-is

    module _ (mended : List (List Item)) (are : AreMended (set blocks b new) mended) (stock' : List (List Item)) (many : length mended + length stock' ≡ length (set blocks b new) + length stock) where
      pub mended-items : items_of mended ≡ remove (items_of blocks) (start_of blocks b + i)
      mended-items = are.items ∙ taken-items

      pub mended-room : room_of mended stock' ≡ room_of blocks stock + 1
      mended-room =
          let fewer = ap (length {A = Item}) mended-items in
          let shorter = length-remove (items_of blocks) (start_of blocks b + i) place-inside in
          let same = length-set blocks b new in
          let enough = counted.enough in
          omega arith

      pub mended-counted : (capacity' : ℕ) (weighed' : Weighed) (stock_capacity' taken : ℕ) → capacity' ≡ capacity → stock_capacity' ≡ stock_capacity → weighed'.capacity ≡ weighed.capacity
          → weighed'.weights ≡ map weight_of mended → All (λ block. block ≡ []) stock' → taken ≡ item.size
          → IsCounted mended capacity' weighed' stock' stock_capacity' (len - 1) (size - taken)
      mended-counted capacity' weighed' stock_capacity' taken same same_stock same_weights weighed-are empty is_taken =
          let fewer = ap (length {A = Item}) mended-items in
          let shorter = length-remove (items_of blocks) (start_of blocks b + i) place-inside in
          let there = get_or_from_slice_get (items_of blocks) (start_of blocks b + i) item item (read-at blocks b i (start_of blocks b + i) item within refl found) in
          let lighter = sum_by-remove (λ (one : Item). one.size) (items_of blocks) (start_of blocks b + i) item place-inside in
          let sized = ap (λ (one : Item). one.size) there in
          let lighter' = ap size_of mended-items in
          let is_len = counted.len_is in
          let is_size = counted.size_is in
          let few = counted.few in
          let enough = counted.enough in
          counted-with blocks capacity weighed stock stock_capacity len size counted mended capacity' weighed' stock' stock_capacity' (len - 1) (size - taken)
          are.filled empty (omega (arith, length-set blocks b new)) same same_stock same_weights weighed-are (omega arith) (omega arith) (omega arith) (omega arith)
          (subst (λ (items : List Item). All IsSmall items) (sym mended-items) (All-remove IsSmall (items_of blocks) (start_of blocks b + i) counted.small))
