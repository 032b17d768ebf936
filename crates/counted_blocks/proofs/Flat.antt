-- Blocks as the list of their items: where a block's items stand, and what a change of one block or two makes of them.
use Rattle.std.proofs.Common.{◌≡◌, ℕ, suc, ◌+◌, ◌-◌, ◌*◌, ◌<◌, ◌≤◌, List, [], ◌∷◌, ◌++◌, length, get_or, set, map, take, drop, All, refl, sym, ap, ap₂, ◌∙◌, arith, length-append}
use Rattle.std.specs.List.{insert, remove}
use Rattle.std.proofs.lemmas.List.{append-nil, append_assoc, take-append-drop, drop_more, set_split, take_at, length-take-le, length-set, set-append_left, set_at, take_more, take_more_set, drop-set-lt, map-append, take-map, drop-map}
use Rattle.std.proofs.lemmas.List.Concat.{flat_map-append, get_or-flat_map}
use Rattle.std.proofs.lemmas.List.Edits.{insert-append_left, insert-append_right, remove-append_left, remove-append_right}
use Rattle.std.proofs.lemmas.List.Elements.{All-tail, All-head}
use Rattle.std.proofs.lemmas.List.Sums.{sum_by-cons, sum_by-append}
use Rattle.counted_blocks.specs.declared.Item.{Item}
use Rattle.counted_blocks.specs.declared.weights.Weight.{Weight}
use Rattle.counted_blocks.specs.Counted.{block_at, count_sum, items_of, size_of, size_sum, start_of, weight_of}

-- the blocks around one
pub around : (blocks : List (List Item)) (b : ℕ) → b < length blocks → blocks ≡ take b blocks ++ block_at blocks b ∷ drop (b + 1) blocks
around blocks b within =
    sym (take-append-drop b blocks) ∙ ap (λ (rest : List (List Item)). take b blocks ++ rest) (drop_more blocks b [] within)

-- the items around those of one
pub items-around : (blocks : List (List Item)) (b : ℕ) → b < length blocks → items_of blocks ≡ items_of (take b blocks) ++ (block_at blocks b ++ items_of (drop (b + 1) blocks))
items-around blocks b within =
    ap items_of (around blocks b within) ∙ flat_map-append (λ block. block) (take b blocks) (block_at blocks b ∷ drop (b + 1) blocks)

-- how many they are
pub count-around : (blocks : List (List Item)) (b : ℕ) → b < length blocks → length (items_of blocks) ≡ start_of blocks b + (length (block_at blocks b) + length (items_of (drop (b + 1) blocks)))
count-around blocks b within =
    ap (length {A = Item}) (items-around blocks b within)
    ∙ length-append (items_of (take b blocks)) (block_at blocks b ++ items_of (drop (b + 1) blocks))
    ∙ ap (λ (n : ℕ). start_of blocks b + n) (length-append (block_at blocks b) (items_of (drop (b + 1) blocks)))

-- and what they come to
pub size-around : (blocks : List (List Item)) (b : ℕ) → b < length blocks → size_of (items_of blocks) ≡ size_of (items_of (take b blocks)) + (size_of (block_at blocks b) + size_of (items_of (drop (b + 1) blocks)))
size-around blocks b within =
    ap size_of (items-around blocks b within)
    ∙ sum_by-append (λ (item : Item). item.size) (items_of (take b blocks)) (block_at blocks b ++ items_of (drop (b + 1) blocks))
    ∙ ap (λ (n : ℕ). size_of (items_of (take b blocks)) + n) (sum_by-append (λ (item : Item). item.size) (block_at blocks b) (items_of (drop (b + 1) blocks)))

-- one block more
pub start-more : (blocks : List (List Item)) (b : ℕ) → b < length blocks → start_of blocks (b + 1) ≡ start_of blocks b + length (block_at blocks b)
start-more blocks b within =
    ap (λ (front : List (List Item)). length (items_of front)) (take_more blocks b [] within)
    ∙ ap (length {A = Item}) (flat_map-append (λ block. block) (take b blocks) (block_at blocks b ∷ []))
    ∙ length-append (items_of (take b blocks)) (block_at blocks b ++ [])
    ∙ ap (λ (items : List Item). start_of blocks b + length items) (append-nil (block_at blocks b))

pub start-all : (blocks : List (List Item)) (b : ℕ) → start_of blocks b ≤ length (items_of blocks)
start-all blocks b =
    let count = ap (λ (all : List (List Item)). length (items_of all)) (sym (take-append-drop b blocks)) in
    let parts = ap (length {A = Item}) (flat_map-append (λ block. block) (take b blocks) (drop b blocks)) in
    let both = length-append (items_of (take b blocks)) (items_of (drop b blocks)) in
    omega arith

-- an item of a block stands behind those of the blocks before it
pub item-at : (blocks : List (List Item)) (b i : ℕ) (none : Item) → b < length blocks → i < length (block_at blocks b) → get_or (items_of blocks) (start_of blocks b + i) none ≡ get_or (block_at blocks b) i none
item-at blocks b i none within inside = get_or-flat_map (λ block. block) blocks b i [] none within inside

-- what stands before a place of a block
pub take-at : (blocks : List (List Item)) (b i : ℕ) → b < length blocks → i ≤ length (block_at blocks b) → take (start_of blocks b + i) (items_of blocks) ≡ items_of (take b blocks) ++ take i (block_at blocks b)
take-at blocks b i within inside =
    let front = items_of (take b blocks) ++ take i (block_at blocks b) in
    let rest = drop i (block_at blocks b) ++ items_of (drop (b + 1) blocks) in
    let count : length front ≡ start_of blocks b + i =
    length-append (items_of (take b blocks)) (take i (block_at blocks b)) ∙ ap (λ (n : ℕ). start_of blocks b + n) (length-take-le i (block_at blocks b) inside) in
    let parts : items_of blocks ≡ front ++ rest =
    items-around blocks b within
    ∙ ap (λ (items : List Item). items_of (take b blocks) ++ (items ++ items_of (drop (b + 1) blocks))) (sym (take-append-drop i (block_at blocks b)))
    ∙ ap (λ (items : List Item). items_of (take b blocks) ++ items) (append_assoc (take i (block_at blocks b)) (drop i (block_at blocks b)) (items_of (drop (b + 1) blocks)))
    ∙ sym (append_assoc (items_of (take b blocks)) (take i (block_at blocks b)) rest) in
    ap (take (start_of blocks b + i)) parts ∙ take_at front rest (start_of blocks b + i) count

-- another block in the place of one
pub items-set : (blocks : List (List Item)) (b : ℕ) (block : List Item) → b < length blocks → items_of (set blocks b block) ≡ items_of (take b blocks) ++ (block ++ items_of (drop (b + 1) blocks))
items-set blocks b block within =
    let more : suc b ≡ b + 1 = omega arith in
    ap items_of (set_split blocks b block within ∙ ap (λ (m : ℕ). take b blocks ++ block ∷ drop m blocks) more)
    ∙ flat_map-append (λ one. one) (take b blocks) (block ∷ drop (b + 1) blocks)

pub items-put : (blocks : List (List Item)) (b i : ℕ) (item : Item) → b < length blocks → i ≤ length (block_at blocks b) → items_of (set blocks b (insert (block_at blocks b) i item)) ≡ insert (items_of blocks) (start_of blocks b + i) item
items-put blocks b i item within inside =
    let front = items_of (take b blocks) in
    let block = block_at blocks b in
    let rest = items_of (drop (b + 1) blocks) in
    let same : start_of blocks b + i - start_of blocks b ≡ i = omega arith in
    items-set blocks b (insert block i item) within
    ∙ sym (ap (λ (items : List Item). insert items (start_of blocks b + i) item) (items-around blocks b within)
    ∙ insert-append_right front (block ++ rest) (start_of blocks b) (start_of blocks b + i) item refl (omega arith)
    ∙ ap (λ (n : ℕ). front ++ insert (block ++ rest) n item) same
    ∙ ap (λ (items : List Item). front ++ items) (insert-append_left block rest i item inside))

pub items-taken : (blocks : List (List Item)) (b i : ℕ) → b < length blocks → i < length (block_at blocks b) → items_of (set blocks b (remove (block_at blocks b) i)) ≡ remove (items_of blocks) (start_of blocks b + i)
items-taken blocks b i within inside =
    let front = items_of (take b blocks) in
    let block = block_at blocks b in
    let rest = items_of (drop (b + 1) blocks) in
    let same : start_of blocks b + i - start_of blocks b ≡ i = omega arith in
    items-set blocks b (remove block i) within
    ∙ sym (ap (λ (items : List Item). remove items (start_of blocks b + i)) (items-around blocks b within)
    ∙ remove-append_right front (block ++ rest) (start_of blocks b) (start_of blocks b + i) refl (omega arith)
    ∙ ap (λ (n : ℕ). front ++ remove (block ++ rest) n) same
    ∙ ap (λ (items : List Item). front ++ items) (remove-append_left block rest i inside))

-- two blocks in the place of one
pub split-form : (blocks : List (List Item)) (b : ℕ) (lower upper : List Item) → b < length blocks → insert (set blocks b lower) (b + 1) upper ≡ take b blocks ++ lower ∷ upper ∷ drop (b + 1) blocks
split-form blocks b lower upper within =
    ap₂ (λ (front back : List (List Item)). front ++ upper ∷ back) (take_more_set blocks b lower within) (drop-set-lt (b + 1) blocks b lower (omega arith))
    ∙ append_assoc (take b blocks) (lower ∷ []) (upper ∷ drop (b + 1) blocks)

-- one block in the place of two
pub join-form : (blocks : List (List Item)) (b : ℕ) (joined : List Item) → b + 1 < length blocks → set (remove blocks (b + 1)) b joined ≡ take b blocks ++ joined ∷ drop (b + 2) blocks
join-form blocks b joined within =
    let n : length (take (b + 1) blocks) ≡ b + 1 = length-take-le (b + 1) blocks (omega arith) in
    let first : set (take (b + 1) blocks) b joined ≡ take b blocks ++ joined ∷ [] =
    ap (λ (front : List (List Item)). set front b joined) (take_more blocks b [] (omega arith))
    ∙ set_at (take b blocks) (block_at blocks b) [] joined b (length-take-le b blocks (omega arith)) in
    let two : suc (b + 1) ≡ b + 2 = omega arith in
    set-append_left (take (b + 1) blocks) (drop (suc (b + 1)) blocks) b joined (omega arith)
    ∙ ap₂ (λ (front : List (List Item)) (m : ℕ). front ++ drop m blocks) first two
    ∙ append_assoc (take b blocks) (joined ∷ []) (drop (b + 2) blocks)

-- the blocks around two
pub around-two : (blocks : List (List Item)) (b : ℕ) → b + 1 < length blocks → blocks ≡ take b blocks ++ block_at blocks b ∷ block_at blocks (b + 1) ∷ drop (b + 2) blocks
around-two blocks b within =
    let two : b + 1 + 1 ≡ b + 2 = omega arith in
    around blocks b (omega arith)
    ∙ ap (λ (rest : List (List Item)). take b blocks ++ block_at blocks b ∷ rest)
    (drop_more blocks (b + 1) [] within ∙ ap (λ (m : ℕ). block_at blocks (b + 1) ∷ drop m blocks) two)

-- other blocks in the place of two
pub even-form : (blocks : List (List Item)) (b : ℕ) (lower upper : List Item) → b + 1 < length blocks → set (set blocks b lower) (b + 1) upper ≡ take b blocks ++ lower ∷ upper ∷ drop (b + 2) blocks
even-form blocks b lower upper within =
    let n = length-set blocks b lower in
    let two : suc (b + 1) ≡ b + 2 = omega arith in
    set_split (set blocks b lower) (b + 1) upper (omega arith)
    ∙ ap₂ (λ (front back : List (List Item)). front ++ upper ∷ back) (take_more_set blocks b lower (omega arith))
    (drop-set-lt (suc (b + 1)) blocks b lower (omega arith) ∙ ap (λ (m : ℕ). drop m blocks) two)
    ∙ append_assoc (take b blocks) (lower ∷ []) (upper ∷ drop (b + 2) blocks)

-- the items of blocks of which one or two in the midst are told
items-one : (front : List (List Item)) (block : List Item) (back : List (List Item)) → items_of (front ++ block ∷ back) ≡ items_of front ++ (block ++ items_of back)
items-one front block back = flat_map-append (λ one. one) front (block ∷ back)

items-two : (front : List (List Item)) (lower upper : List Item) (back : List (List Item)) → items_of (front ++ lower ∷ upper ∷ back) ≡ items_of front ++ ((lower ++ upper) ++ items_of back)
items-two front lower upper back =
    flat_map-append (λ one. one) front (lower ∷ upper ∷ back)
    ∙ ap (λ (items : List Item). items_of front ++ items) (sym (append_assoc lower upper (items_of back)))

-- the same items in two blocks for one
pub items-split : (blocks : List (List Item)) (b : ℕ) (lower upper : List Item) → b < length blocks → lower ++ upper ≡ block_at blocks b → items_of (take b blocks ++ lower ∷ upper ∷ drop (b + 1) blocks) ≡ items_of blocks
items-split blocks b lower upper within same =
    items-two (take b blocks) lower upper (drop (b + 1) blocks)
    ∙ ap (λ (items : List Item). items_of (take b blocks) ++ (items ++ items_of (drop (b + 1) blocks))) same
    ∙ sym (items-around blocks b within)

items-around-two : (blocks : List (List Item)) (b : ℕ) → b + 1 < length blocks → items_of blocks ≡ items_of (take b blocks) ++ ((block_at blocks b ++ block_at blocks (b + 1)) ++ items_of (drop (b + 2) blocks))
items-around-two blocks b within =
    ap items_of (around-two blocks b within) ∙ items-two (take b blocks) (block_at blocks b) (block_at blocks (b + 1)) (drop (b + 2) blocks)

-- in one block for two
pub items-joined : (blocks : List (List Item)) (b : ℕ) → b + 1 < length blocks → items_of (take b blocks ++ (block_at blocks b ++ block_at blocks (b + 1)) ∷ drop (b + 2) blocks) ≡ items_of blocks
items-joined blocks b within =
    items-one (take b blocks) (block_at blocks b ++ block_at blocks (b + 1)) (drop (b + 2) blocks) ∙ sym (items-around-two blocks b within)

-- and in two others
pub items-evened : (blocks : List (List Item)) (b : ℕ) (lower upper : List Item) → b + 1 < length blocks → lower ++ upper ≡ block_at blocks b ++ block_at blocks (b + 1) → items_of (take b blocks ++ lower ∷ upper ∷ drop (b + 2) blocks) ≡ items_of blocks
items-evened blocks b lower upper within same =
    items-two (take b blocks) lower upper (drop (b + 2) blocks)
    ∙ ap (λ (items : List Item). items_of (take b blocks) ++ (items ++ items_of (drop (b + 2) blocks))) same
    ∙ sym (items-around-two blocks b within)

-- blocks of at least so many items
pub count-least : (blocks : List (List Item)) (n : ℕ) → All (λ block. n ≤ length block) blocks → n * length blocks ≤ length (items_of blocks)
count-least [] n all = omega arith
count-least (block ∷ blocks) n all =
    let rest = count-least blocks n (All-tail (λ one. n ≤ length one) block blocks all) in
    let first : n ≤ length block = All-head (λ one. n ≤ length one) block blocks all in
    let both = length-append block (items_of blocks) in
    let more : n * suc (length blocks) ≡ n + n * length blocks = omega arith in
    omega arith

-- what the weights of blocks come to
pub count-weights : (blocks : List (List Item)) → count_sum (map weight_of blocks) ≡ length (items_of blocks)
count-weights [] = refl
count-weights (block ∷ blocks) =
    sum_by-cons (λ (weight : Weight). weight.count) (weight_of block) (map weight_of blocks)
    ∙ ap (λ (n : ℕ). length block + n) (count-weights blocks)
    ∙ sym (length-append block (items_of blocks))

pub size-weights : (blocks : List (List Item)) → size_sum (map weight_of blocks) ≡ size_of (items_of blocks)
size-weights [] = refl
size-weights (block ∷ blocks) =
    sum_by-cons (λ (weight : Weight). weight.size) (weight_of block) (map weight_of blocks)
    ∙ ap (λ (n : ℕ). size_of block + n) (size-weights blocks)
    ∙ sym (sum_by-append (λ (item : Item). item.size) block (items_of blocks))

-- an image where something comes in or goes
pub map-insert : {X Y : Type 0} (f : X → Y) (xs : List X) (place : ℕ) (x : X) → map f (insert xs place x) ≡ insert (map f xs) place (f x)
map-insert {X} {Y} f xs place x =
    map-append f (take place xs) (x ∷ drop place xs)
    ∙ ap₂ (λ (a b : List Y). a ++ f x ∷ b) (sym (take-map f place xs)) (sym (drop-map f place xs))

pub map-remove : {X Y : Type 0} (f : X → Y) (xs : List X) (place : ℕ) → map f (remove xs place) ≡ remove (map f xs) place
map-remove {X} {Y} f xs place =
    map-append f (take place xs) (drop (suc place) xs)
    ∙ ap₂ (λ (a b : List Y). a ++ b) (sym (take-map f place xs)) (sym (drop-map f (suc place) xs))
