-- How full blocks are after a change, and what follows for the room.
use Rattle.std.proofs.Common.{◌≡◌, ℕ, ◌+◌, ◌-◌, ◌*◌, ◌^◌, ◌<◌, ◌≤◌, List, [], ◌∷◌, ◌++◌, length, get_or, set, take, drop, min, All, ◌⊎◌, inl, inr, sym, ap, subst, ◌∙◌, arith}
use Rattle.std.proofs.lemmas.Bool.{cases_eq, cases_lt}
use Rattle.std.proofs.lemmas.List.{length-set, length-take-le, length-drop, take-set-le, take-take, drop-set-lt, drop-drop, get_or-take, get_or-drop, get_or-set_same}
use Rattle.std.proofs.lemmas.List.Elements.{All-append, All-cons, All-take, All-drop, All-set, All-get_or, All-from_get_or}
use Rattle.counted_blocks.specs.declared.Item.{Item}
use Rattle.counted_blocks.specs.Counted.{AreFilled, block_at, items_of}
use Rattle.counted_blocks.specs.Cuts.{AreFilledBut, AreLoose}
use Rattle.counted_blocks.proofs.Flat.{count-around, count-least}

-- a block has at most 128 items, and at least so many
abbrev pub IsFew : List Item → Type 0
IsFew block = length block ≤ 128

abbrev pub IsMany : List Item → Type 0
IsMany block = 64 ≤ length block

-- blocks of less than 2 ^ 32 items are few
pub blocks-few : (blocks : List (List Item)) → AreFilled blocks → length (items_of blocks) < 2 ^ 32 → length blocks < 2 ^ 31
blocks-few blocks filled few =
    elim (cases_lt 1 (length blocks)) [
      | inl more ↦ let least = count-least blocks 64 (filled.least more) in omega arith
      | inr one ↦ omega arith
    ]

module _ (blocks : List (List Item)) (b : ℕ) (within : b < length blocks) (filled : AreFilled blocks) where
  -- the blocks around one
  before-many : All IsMany (take b blocks)
  before-many =
      elim (cases_lt 1 (length blocks)) [
        | inl more ↦ All-take IsMany b blocks (filled.least more)
        | inr one ↦ All-from_get_or IsMany (take b blocks) [] (λ k to. let n = length-take-le b blocks (omega arith) in absurd (omega arith))
      ]

  behind-many : All IsMany (drop (b + 1) blocks)
  behind-many =
      elim (cases_lt 1 (length blocks)) [
        | inl more ↦ All-drop IsMany (b + 1) blocks (filled.least more)
        | inr one ↦ All-from_get_or IsMany (drop (b + 1) blocks) [] (λ k to. let n = length-drop (b + 1) blocks in absurd (omega arith))
      ]

  -- a full block is cut in two
  pub filled-split : (lower upper : List Item) → length lower ≡ 64 → length upper ≡ 64 → AreFilled (take b blocks ++ lower ∷ upper ∷ drop (b + 1) blocks)
  filled-split lower upper low up =
      record {
        most = All-append IsFew (take b blocks) (lower ∷ upper ∷ drop (b + 1) blocks) (All-take IsFew b blocks filled.most)
            (All-cons IsFew lower (upper ∷ drop (b + 1) blocks) (omega arith) (All-cons IsFew upper (drop (b + 1) blocks) (omega arith) (All-drop IsFew (b + 1) blocks filled.most)));
        least = λ more. All-append IsMany (take b blocks) (lower ∷ upper ∷ drop (b + 1) blocks) before-many
            (All-cons IsMany lower (upper ∷ drop (b + 1) blocks) (omega arith) (All-cons IsMany upper (drop (b + 1) blocks) (omega arith) behind-many));
      }

  -- where a block is full there are more items than one block more needs
  pub full-most : length (block_at blocks b) ≡ 128 → 64 * length blocks + 64 ≤ length (items_of blocks)
  full-most full =
      let count = count-around blocks b within in
      let front = count-least (take b blocks) 64 before-many in
      let back = count-least (drop (b + 1) blocks) 64 behind-many in
      let front-count = length-take-le b blocks (omega arith) in
      let back-count = length-drop (b + 1) blocks in
      omega arith

  -- a block that isn't full takes an item
  pub filled-put : (block : List Item) → length (block_at blocks b) ≤ length block → length block ≤ 128 → AreFilled (set blocks b block)
  filled-put block more fits =
      record {
        most = All-set IsFew blocks b block fits filled.most;
        least = λ two.
            let least = filled.least (subst (λ (n : ℕ). 1 < n) (length-set blocks b block) two) in
            let here : 64 ≤ length (block_at blocks b) = All-get_or IsMany blocks b [] within least in
            All-set IsMany blocks b block (omega arith) least;
      }

  -- a block gives an item
  pub but-taken : (block : List Item) → length block ≤ 128 → length (block_at blocks b) ≤ length block + 1 → AreFilledBut (set blocks b block) b
  but-taken block fits less =
      let count = length-set blocks b block in
      record {
        within = omega arith;
        most = All-set IsFew blocks b block fits filled.most;
        before = subst (λ (front : List (List Item)). All IsMany front) (sym (take-set-le b blocks b block (omega arith))) before-many;
        behind = subst (λ (back : List (List Item)). All IsMany back) (sym (drop-set-lt (b + 1) blocks b block (omega arith))) behind-many;
        least = λ more.
            let here : 64 ≤ length (block_at blocks b) = All-get_or IsMany blocks b [] within (filled.least (omega arith)) in
            let n = ap (length {A = Item}) (get_or-set_same blocks b block [] within) in
            omega arith;
      }

module _ (blocks : List (List Item)) (b : ℕ) (but : AreFilledBut blocks b) where
  -- all blocks but one
  pub others-many : (k : ℕ) → k < length blocks → (k ≡ b → ⊥) → 64 ≤ length (block_at blocks k)
  others-many k to away =
      elim (cases_lt k b) [
        | inl before ↦
            let n = length-take-le b blocks (omega (arith, but.within)) in
            let there : 64 ≤ length (get_or (take b blocks) k []) = but.before k [] (omega arith) in
            rw (get_or-take b blocks k [] before) at there
        | inr from ↦
            let n = length-drop (b + 1) blocks in
            let there : 64 ≤ length (get_or (drop (b + 1) blocks) (k - (b + 1)) []) = but.behind (k - (b + 1)) [] (omega arith) in
            let same : b + 1 + (k - (b + 1)) ≡ k = omega arith in
            rw (get_or-drop (b + 1) blocks (k - (b + 1)) [], same) at there
      ]

  -- which has 64 at least, or is the only one
  pub filled-but : (length blocks ≤ 1) ⊎ (64 ≤ length (block_at blocks b)) → AreFilled blocks
  filled-but enough =
      record {
        most = but.most;
        least = λ more. All-from_get_or IsMany blocks [] (λ k to.
            elim (cases_eq k b) [
              | inl here ↦
                  elim enough [
                    | inl one ↦ absurd (omega arith)
                    | inr many ↦ rw here many
                  ]
              | inr away ↦ others-many k to away
            ]);
      }

  -- or fewer, and is beside another one
  pub loose-but : 1 < length blocks → length (block_at blocks b) < 64 → AreLoose blocks (min b (length blocks - 2))
  loose-but more less =
      let here = but.least more in
      let inside = but.within in
      elim (cases_lt (b + 1) (length blocks)) [
        | inl before ↦
            let left : min b (length blocks - 2) ≡ b = omega arith in
            let right = others-many (b + 1) before (λ same. omega arith) in
            subst (AreLoose blocks) (sym left) (record {
              within = before;
              most = but.most;
              before = but.before;
              behind = subst (λ (back : List (List Item)). All IsMany back) (drop-drop 1 (b + 1) blocks ∙ ap (λ (m : ℕ). drop m blocks) (omega arith)) (All-drop IsMany 1 (drop (b + 1) blocks) but.behind);
              left_least = here;
              right_least = omega arith;
              one = omega arith;
            })
        | inr last ↦
            let left : min b (length blocks - 2) ≡ b - 1 = omega arith in
            let up : b - 1 + 1 ≡ b = omega arith in
            let there = others-many (b - 1) (omega arith) (λ same. omega arith) in
            let same = ap (λ (m : ℕ). length (block_at blocks m)) up in
            subst (AreLoose blocks) (sym left) (record {
              within = omega arith;
              most = but.most;
              before = subst (λ (front : List (List Item)). All IsMany front) (take-take (b - 1) b blocks (omega arith)) (All-take IsMany (b - 1) (take b blocks) but.before);
              behind = subst (λ (back : List (List Item)). All IsMany back) (ap (λ (m : ℕ). drop m blocks) (omega arith)) but.behind;
              left_least = omega arith;
              right_least = omega arith;
              one = omega arith;
            })
      ]

module _ (blocks : List (List Item)) (left : ℕ) (loose : AreLoose blocks left) where
  -- two blocks are joined
  pub filled-joined : (joined : List Item) → length joined ≤ 128 → 64 ≤ length joined → AreFilled (take left blocks ++ joined ∷ drop (left + 2) blocks)
  filled-joined joined fits many =
      record {
        most = All-append IsFew (take left blocks) (joined ∷ drop (left + 2) blocks) (All-take IsFew left blocks loose.most)
            (All-cons IsFew joined (drop (left + 2) blocks) fits (All-drop IsFew (left + 2) blocks loose.most));
        least = λ more. All-append IsMany (take left blocks) (joined ∷ drop (left + 2) blocks) loose.before
            (All-cons IsMany joined (drop (left + 2) blocks) many loose.behind);
      }

  -- or evened out
  pub filled-evened : (lower upper : List Item) → length lower ≤ 128 → 64 ≤ length lower → length upper ≤ 128 → 64 ≤ length upper → AreFilled (take left blocks ++ lower ∷ upper ∷ drop (left + 2) blocks)
  filled-evened lower upper low-fits low-many up-fits up-many =
      record {
        most = All-append IsFew (take left blocks) (lower ∷ upper ∷ drop (left + 2) blocks) (All-take IsFew left blocks loose.most)
            (All-cons IsFew lower (upper ∷ drop (left + 2) blocks) low-fits (All-cons IsFew upper (drop (left + 2) blocks) up-fits (All-drop IsFew (left + 2) blocks loose.most)));
        least = λ more. All-append IsMany (take left blocks) (lower ∷ upper ∷ drop (left + 2) blocks) loose.before
            (All-cons IsMany lower (upper ∷ drop (left + 2) blocks) low-many (All-cons IsMany upper (drop (left + 2) blocks) up-many loose.behind));
      }
