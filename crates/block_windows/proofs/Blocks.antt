-- Blocks that have an address in common, by windows of 32 bits of their addresses.
use Rattle.std.proofs.Common.{◌≡◌, ℕ, ◌+◌, ◌-◌, ◌*◌, ◌/◌, ◌%◌, ◌^◌, ◌<◌, ◌≤◌, true, nat_le, arith, inl, inr, refl, sym, ◌∙◌, ap, subst, eqb-true, div-add-mod'}
use Rattle.std.proofs.lemmas.Bool.{cases_lt, cond-true, cond-false, lt-leb, le-leb}
use Rattle.std.proofs.lemmas.Nat.{field_of, shr-shr, pow_pos, mod_below}
use Rattle.std.proofs.Math.Nat.{mod-one, zero-div}
use Rattle.std.proofs.Math.Pow.{mod-mod-pow}
use Rattle.rule_model.specs.AddressBlock.{AddressBlock, block_holds}
use Rattle.rule_model.specs.Rule.{blocks_meet}
use Rattle.rule_model.proofs.Multiples.{block_fits, multiple_lower}
use Rattle.block_windows.specs.Windows.{window_of, open_bits, first_of, last_of}

-- of an address with no bit set past a length, a window has none set past it either
pub window_multiple : (addr len before : ℕ) → before ≤ 96 → addr % 2 ^ (128 - len) ≡ 0 → window_of before addr % 2 ^ open_bits before len ≡ 0
window_multiple addr len before some clear = elim (cases_lt 31 (len - before)) [
  | inl long ↦ let none : open_bits before len ≡ 0 = omega arith in subst (λ s. window_of before addr % 2 ^ s ≡ 0) (sym none) (mod-one (window_of before addr))
  | inr short ↦
      let below = 96 - before in
      let n = addr / 2 ^ below in
      let over = 128 - len - below in
      let room : over + below ≡ 128 - len = omega arith in
      let whole : addr % 2 ^ (over + below) ≡ 0 = subst (λ s. addr % 2 ^ s ≡ 0) (sym room) clear in
      let clear_over : n % 2 ^ over ≡ 0 = sym (field_of addr over below) ∙ ap (λ (x : ℕ). x / 2 ^ below) whole ∙ zero-div (2 ^ below) in
      let free = open_bits before len in
      let both : (32 - free) + free ≡ 32 = omega arith in
      ap (λ s. n % 2 ^ s % 2 ^ free) (sym both) ∙ mod-mod-pow n (32 - free) free ∙ multiple_lower free over n (omega arith) clear_over
]

-- its block has no number past those of 32 bits
pub span_fits : (window bits : ℕ) → bits ≤ 32 → window < 2 ^ 32 → window % 2 ^ bits ≡ 0 → window + 2 ^ bits ≤ 2 ^ 32
span_fits window bits few small multiple = block_fits bits 32 0 window few refl multiple small

-- addresses that agree on leading bits agree on fewer
leading_same : (x y below free rest : ℕ) → rest ≤ below + free → x / 2 ^ rest ≡ y / 2 ^ rest → x / 2 ^ below / 2 ^ free ≡ y / 2 ^ below / 2 ^ free
leading_same x y below free rest fewer same =
    let more = below + free - rest in
    let whole : below + free ≡ rest + more = omega arith in
    shr-shr x below free ∙ ap (λ s. x / 2 ^ s) whole ∙ sym (shr-shr x rest more)
    ∙ ap (λ (n : ℕ). n / 2 ^ more) same
    ∙ shr-shr y rest more ∙ ap (λ s. y / 2 ^ s) (sym whole) ∙ sym (shr-shr y below free)

-- addresses that agree on leading bits agree on those of a window
window_same : (before x y len : ℕ) → before ≤ 96 → x / 2 ^ (128 - len) ≡ y / 2 ^ (128 - len)
    → window_of before x / 2 ^ open_bits before len ≡ window_of before y / 2 ^ open_bits before len
window_same before x y len some same =
    let free = open_bits before len in
    let below = 96 - before in
    let both : (32 - free) + free ≡ 32 = omega arith in
    field x free below both
    ∙ elim (cases_lt before len) [
      | inl closed ↦ ap (λ (n : ℕ). n % 2 ^ (32 - free)) (leading_same x y below free (128 - len) (omega arith) same)
      | inr all ↦
          let none : 32 - free ≡ 0 = omega arith in
          subst (λ s. x / 2 ^ below / 2 ^ free % 2 ^ s ≡ y / 2 ^ below / 2 ^ free % 2 ^ s) (sym none) (mod-one (x / 2 ^ below / 2 ^ free) ∙ sym (mod-one (y / 2 ^ below / 2 ^ free)))
    ]
    ∙ sym (field y free below both)
  where
    field : (n free below : ℕ) → (32 - free) + free ≡ 32 → n / 2 ^ below % 2 ^ 32 / 2 ^ free ≡ n / 2 ^ below / 2 ^ free % 2 ^ (32 - free)
    field n free below both = ap (λ s. n / 2 ^ below % 2 ^ s / 2 ^ free) (sym both) ∙ field_of (n / 2 ^ below) (32 - free) free

-- numbers in one block of a size lie between its first and its last
same_between : (x y size : ℕ) → 1 ≤ size → x / size ≡ y / size → (x / size * size ≤ y) × (y ≤ x + (size - 1))
same_between x y size some same =
    let parts_x = div-add-mod' x size in
    let parts_y = div-add-mod' y size in
    let low_y = mod_below y size (omega arith) in
    let equal : x / size * size ≡ y / size * size = ap (λ (n : ℕ). n * size) same in
    (omega arith, omega arith)

rounded : (x size : ℕ) → x / size * size ≤ x
rounded x size = let parts = div-add-mod' x size in omega arith

-- the least number of a block's window fits 32 bits
pub first_fits : (before : ℕ) (block : AddressBlock) → first_of before block ≤ 2 ^ 32 - 1
first_fits before block =
    let round = rounded (window_of before block.addr) (2 ^ open_bits before block.len) in
    let small = mod_below (block.addr / 2 ^ (96 - before)) (2 ^ 32) (omega arith) in
    omega arith

-- and isn't above its greatest
pub first_below_last : (before : ℕ) (block : AddressBlock) → first_of before block ≤ last_of before block
first_below_last before block = let round = rounded (window_of before block.addr) (2 ^ open_bits before block.len) in omega arith

-- an address of a block has a number between them
pub held_within : (before : ℕ) (block : AddressBlock) (address : ℕ) → before ≤ 96 → block_holds block address ≡ true → (first_of before block ≤ window_of before address) × (window_of before address ≤ last_of before block)
held_within before block address some held =
    let size = pow_pos (open_bits before block.len) in
    same_between (window_of before block.addr) (window_of before address) (2 ^ open_bits before block.len) (omega arith)
    (window_same before block.addr address block.len some (sym (eqb-true _ _ held)))

-- a block that holds the address of another one is near it
held_near : (before : ℕ) (a b : AddressBlock) → before ≤ 96 → block_holds a b.addr ≡ true → (first_of before a ≤ last_of before b) × (first_of before b ≤ last_of before a)
held_near before a b some held =
    let between = held_within before a b.addr some held in
    let size = pow_pos (open_bits before b.len) in
    let low = between.0 in
    let high = between.1 in
    let round = rounded (window_of before b.addr) (2 ^ open_bits before b.len) in
    (omega arith, omega arith)

-- blocks that meet are near one another in each window
pub meet_near : (before : ℕ) (a b : AddressBlock) → before ≤ 96 → blocks_meet a b ≡ true → (first_of before a ≤ last_of before b) × (first_of before b ≤ last_of before a)
meet_near before a b some meet = elim (cases_lt b.len a.len) [
  | inl longer ↦ let near = held_near before b a some (sym (cond-false (nat_le a.len b.len) _ _ (lt-leb _ _ longer)) ∙ meet) in (near.1, near.0)
  | inr shorter ↦ held_near before a b some (sym (cond-true (nat_le a.len b.len) _ _ (le-leb _ _ shorter)) ∙ meet)
]
