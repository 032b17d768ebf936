-- The word of a port, bit by bit.
use Rattle.std.proofs.Common.{◌≡◌, ◌≢◌, ℕ, zero, suc, ◌+◌, ◌-◌, ◌*◌, ◌%◌, ◌^◌, ◌<◌, ◌≤◌, max, Bool, true, false, ◌==◌, Option, Some, None, [], ◌∷◌, length, get_or, drop, ◌↔◌, IsTrue, inl, inr, refl, ap, sym, ◌∙◌, subst, arith, bit_and, bit_or, bit_xor, eq-eqb, ne_eqb, eqb-true}
use Rattle.std.specs.Int.{bit_at}
use Rattle.std.specs.Int.Bits.{or_add_and, xor_add_and}
use Rattle.std.specs.List.{fold, enumerate_from}
use Rattle.std.proofs.lemmas.Bool.{cases_Bool, cond-true, cond-false, eqb-false}
use Rattle.std.proofs.lemmas.List.{drop_all}
use Rattle.std.proofs.lemmas.Nat.{and_comm, and_le_l, and-not, or_lt, pow_below}
use Rattle.std.proofs.lemmas.Nat.Bits.{bit_at_or, bit_at_xor, bit_at-pow_same, bit_at-pow_other, bit_at-lt, and_pow}
use Rattle.std.proofs.Math.Nat.{mod-eq_of_lt}
use Rattle.rule_model.specs.PortRange.{PortRange, is_bit_set, range_holds}
use Rattle.range_bits.specs.LiveRanges.{LiveRanges, range_at, with_bit, bit_for, word_for}

clear_bit : (word bit : ℕ) → is_bit_set word bit ≡ false → bit_at word bit ≡ 0
clear_bit word bit clear = let other = eqb-false (bit_at word bit) 1 clear in let low = bit_at-lt word bit in omega arith

set_mask : (word bit : ℕ) → is_bit_set word bit ≡ true → bit_and word (2 ^ bit) ≡ 2 ^ bit
set_mask word bit set =
    let one : bit_at word bit * 2 ^ bit ≡ 1 * 2 ^ bit = ap (λ b. b * 2 ^ bit) (eqb-true (bit_at word bit) 1 set) in
    let mask = and_pow word bit in
    omega arith

clear_mask : (word bit : ℕ) → is_bit_set word bit ≡ false → bit_and word (2 ^ bit) ≡ 0
clear_mask word bit clear =
    let none : bit_at word bit * 2 ^ bit ≡ 0 * 2 ^ bit = ap (λ b. b * 2 ^ bit) (clear_bit word bit clear) in
    let mask = and_pow word bit in
    omega arith

-- without a bit that was set, and without one that was clear
with_bit-off_set : (word bit : ℕ) → is_bit_set word bit ≡ true → with_bit word bit false ≡ word - 2 ^ bit
with_bit-off_set word bit set = let e = cond-true (is_bit_set word bit) (word - 2 ^ bit) word set in omega arith

with_bit-flipped : (word bit : ℕ) → is_bit_set word bit ≡ true → with_bit word bit false ≡ bit_xor word (2 ^ bit)
with_bit-flipped word bit set =
    let mask = set_mask word bit set in
    let within = and_le_l word (2 ^ bit) in
    let sum = xor_add_and word (2 ^ bit) in
    let off = with_bit-off_set word bit set in
    omega arith

with_bit-off_clear : (word bit : ℕ) → is_bit_set word bit ≡ false → with_bit word bit false ≡ word
with_bit-off_clear word bit clear = let e = cond-false (is_bit_set word bit) (word - 2 ^ bit) word clear in omega arith

-- to set a bit is `|`
pub with_bit-on : (word bit : ℕ) → with_bit word bit true ≡ bit_or word (2 ^ bit)
with_bit-on word bit =
    let sum = or_add_and word (2 ^ bit) in
    elim (cases_Bool (is_bit_set word bit)) [
      | inl set ↦
          let mask = set_mask word bit set in
          let within = and_le_l word (2 ^ bit) in
          let e = cond-true (is_bit_set word bit) (word - 2 ^ bit) word set in
          omega arith
      | inr clear ↦
          let mask = clear_mask word bit clear in
          let e = cond-false (is_bit_set word bit) (word - 2 ^ bit) word clear in
          omega arith
    ]

-- to clear a bit is `& !`
pub with_bit-off : (word bit : ℕ) → word < 2 ^ 16 → bit < 16 → with_bit word bit false ≡ bit_and word (65535 - 2 ^ bit)
with_bit-off word bit fits small =
    let low : 2 ^ bit < 2 ^ 16 = pow_below bit 16 small in
    let rest = and-not 16 (2 ^ bit) word low fits in
    let turned = and_comm word (65535 - 2 ^ bit) in
    let mask = and_comm word (2 ^ bit) in
    elim (cases_Bool (is_bit_set word bit)) [
      | inl set ↦ let off = with_bit-off_set word bit set in let whole = set_mask word bit set in omega arith
      | inr clear ↦ let off = with_bit-off_clear word bit clear in let none = clear_mask word bit clear in omega arith
    ]

-- the same, by the mask that the code makes
shifted : (bit : ℕ) → bit < 16 → 1 * 2 ^ bit % 65536 ≡ 2 ^ bit
shifted bit small =
    let low : 2 ^ bit < 2 ^ 16 = pow_below bit 16 small in
    let fits : 1 * 2 ^ bit < 65536 = omega arith in
    let e = mod-eq_of_lt fits in
    omega arith

pub set_by_or : (word bit : ℕ) (on : Bool) → bit < 16 → on ≡ true → bit_or word (1 * 2 ^ bit % 65536) ≡ with_bit word bit on
set_by_or word bit on small set = ap (bit_or word) (shifted bit small) ∙ sym (with_bit-on word bit) ∙ ap (with_bit word bit) (sym set)

pub cleared_by_and : (word bit : ℕ) (on : Bool) → word < 2 ^ 16 → bit < 16 → on ≡ false → bit_and word (65535 - 1 * 2 ^ bit % 65536) ≡ with_bit word bit on
cleared_by_and word bit on fits small clear =
    ap (λ m. bit_and word (65535 - m)) (shifted bit small) ∙ sym (with_bit-off word bit fits small) ∙ ap (with_bit word bit) (sym clear)

-- the bit is as it was wanted
pub with_bit-same : (word bit : ℕ) (on : Bool) → is_bit_set (with_bit word bit on) bit ≡ on
with_bit-same word bit true =
    let low = bit_at-lt word bit in
    let one : bit_at (bit_or word (2 ^ bit)) bit ≡ 1 =
    bit_at_or word (2 ^ bit) bit ∙ ap (λ b. max (bit_at word bit) b) (bit_at-pow_same bit) ∙ (omega arith) in
    eq-eqb _ 1 (ap (λ w. bit_at w bit) (with_bit-on word bit) ∙ one)
with_bit-same word bit false =
    elim (cases_Bool (is_bit_set word bit)) [
      | inl set ↦
          let flipped = with_bit-flipped word bit set in
          let was = eqb-true (bit_at word bit) 1 set in
          let none : bit_at (bit_xor word (2 ^ bit)) bit ≡ 0 =
          bit_at_xor word (2 ^ bit) bit ∙ ap (λ b. (bit_at word bit + b) % 2) (bit_at-pow_same bit) ∙ ap (λ b. (b + 1) % 2) was in
          ne_eqb _ 1 (let e = ap (λ w. bit_at w bit) flipped in omega arith)
      | inr clear ↦ ap (λ w. is_bit_set w bit) (with_bit-off_clear word bit clear) ∙ clear
    ]

-- and each other bit as it was
pub with_bit-other : (word bit : ℕ) (on : Bool) (other : ℕ) → other ≢ bit → is_bit_set (with_bit word bit on) other ≡ is_bit_set word other
with_bit-other word bit true other apart =
    let same : bit_at (bit_or word (2 ^ bit)) other ≡ bit_at word other =
    bit_at_or word (2 ^ bit) other ∙ ap (λ b. max (bit_at word other) b) (bit_at-pow_other bit other apart) ∙ (omega arith) in
    ap (λ b. b == 1) (ap (λ w. bit_at w other) (with_bit-on word bit) ∙ same)
with_bit-other word bit false other apart =
    elim (cases_Bool (is_bit_set word bit)) [
      | inl set ↦
          let flipped = with_bit-flipped word bit set in
          let low = bit_at-lt word other in
          let same : bit_at (bit_xor word (2 ^ bit)) other ≡ bit_at word other =
          bit_at_xor word (2 ^ bit) other ∙ ap (λ b. (bit_at word other + b) % 2) (bit_at-pow_other bit other apart) ∙ (omega arith) in
          ap (λ b. b == 1) (ap (λ w. bit_at w other) flipped ∙ same)
      | inr clear ↦ ap (λ w. is_bit_set w other) (with_bit-off_clear word bit clear)
    ]

-- one bit's step
bit_for-other : (port word bit : ℕ) (held : Option PortRange) (other : ℕ) → other ≢ bit → is_bit_set (bit_for port word (bit, held)) other ≡ is_bit_set word other
bit_for-other port word bit None other apart = refl
bit_for-other port word bit (Some range) other apart = with_bit-other word bit (range_holds range port) other apart

-- bits below those of the list stay
bits_below : (live : LiveRanges) (port first word bit : ℕ) → bit < first → is_bit_set (fold (bit_for port) word (enumerate_from first live)) bit ≡ is_bit_set word bit
bits_below [] port first word bit below = refl
bits_below (held ∷ live) port first word bit below =
    bits_below live port (first + 1) (bit_for port word (first, held)) bit (omega arith) ∙ bit_for-other port word first held bit (λ same. omega arith)

bits_live : (live : LiveRanges) (port first word place bit : ℕ) (range : PortRange) → first + place ≡ bit → get_or live place None ≡ Some range
    → is_bit_set (fold (bit_for port) word (enumerate_from first live)) bit ≡ range_holds range port
bits_live [] port first word place bit range at held = absurd (cc)
bits_live (None ∷ live) port first word zero bit range at held = absurd (cc)
bits_live (Some other ∷ live) port first word zero bit range at held =
    let here : first ≡ bit = omega arith in
    let is : other ≡ range = cc in
    bits_below live port (first + 1) (with_bit word first (range_holds other port)) bit (omega arith)
    ∙ subst (λ b. is_bit_set (with_bit word first (range_holds other port)) b ≡ range_holds other port) here (with_bit-same word first (range_holds other port))
    ∙ ap (λ (r : PortRange). range_holds r port) is
bits_live (other ∷ live) port first word (suc place) bit range at held =
    bits_live live port (first + 1) (bit_for port word (first, other)) place bit range (omega arith) held

bits_free : (live : LiveRanges) (port first word place bit : ℕ) → first + place ≡ bit → get_or live place None ≡ None
    → is_bit_set (fold (bit_for port) word (enumerate_from first live)) bit ≡ is_bit_set word bit
bits_free [] port first word place bit at free = refl
bits_free (None ∷ live) port first word zero bit at free = bits_below live port (first + 1) word bit (omega arith)
bits_free (Some other ∷ live) port first word zero bit at free = absurd (cc)
bits_free (held ∷ live) port first word (suc place) bit at free =
    bits_free live port (first + 1) (bit_for port word (first, held)) place bit (omega arith) free
    ∙ bit_for-other port word first held bit (λ same. omega arith)

-- each live bit of a port's word is set exactly where its range holds the port, and the others are as in the old word
pub word_for-live : (live : LiveRanges) (port old bit : ℕ) (range : PortRange) → range_at live bit ≡ Some range → is_bit_set (word_for live port old) bit ≡ range_holds range port
word_for-live live port old bit range held = bits_live live port 0 old bit bit range (omega arith) held

pub word_for-other : (live : LiveRanges) (port old bit : ℕ) → range_at live bit ≡ None → is_bit_set (word_for live port old) bit ≡ is_bit_set old bit
word_for-other live port old bit free = bits_free live port 0 old bit bit (omega arith) free

-- the bits from one on are to come
abbrev pub rest_of : LiveRanges → ℕ → ℕ → ℕ → ℕ
rest_of live port word bit = fold (bit_for port) word (enumerate_from bit (drop bit live))

pub rest_of-none : (ranges live : LiveRanges) (port old word bit : ℕ) → ranges ≡ live → length ranges ≤ bit → rest_of ranges port word bit ≡ word_for ranges port old → word ≡ word_for live port old
rest_of-none ranges live port old word bit same all made =
    sym (ap (λ (l : LiveRanges). fold (bit_for port) word (enumerate_from bit l)) (drop_all bit ranges all)) ∙ made ∙ ap (λ (l : LiveRanges). word_for l port old) same

-- a word that is the port's, in the words of a contract
pub live_exactly : (live : LiveRanges) (port old word : ℕ) → word ≡ word_for live port old → (bit : ℕ) (range : PortRange) → range_at live bit ≡ Some range
    → IsTrue (is_bit_set word bit) ↔ IsTrue (range_holds range port)
live_exactly live port old word is bit range held =
    let same = ap (λ w. is_bit_set w bit) is ∙ word_for-live live port old bit range held in (λ set. sym same ∙ set, λ holds. same ∙ holds)

pub others_kept : (live : LiveRanges) (port old word : ℕ) → word ≡ word_for live port old → (bit : ℕ) → range_at live bit ≡ None → is_bit_set word bit ≡ is_bit_set old bit
others_kept live port old word is bit free = ap (λ w. is_bit_set w bit) is ∙ word_for-other live port old bit free

-- a word keeps its 16 bits
with_bit-below : (word bit : ℕ) (on : Bool) → word < 2 ^ 16 → bit < 16 → with_bit word bit on < 2 ^ 16
with_bit-below word bit true fits small = let e = with_bit-on word bit in let low = or_lt 16 word (2 ^ bit) fits (pow_below bit 16 small) in omega arith
with_bit-below word bit false fits small = let e = with_bit-off word bit fits small in let low = and_le_l word (65535 - 2 ^ bit) in omega arith

bits_fit : (live : LiveRanges) (port first word : ℕ) → first + length live ≤ 16 → word < 2 ^ 16 → fold (bit_for port) word (enumerate_from first live) < 2 ^ 16
bits_fit [] port first word small fits = fits
bits_fit (None ∷ live) port first word small fits = bits_fit live port (first + 1) word (omega arith) fits
bits_fit (Some range ∷ live) port first word small fits =
    bits_fit live port (first + 1) (with_bit word first (range_holds range port)) (omega arith) (with_bit-below word first (range_holds range port) fits (omega arith))

pub word_for-fits : (live : LiveRanges) (port old : ℕ) → length live ≡ 16 → old < 2 ^ 16 → word_for live port old < 2 ^ 16
word_for-fits live port old size fits = bits_fit live port 0 old (omega arith) fits
