-- One word's lowest and highest bits, and the bit of a place over words of 64.
use Rattle.std.proofs.Common.{◌≡◌, ◌≢◌, ℕ, suc, ◌+◌, ◌-◌, ◌*◌, ◌/◌, ◌%◌, ◌^◌, ◌<◌, ◌≤◌, min, List, None, Some, length, replicate, arith, inl, inr, refl, sym, ◌∙◌, subst, ap}
use Rattle.std.specs.Prelude.{slice_set, slice_index_or, bit_and}
use Rattle.std.specs.Int.{w64, bit_at, trailing_zeros, leading_zeros}
use Rattle.std.proofs.Math.Nat.{div-div-eq-div-mul, div-le_self}
use Rattle.std.proofs.lemmas.Bool.{cases_lt, cases_eq}
use Rattle.std.proofs.lemmas.List.{get_or-set_same, get_or-set_other, get_or_past, get_or-replicate, length-replicate}
use Rattle.std.proofs.lemmas.Nat.{pow-add, div-mul-add, and_le_l, leading_top}
use Rattle.std.proofs.lemmas.Nat.Bits.{bit_at-lt, bit_at-zero, bit_at_above, bit_at_and, bit_at_ones, bit_at_ones_above, ones_shr, bit_at-trailing_zeros}
use Rattle.word_tree.specs.Tree.{bit_of, IsLowest, IsHighest}

-- a bit of what is shifted down
shifted : (n a i : ℕ) → bit_at (n / 2 ^ a) i ≡ bit_at n (a + i)
shifted n a i = ap (λ z. z % 2) (div-div-eq-div-mul n (2 ^ a) (2 ^ i) ∙ ap (λ z. n / z) (sym (pow-add 2 a i)))

shifted_from : (n from i : ℕ) → from ≤ i → bit_at n i ≡ bit_at (n / 2 ^ from) (i - from)
shifted_from n from i high = let e : from + (i - from) ≡ i = omega arith in subst (λ z. bit_at n z ≡ bit_at (n / 2 ^ from) (i - from)) e (sym (shifted n from (i - from)))

pub lowest_none : (word from : ℕ) → word / 2 ^ from ≡ 0 → IsLowest word from None
lowest_none word from none = λ i high below. shifted_from word from i high ∙ (ap (λ z. bit_at z (i - from)) none ∙ bit_at-zero (i - from))

pub lowest_some : (word from : ℕ) → word < 2 ^ 64 → 0 < word / 2 ^ from → IsLowest word from (Some (from + trailing_zeros w64 (word / 2 ^ from)))
lowest_some word from fits some =
    let rest = word / 2 ^ from in
    let low : rest ≤ word = div-le_self word (2 ^ from) in
    let t = bit_at-trailing_zeros w64 rest some (omega arith) in
    let one : bit_at word (from + trailing_zeros w64 rest) ≡ 1 = sym (shifted word from (trailing_zeros w64 rest)) ∙ t.1 in
    let inside : from + trailing_zeros w64 rest < 64 = elim (cases_lt (from + trailing_zeros w64 rest) 64) [
      | inl below ↦ below
      | inr above ↦ absurd (let z : bit_at word (from + trailing_zeros w64 rest) ≡ 0 = bit_at_above word 64 (from + trailing_zeros w64 rest) fits above in let w : 0 ≡ 1 = sym z ∙ one in cc)
    ] in
    (omega arith, inside, one, λ i high below. shifted_from word from i high ∙ t.2 (i - from) (omega arith))

-- the bits of a word up to one
kept : (word last i : ℕ) → i ≤ last → bit_at (bit_and word (2 ^ suc last - 1)) i ≡ bit_at word i
kept word last i low =
    let e = bit_at_and word (2 ^ suc last - 1) i in
    let ones : bit_at (2 ^ suc last - 1) i ≡ 1 = bit_at_ones (suc last) i (omega arith) in
    let b : bit_at word i < 2 = bit_at-lt word i in
    e ∙ (ap (min (bit_at word i)) ones ∙ least (bit_at word i) b)
  where
    least : (b : ℕ) → b < 2 → min b 1 ≡ b
    least b below = omega arith

dropped : (word last i : ℕ) → last < i → bit_at (bit_and word (2 ^ suc last - 1)) i ≡ 0
dropped word last i high =
    bit_at_and word (2 ^ suc last - 1) i ∙ (ap (min (bit_at word i)) (bit_at_ones_above (suc last) i (omega arith)) ∙ least (bit_at word i))
  where
    least : (b : ℕ) → min b 0 ≡ 0
    least b = omega arith

mask : (last : ℕ) → last < 64 → (2 ^ 64 - 1) / 2 ^ (63 - last) ≡ 2 ^ suc last - 1
mask last below = let e : 64 - (63 - last) ≡ suc last = omega arith in subst (λ z. (2 ^ 64 - 1) / 2 ^ (63 - last) ≡ 2 ^ z - 1) e (ones_shr 64 (63 - last) (omega arith))

-- the bit at a number's length is 1
top : (n j : ℕ) → 2 ^ j ≤ n → n < 2 ^ suc j → bit_at n j ≡ 1
top n j low high =
    let double : 2 ^ suc j ≡ 2 ^ j * 2 = omega arith in
    let e : 1 * 2 ^ j + (n - 2 ^ j) ≡ n = omega arith in
    let one : n / 2 ^ j ≡ 1 = subst (λ z. z / 2 ^ j ≡ 1) e (div-mul-add 1 (2 ^ j) (n - 2 ^ j) (omega arith)) in
    ap (λ z. z % 2) one

pub highest_none : (word last rest : ℕ) → last < 64 → rest ≡ bit_and word ((2 ^ 64 - 1) / 2 ^ (63 - last)) → rest ≡ 0 → IsHighest word (suc last) None
highest_none word last rest below is none = λ i low.
    sym (kept word last i (omega arith)) ∙ (ap (λ z. bit_at z i) (sym (is ∙ ap (bit_and word) (mask last below)) ∙ none) ∙ bit_at-zero i)

pub highest_some : (word last rest : ℕ) → last < 64 → rest ≡ bit_and word ((2 ^ 64 - 1) / 2 ^ (63 - last)) → word < 2 ^ 64 → 0 < rest → IsHighest word (suc last) (Some (63 - leading_zeros w64 rest))
highest_some word last rest below is fits some =
    let cut : rest ≡ bit_and word (2 ^ suc last - 1) = is ∙ ap (bit_and word) (mask last below) in
    let small : bit_and word (2 ^ suc last - 1) ≤ word = and_le_l word (2 ^ suc last - 1) in
    go cut (leading_top 64 rest some (omega arith))
  where
    go : rest ≡ bit_and word (2 ^ suc last - 1) → (j : ℕ) × (leading_zeros w64 rest + suc j ≡ 64) × (2 ^ j ≤ rest) × (rest < 2 ^ suc j) → IsHighest word (suc last) (Some (63 - leading_zeros w64 rest))
    go cut t =
        let j = t.0 in
        let count : leading_zeros w64 rest + suc j ≡ 64 = t.1 in
        let e : j ≡ 63 - leading_zeros w64 rest = omega arith in
        let one : bit_at rest j ≡ 1 = top rest j t.2 t.3 in
        let inside : j ≤ last = elim (cases_lt last j) [
          | inl above ↦ absurd (let z : bit_at rest j ≡ 0 = ap (λ z. bit_at z j) cut ∙ dropped word last j above in let w : 0 ≡ 1 = sym z ∙ one in cc)
          | inr low ↦ low
        ] in
        subst (λ z. IsHighest word (suc last) (Some z)) e (
          omega arith,
          sym (kept word last j inside) ∙ (ap (λ z. bit_at z j) (sym cut) ∙ one),
          λ i above low. sym (kept word last i (omega arith)) ∙ (ap (λ z. bit_at z i) (sym cut) ∙ bit_at_above rest (suc j) i t.3 (omega arith)),
        )

pub high_none : (word to : ℕ) → 0 < to → to ≤ 64 → bit_and word ((2 ^ 64 - 1) / 2 ^ (64 - to)) ≡ 0 → IsHighest word to None
high_none word to some small none =
    let e : suc (to - 1) ≡ to = omega arith in
    let f : 64 - to ≡ 63 - (to - 1) = omega arith in
    subst (λ z. IsHighest word z None) e (highest_none word (to - 1) (bit_and word ((2 ^ 64 - 1) / 2 ^ (63 - (to - 1)))) (omega arith) refl (subst (λ z. bit_and word ((2 ^ 64 - 1) / 2 ^ z) ≡ 0) f none))

pub high_some : (word to : ℕ) → 0 < to → to ≤ 64 → word < 2 ^ 64 → 0 < bit_and word ((2 ^ 64 - 1) / 2 ^ (64 - to)) → IsHighest word to (Some (63 - leading_zeros w64 (bit_and word ((2 ^ 64 - 1) / 2 ^ (64 - to)))))
high_some word to some small fits rest =
    let e : suc (to - 1) ≡ to = omega arith in
    let f : 63 - (to - 1) ≡ 64 - to = omega arith in
    subst (λ z. IsHighest word z (Some (63 - leading_zeros w64 (bit_and word ((2 ^ 64 - 1) / 2 ^ (64 - to)))))) e
    (highest_some word (to - 1) (bit_and word ((2 ^ 64 - 1) / 2 ^ (64 - to))) (omega arith) (ap (λ z. bit_and word ((2 ^ 64 - 1) / 2 ^ z)) (sym f)) fits rest)

pub first_is : (word : ℕ) → 0 < word → word < 2 ^ 64 → IsLowest word 0 (Some (trailing_zeros w64 word))
first_is word some fits = let t = bit_at-trailing_zeros w64 word some fits in (omega arith, t.0, t.1, λ i low below. t.2 i below)

pub last_is : (word : ℕ) → 0 < word → word < 2 ^ 64 → IsHighest word 64 (Some (63 - leading_zeros w64 word))
last_is word some fits = go (leading_top 64 word some fits)
  where
    go : (j : ℕ) × (leading_zeros w64 word + suc j ≡ 64) × (2 ^ j ≤ word) × (word < 2 ^ suc j) → IsHighest word 64 (Some (63 - leading_zeros w64 word))
    go t =
        let j = t.0 in
        let count : leading_zeros w64 word + suc j ≡ 64 = t.1 in
        let e : j ≡ 63 - leading_zeros w64 word = omega arith in
        subst (λ z. IsHighest word 64 (Some z)) e (omega arith, top word j t.2 t.3, λ i above low. bit_at_above word (suc j) i t.3 (omega arith))

-- a place's bit is one of its word
pub bit_in_word : (words : List ℕ) (word i k : ℕ) → i < 64 → k ≡ word * 64 + i → bit_of words k ≡ bit_at (slice_index_or words word 0) i
unfolding bit_of
bit_in_word words word i k below is =
    let q : k / 64 ≡ word = omega arith in
    let r : k % 64 ≡ i = omega arith in
    ap (λ z. bit_at (slice_index_or words z 0) (k % 64)) q ∙ ap (bit_at (slice_index_or words word 0)) r

-- no bit past the words is 1
pub bit_past : (words : List ℕ) (k : ℕ) → length words * 64 ≤ k → bit_of words k ≡ 0
unfolding bit_of
bit_past words k past = ap (λ z. bit_at z (k % 64)) (get_or_past words (k / 64) 0 (omega arith)) ∙ bit_at-zero (k % 64)

-- no word of 0 has a bit that is 1
pub bit_of_zeros : (size k : ℕ) → bit_of (replicate size 0) k ≡ 0
bit_of_zeros size k = elim (cases_lt (k / 64) size) [
  | inl inside ↦ bit_in_word (replicate size 0) (k / 64) (k % 64) k (omega arith) (omega arith) ∙ (ap (λ z. bit_at z (k % 64)) (get_or-replicate size (k / 64) 0 0 inside) ∙ bit_at-zero (k % 64))
  | inr past ↦ bit_past (replicate size 0) k (let l : length (replicate {A = ℕ} size 0) ≡ size = length-replicate size 0 in omega arith)
]

-- a word put in place of another has its bits, and the others stay
put_inside : (words : List ℕ) (place k word : ℕ) → place < length words → k / 64 ≡ place → bit_of (slice_set words place word) k ≡ bit_at word (k % 64)
put_inside words place k word inside here =
    bit_in_word (slice_set words place word) place (k % 64) k (omega arith) (omega arith) ∙ ap (λ z. bit_at z (k % 64)) (get_or-set_same words place word 0 inside)

put_outside : (words : List ℕ) (place k word : ℕ) → k / 64 ≢ place → bit_of (slice_set words place word) k ≡ bit_of words k
unfolding bit_of
put_outside words place k word other = ap (λ z. bit_at z (k % 64)) (get_or-set_other words place (k / 64) word 0 other)

-- a word whose one bit is set or cleared
pub one_bit : (words : List ℕ) (slot word : ℕ) → slot < length words * 64
    → ((i : ℕ) → i < 64 → i ≢ slot % 64 → bit_at word i ≡ bit_at (slice_index_or words (slot / 64) 0) i)
    → (k : ℕ) → k ≢ slot → bit_of (slice_set words (slot / 64) word) k ≡ bit_of words k
one_bit words slot word inside same k other = elim (cases_eq (k / 64) (slot / 64)) [
  | inr far ↦ put_outside words (slot / 64) k word far
  | inl near ↦ put_inside words (slot / 64) k word (omega arith) near
      ∙ (same (k % 64) (omega arith) (λ e. other (omega arith)) ∙ sym (bit_in_word words (slot / 64) (k % 64) k (omega arith) (omega arith)))
]

pub the_bit : (words : List ℕ) (slot word : ℕ) → slot < length words * 64 → bit_of (slice_set words (slot / 64) word) slot ≡ bit_at word (slot % 64)
the_bit words slot word inside = put_inside words (slot / 64) slot word (omega arith) (let e : slot / 64 ≡ slot / 64 = omega arith in e)

-- a word put in place of another keeps the others
pub far_word : (words : List ℕ) (place word w : ℕ) → w ≢ place → slice_index_or (slice_set words place word) w 0 ≡ slice_index_or words w 0
far_word words place word w other = get_or-set_other words place w word 0 other
