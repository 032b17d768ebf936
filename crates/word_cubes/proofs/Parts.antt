-- Words of a cube, an entry that it is compared with, and the parts that it is cut in.
use Rattle.std.proofs.Common.{◌≡◌, ℕ, ◌<◌, true, false, List, length, get_or, slice_set, bit_and, bit_xor, inl, inr, ◌⊎◌, sym, subst, arith, get_or-set_same, get_or-set_other}
use Rattle.std.specs.Prelude.{bit_or}
use Rattle.std.proofs.lemmas.Bool.{cases_Bool, cases_eq}
use Rattle.rule_model.specs.Entry.{lanes_match}
use Rattle.word_cubes.specs.Cube.{clash, IsCovered}
use Rattle.word_cubes.proofs.Bits.{agrees, agreed-near, near-agreed, agreed-upper, agreed-lower, agreed-both, one_bit, bit_cases}
use Rattle.word_cubes.proofs.Agreed.{agrees_in, matched-agrees, agreeing-match}

module _ (words : List ℕ) (is_word : length words ≡ 11) where
  -- an entry that clashes with the cube in a lane hits no word of it
  pub clash_misses : (values masks others overs : List ℕ) (lane : ℕ) → lane < length values → lane < length masks → lane < length others → lane < length overs → lane < 11
      → (clash (get_or values lane 0) (get_or masks lane 0) (get_or others lane 0) (get_or overs lane 0) ≡ 0 → ⊥)
      → lanes_match words others overs ≡ true → lanes_match words values masks ≡ false
  clash_misses values masks others overs lane lv lm lo ln below clashes within = elim (cases_Bool (lanes_match words values masks)) [
    | inl hit ↦ absurd (clashes (agreed-near (get_or words lane 0) (get_or values lane 0) (get_or masks lane 0) (get_or others lane 0) (get_or overs lane 0)
        (matched-agrees words values masks lane (omega arith) (omega arith) (omega arith) hit)
        (matched-agrees words others overs lane (omega arith) (omega arith) (omega arith) within)))
    | inr miss ↦ miss
  ]

  -- one that doesn't, and tests no more than the cube, hits each
  pub covered_hits : (values masks others overs : List ℕ)
      → ((lane : ℕ) → lane < 11 → (lane < length others) × (lane < length overs) × (clash (get_or values lane 0) (get_or masks lane 0) (get_or others lane 0) (get_or overs lane 0) ≡ 0))
      → ((lane : ℕ) → lane < 11 → IsCovered (get_or masks lane 0) (get_or overs lane 0))
      → lanes_match words others overs ≡ true → lanes_match words values masks ≡ true
  covered_hits values masks others overs near covered within =
      agreeing-match words values masks (λ lane below.
      let in_lane : lane < 11 = omega arith in
      let at = near lane in_lane in
      near-agreed (get_or words lane 0) (get_or values lane 0) (get_or masks lane 0) (get_or others lane 0) (get_or overs lane 0)
      (matched-agrees words others overs lane below at.0 at.1 within) at.2 (covered lane in_lane))

  -- with another value and mask in one lane
  pub changed_matches : (values masks : List ℕ) (lane value mask : ℕ) → length values ≡ 11 → length masks ≡ 11 → lane < 11
      → lanes_match words values masks ≡ true → agrees (get_or words lane 0) value mask → lanes_match words (slice_set values lane value) (slice_set masks lane mask) ≡ true
  changed_matches values masks lane value mask sv sm below within here =
      agreeing-match words (slice_set values lane value) (slice_set masks lane mask) each
    where
      each : (at : ℕ) → at < length words → agrees_in words (slice_set values lane value) (slice_set masks lane mask) at
      each at under = elim (cases_eq at lane) [
        | inl same ↦ subst (λ n. agrees_in words (slice_set values lane value) (slice_set masks lane mask) n) (sym same)
            (subst (λ v. agrees (get_or words lane 0) v (get_or (slice_set masks lane mask) lane 0)) (sym (get_or-set_same values lane value 0 (omega arith)))
            (subst (λ m. agrees (get_or words lane 0) value m) (sym (get_or-set_same masks lane mask 0 (omega arith))) here))
        | inr other ↦
            subst (λ v. agrees (get_or words at 0) v (get_or (slice_set masks lane mask) at 0)) (sym (get_or-set_other values lane at value 0 other))
            (subst (λ m. agrees (get_or words at 0) (get_or values at 0) m) (sym (get_or-set_other masks lane at mask 0 other))
            (matched-agrees words values masks at under (omega arith) (omega arith) within))
      ]

  -- each word of a cube is in one of its halves
  pub in_half : (values masks : List ℕ) (lane bit : ℕ) → length values ≡ 11 → length masks ≡ 11 → lane < 11 → bit < 32
      → lanes_match words values masks ≡ true
      → (lanes_match words (slice_set values lane (bit_xor (bit_or (get_or values lane 0) (one_bit bit)) (one_bit bit))) (slice_set masks lane (bit_or (get_or masks lane 0) (one_bit bit))) ≡ true)
      ⊎ (lanes_match words (slice_set values lane (bit_or (get_or values lane 0) (one_bit bit))) (slice_set masks lane (bit_or (get_or masks lane 0) (one_bit bit))) ≡ true)
  in_half values masks lane bit sv sm below few within =
      let here = matched-agrees words values masks lane (omega arith) (omega arith) (omega arith) within in
      elim (bit_cases (get_or words lane 0) bit) [
        | inl zero ↦ inl (changed_matches values masks lane _ _ sv sm below within (agreed-lower (get_or words lane 0) (get_or values lane 0) (get_or masks lane 0) bit few here zero))
        | inr one ↦ inr (changed_matches values masks lane _ _ sv sm below within (agreed-upper (get_or words lane 0) (get_or values lane 0) (get_or masks lane 0) bit few here one))
      ]

  -- and one whose lane agrees with more is in the part that does
  pub in_part : (values masks : List ℕ) (lane value mask : ℕ) → length values ≡ 11 → length masks ≡ 11 → lane < 11
      → lanes_match words values masks ≡ true → agrees (get_or words lane 0) value mask
      → lanes_match words (slice_set values lane (bit_or (bit_and (get_or values lane 0) (get_or masks lane 0)) (bit_and value mask))) (slice_set masks lane (bit_or (get_or masks lane 0) mask)) ≡ true
  in_part values masks lane value mask sv sm below within more =
      changed_matches values masks lane _ _ sv sm below within
      (agreed-both (get_or words lane 0) (get_or values lane 0) (get_or masks lane 0) value mask
      (matched-agrees words values masks lane (omega arith) (omega arith) (omega arith) within) more)

  -- there is none where they clash
  pub no_part : (values masks : List ℕ) (lane value mask : ℕ) → length values ≡ 11 → length masks ≡ 11 → lane < 11
      → (clash (get_or values lane 0) (get_or masks lane 0) value mask ≡ 0 → ⊥)
      → lanes_match words values masks ≡ true → agrees (get_or words lane 0) value mask → ⊥
  no_part values masks lane value mask sv sm below clashes within more =
      clashes (agreed-near (get_or words lane 0) (get_or values lane 0) (get_or masks lane 0) value mask
      (matched-agrees words values masks lane (omega arith) (omega arith) (omega arith) within) more)
