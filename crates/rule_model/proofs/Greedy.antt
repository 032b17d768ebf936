-- A cover begins with the largest block that the range begins with, and goes on with the cover of what is behind it.
use Rattle.std.proofs.Common.{◌≡◌, ℕ, zero, suc, ◌+◌, ◌-◌, ◌%◌, ◌^◌, ◌<◌, ◌≤◌, [], ◌∷◌, ◌++◌, refl, sym, ◌∙◌, subst, ap, arith, inl, inr}
use Rattle.std.proofs.lemmas.Bool.{cases_lt}
use Rattle.std.proofs.Math.Nat.{two-pow-succ}
use Rattle.std.proofs.lemmas.Nat.{pow_pos}
use Rattle.rule_model.specs.PortRange.{PortRange, IsPortRange, block_at, cover_within, cover}
use Rattle.rule_model.specs.FirstBlock.{BeginsWith, IsFirstBlock}
use Rattle.rule_model.proofs.Multiples.{block_fits, multiple_left, multiple_right, multiple_step}
use Rattle.rule_model.proofs.CoverLevels.{IsWhole, IsPartly, cases_whole, cover_whole, cover_apart, cover_port, cover_halves}
use Rattle.rule_model.proofs.CoverMembers.{same_ends}

-- the ports from first to last
abbrev pub ports_from : ℕ → ℕ → PortRange
ports_from lo hi = record { lo = lo; hi = hi }

-- no port, no block
pub cover_none : (lo hi k first : ℕ) → hi < lo → cover_within (ports_from lo hi) k first ≡ []
cover_none lo hi zero first none =
    cover_port (ports_from lo hi) first (elim (cases_lt first lo) [ inl below ↦ inl below | inr above ↦ inr (omega arith) ])
cover_none lo hi (suc k) first none =
    let left = cover_none lo hi k first none in
    let right = cover_none lo hi k (first + 2 ^ k) none in
    let p = pow_pos (suc k) in
    cover_halves (ports_from lo hi) k first (elim (cases_lt first lo) [ inl below ↦ inl below | inr above ↦ inr (omega arith) ])
    ∙ ap (λ z. z ++ cover_within (ports_from lo hi) k (first + 2 ^ k)) left ∙ right

-- where a range begins before a block it doesn't matter where
begins_before : (lo lo' hi k first : ℕ) → lo ≤ first → lo' ≤ first → cover_within (ports_from lo hi) k first ≡ cover_within (ports_from lo' hi) k first
begins_before lo lo' hi zero first low low' =
    elim (cases_whole (ports_from lo hi) zero first) [
      | inl w ↦ cover_whole (ports_from lo hi) zero first w ∙ sym (cover_whole (ports_from lo' hi) zero first (record { low = low'; high = w.high }))
      | inr p ↦ cover_port (ports_from lo hi) first p ∙ sym (cover_port (ports_from lo' hi) first (elim p [ inl below ↦ absurd (omega arith) | inr above ↦ inr above ]))
    ]
begins_before lo lo' hi (suc k) first low low' =
    elim (cases_whole (ports_from lo hi) (suc k) first) [
      | inl w ↦ cover_whole (ports_from lo hi) (suc k) first w ∙ sym (cover_whole (ports_from lo' hi) (suc k) first (record { low = low'; high = w.high }))
      | inr p ↦
          let left = begins_before lo lo' hi k first low low' in
          let right = begins_before lo lo' hi k (first + 2 ^ k) (omega arith) (omega arith) in
          cover_halves (ports_from lo hi) k first p ∙ ap (λ z. z ++ cover_within (ports_from lo hi) k (first + 2 ^ k)) left
          ∙ ap (λ z. cover_within (ports_from lo' hi) k first ++ z) right
          ∙ sym (cover_halves (ports_from lo' hi) k first (elim p [ inl below ↦ absurd (omega arith) | inr above ↦ inr above ]))
    ]

-- the range begins with a block of 2 ^ j ports, and with no larger one
record Begins (lo hi j : ℕ) : Type 0 where
  multiple : lo % 2 ^ j ≡ 0
  fits : lo + 2 ^ j ≤ hi + 1
  greatest : (k : ℕ) → j < k → k ≤ 16 → lo % 2 ^ k ≡ 0 → hi + 1 < lo + 2 ^ k

-- that block is all of the cover's part within it
taken : (lo hi j k first : ℕ) → Begins lo hi j → j ≡ k → first ≡ lo
    → cover_within (ports_from lo hi) k first ≡ block_at j lo ∷ cover_within (ports_from (lo + 2 ^ j) hi) k first
taken lo hi j k first b level here =
    let power : 2 ^ j ≡ 2 ^ k = ap (λ z. 2 ^ z) level in
    let fits = b.fits in
    let whole = cover_whole (ports_from lo hi) k first (record { low = omega arith; high = omega arith }) in
    let same = same_ends (block_at k first) (block_at j lo) here (omega arith) in
    let none = cover_apart (ports_from (lo + 2 ^ j) hi) k first (inl (omega arith)) in
    whole ∙ ap (λ z. z ∷ []) same ∙ ap (λ z. block_at j lo ∷ z) (sym none)

-- a block that isn't whole has one of a lesser size first
lesser : (lo hi j k first : ℕ) → Begins lo hi j → j ≤ suc k → first % 2 ^ suc k ≡ 0 → first ≤ lo → lo < first + 2 ^ suc k
    → IsPartly (ports_from lo hi) (suc k) first → j ≤ k
lesser lo hi j k first b most e after before partly =
    elim (cases_lt k j) [ inl up ↦ absurd (whole (omega arith)) | inr low ↦ low ]
  where
    whole : j ≡ suc k → ⊥
    whole level =
        let power : 2 ^ j ≡ 2 ^ suc k = ap (λ z. 2 ^ z) level in
        let fits = b.fits in
        let multiple : lo % 2 ^ suc k ≡ 0 = subst (λ z. lo % 2 ^ z ≡ 0) level b.multiple in
        let here : lo ≤ first = (elim (cases_lt first lo) [
          | inl above ↦ absurd (let far = multiple_step first lo (2 ^ suc k) e multiple above in omega arith)
          | inr low ↦ low
        ]) in
        elim partly [ inl below ↦ omega arith | inr above ↦ omega arith ]

first_within : (lo hi j k first : ℕ) → Begins lo hi j → j ≤ k → k ≤ 16 → first % 2 ^ k ≡ 0 → first ≤ lo → lo < first + 2 ^ k
    → cover_within (ports_from lo hi) k first ≡ block_at j lo ∷ cover_within (ports_from (lo + 2 ^ j) hi) k first
first_within lo hi j zero first b low most e after before = taken lo hi j zero first b (omega arith) (omega arith)
first_within lo hi j (suc k) first b low most e after before =
    elim (cases_whole (ports_from lo hi) (suc k) first) [
      | inl w ↦ taken lo hi j (suc k) first b (level w) (let begins = w.low in omega arith)
      | inr partly ↦
          let less = lesser lo hi j k first b low e after before partly in
          let left = multiple_left k first e in
          let twice = two-pow-succ k in
          let p = pow_pos j in
          cover_halves (ports_from lo hi) k first partly ∙ elim (cases_lt lo (first + 2 ^ k)) [
            | inl below ↦
                let one = first_within lo hi j k first b less (omega arith) left after below in
                let fits = block_fits j k first lo less left b.multiple below in
                let rest = begins_before lo (lo + 2 ^ j) hi k (first + 2 ^ k) (omega arith) fits in
                ap (λ z. z ++ cover_within (ports_from lo hi) k (first + 2 ^ k)) one
                ∙ ap (λ z. block_at j lo ∷ (cover_within (ports_from (lo + 2 ^ j) hi) k first ++ z)) rest
            | inr above ↦
                let none = cover_apart (ports_from lo hi) k first (inl above) in
                let none' = cover_apart (ports_from (lo + 2 ^ j) hi) k first (inl (omega arith)) in
                let one = first_within lo hi j k (first + 2 ^ k) b less (omega arith) (multiple_right k first e) above (omega arith) in
                ap (λ z. z ++ cover_within (ports_from lo hi) k (first + 2 ^ k)) none ∙ one
                ∙ ap (λ z. block_at j lo ∷ (z ++ cover_within (ports_from (lo + 2 ^ j) hi) k (first + 2 ^ k))) (sym none')
          ] ∙ ap (λ z. block_at j lo ∷ z) (sym (cover_halves (ports_from (lo + 2 ^ j) hi) k first (inl (omega arith))))
    ]
  where
    level : IsWhole (ports_from lo hi) (suc k) first → j ≡ suc k
    level w =
        let begins = w.low in
        let ends = w.high in
        elim (cases_lt j (suc k)) [
          | inl less ↦ absurd (let multiple : lo % 2 ^ suc k ≡ 0 = (let same : first ≡ lo = omega arith in subst (λ z. z % 2 ^ suc k ≡ 0) same e) in
              let past = b.greatest (suc k) less most multiple in omega arith)
          | inr more ↦ omega arith
        ]

begins : (range : PortRange) (k : ℕ) → IsPortRange range → BeginsWith range k → Begins range.lo range.hi k
begins range k right b = record {
  multiple = b.multiple;
  fits = let fits = b.fits in let ordered = right.ordered in omega arith;
  greatest = λ level more most multiple.
      let past = b.greatest level more most multiple in let ordered = right.ordered in omega arith;
}

-- the cover of a range by its first block
pub cover_first : (range block : PortRange) → IsPortRange range → IsFirstBlock range block → cover range ≡ block ∷ cover (ports_from (block.hi + 1) range.hi)
cover_first range block right (k, b, same) =
    let fits = right.fits in
    let ordered = right.ordered in
    let p = pow_pos k in
    let last : block.hi ≡ range.lo + 2 ^ k - 1 = ap (λ (z : PortRange). z.hi) same in
    let behind : range.lo + 2 ^ k ≡ block.hi + 1 = omega arith in
    first_within range.lo range.hi k 16 0 (begins range k right b) b.most (omega arith) refl (omega arith) (omega arith)
    ∙ ap (λ z. z ∷ cover (ports_from (range.lo + 2 ^ k) range.hi)) (sym same)
    ∙ ap (λ z. block ∷ cover (ports_from z range.hi)) behind
