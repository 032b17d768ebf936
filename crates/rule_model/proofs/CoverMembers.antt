-- Which blocks stand in a cover: those inside the range whose parent isn't inside.
use Rattle.std.proofs.Common.{◌≡◌, ℕ, zero, suc, ◌+◌, ◌*◌, ◌/◌, ◌%◌, ◌^◌, ◌<◌, ◌≤◌, ◌⊎◌, [], ◌∷◌, All, Contains, refl, sym, ◌∙◌, subst, ap, arith, inl, inr}
use Rattle.std.proofs.lemmas.Bool.{cases_lt, cases_eq}
use Rattle.std.proofs.Math.Nat.{two-pow-succ, mul-mod_left}
use Rattle.std.proofs.lemmas.Nat.{pow_pos, le-div, mul-le, div-add-mod'}
use Rattle.std.proofs.lemmas.List.Elements.{All-nil, All-cons, All-same, All-append, All-weaker, Contains-append_left, Contains-append_right}
use Rattle.slot_order.proofs.Lists.{contains_head}
use Rattle.rule_model.specs.PortRange.{PortRange, block_at, cover_within}
use Rattle.rule_model.proofs.Multiples.{multiple_lower, multiple_is, multiple_below, multiple_left, multiple_right, block_fits}
use Rattle.rule_model.proofs.CoverLevels.{IsWhole, IsPartly, cases_whole, cover_whole, cover_port, cover_halves}

-- the first port of the block of 2 ^ k ports in which a port lies
abbrev pub block_start : ℕ → ℕ → ℕ
block_start k port = port / 2 ^ k * 2 ^ k

-- a member of the cover's part within the block of 2 ^ k ports from first on
pub record IsMember (range : PortRange) (k first : ℕ) (block : PortRange) : Type 0 where
  pub level : ℕ
  pub most : level ≤ k
  pub size : block.hi + 1 ≡ block.lo + 2 ^ level
  pub multiple : block.lo % 2 ^ level ≡ 0
  pub after : first ≤ block.lo
  pub before : block.lo + 2 ^ level ≤ first + 2 ^ k
  pub low : range.lo ≤ block.lo
  pub high : block.hi ≤ range.hi
  pub greatest : (level ≡ k) ⊎ IsPartly range (suc level) (block_start (suc level) block.lo)

whole_member : (range : PortRange) (k first : ℕ) → first % 2 ^ k ≡ 0 → IsWhole range k first → IsMember range k first (block_at k first)
whole_member range k first e w =
    let p = pow_pos k in
    let high = w.high in
    record {
      level = k;
      most = omega arith;
      size = omega arith;
      multiple = e;
      after = omega arith;
      before = omega arith;
      low = w.low;
      high = omega arith;
      greatest = inl refl;
    }

-- a member of a half is one of the whole, since the half's parent has a port outside the range
half_member : (range : PortRange) (k first half : ℕ) (block : PortRange) → first % 2 ^ suc k ≡ 0 → IsPartly range (suc k) first
    → first ≤ half → half ≤ first + 2 ^ k → IsMember range k half block → IsMember range (suc k) first block
half_member range k first half block e partly low high m =
    let twice = two-pow-succ k in
    let p = pow_pos k in
    let most = m.most in
    let after = m.after in
    let before = m.before in
    record {
      level = m.level;
      most = omega arith;
      size = m.size;
      multiple = m.multiple;
      after = omega arith;
      before = omega arith;
      low = m.low;
      high = m.high;
      greatest = elim m.greatest [ inl same ↦ inr (parent same) | inr q ↦ inr q ];
    }
  where
    parent : m.level ≡ k → IsPartly range (suc m.level) (block_start (suc m.level) block.lo)
    parent same =
        let twice = two-pow-succ k in
        let p = pow_pos k in
        let power : 2 ^ m.level ≡ 2 ^ k = ap (λ z. 2 ^ z) same in
        let after = m.after in
        let before = m.before in
        let start : block_start (suc k) block.lo ≡ first = multiple_below first block.lo (2 ^ suc k) e (omega arith) (omega arith) in
        subst (λ z. IsPartly range (suc z) (block_start (suc z) block.lo)) (sym same) (subst (λ z. IsPartly range (suc k) z) (sym start) partly)

pub members : (range : PortRange) (k first : ℕ) → first % 2 ^ k ≡ 0 → All (IsMember range k first) (cover_within range k first)
members range zero first e =
    elim (cases_whole range zero first) [
      | inl w ↦ All-same (IsMember range zero first) _ _ (cover_whole range zero first w) (All-cons (IsMember range zero first) _ [] (whole_member range zero first e w) (All-nil (IsMember range zero first)))
      | inr p ↦ All-same (IsMember range zero first) _ _ (cover_port range first p) (All-nil (IsMember range zero first))
    ]
members range (suc k) first e =
    elim (cases_whole range (suc k) first) [
      | inl w ↦ All-same (IsMember range (suc k) first) _ _ (cover_whole range (suc k) first w) (All-cons (IsMember range (suc k) first) _ [] (whole_member range (suc k) first e w) (All-nil (IsMember range (suc k) first)))
      | inr p ↦ All-same (IsMember range (suc k) first) _ _ (cover_halves range k first p) (All-append (IsMember range (suc k) first) _ _
          (All-weaker (IsMember range k first) (IsMember range (suc k) first) (λ b m. half_member range k first first b e p (omega arith) (omega arith) m) _ (members range k first (multiple_left k first e)))
          (All-weaker (IsMember range k (first + 2 ^ k)) (IsMember range (suc k) first) (λ b m. half_member range k first (first + 2 ^ k) b e p (omega arith) (omega arith) m) _ (members range k (first + 2 ^ k) (multiple_right k first e))))
    ]

abbrev between : ℕ → ℕ → PortRange
between lo hi = record { lo = lo; hi = hi }

pub same_ends : (a b : PortRange) → a.lo ≡ b.lo → a.hi ≡ b.hi → a ≡ b
same_ends a b low high =
    let first : a ≡ between b.lo a.hi = ap (λ z. between z a.hi) low in
    let last : between b.lo a.hi ≡ b = ap (λ z. between b.lo z) high in
    first ∙ last

-- a lesser block within a block that lies in the range has a parent that lies in it
lesser_whole : (range : PortRange) (k first : ℕ) (block : PortRange) (level : ℕ) → first % 2 ^ k ≡ 0 → IsWhole range k first
    → level < k → first ≤ block.lo → block.lo < first + 2 ^ k → IsPartly range (suc level) (block_start (suc level) block.lo) → ⊥
lesser_whole range k first block level e w less after before partly =
    let s = 2 ^ suc level in
    let p = pow_pos (suc level) in
    let start = block_start (suc level) block.lo in
    let split = div-add-mod' block.lo s in
    let down : first / s * s ≡ first = multiple_is first s (multiple_lower (suc level) k first less e) in
    let steps : first / s ≤ block.lo / s = le-div (first / s) block.lo s p (omega arith) in
    let low : first / s * s ≤ start = mul-le (first / s) s (block.lo / s) s steps (omega arith) in
    let fits : start + s ≤ first + 2 ^ k = block_fits (suc level) k first start less e (mul-mod_left (block.lo / s) s) (omega arith) in
    let a = w.low in
    let b = w.high in
    elim partly [ inl below ↦ omega arith | inr above ↦ omega arith ]

-- a member of a whole block is that block
whole_holds : (range : PortRange) (k first : ℕ) (block : PortRange) → first % 2 ^ k ≡ 0 → IsWhole range k first → IsMember range k first block → block ≡ block_at k first
whole_holds range k first block e w m =
    let p = pow_pos m.level in
    let most = m.most in
    let after = m.after in
    let before = m.before in
    let size = m.size in
    elim (cases_eq m.level k) [
      | inl same ↦ equal same
      | inr other ↦ elim m.greatest [
        | inl same ↦ absurd (other same)
        | inr partly ↦ absurd (lesser_whole range k first block m.level e w (omega arith) m.after (omega arith) partly)
      ]
    ]
  where
    equal : m.level ≡ k → block ≡ block_at k first
    equal same =
        let power : 2 ^ m.level ≡ 2 ^ k = ap (λ z. 2 ^ z) same in
        let p = pow_pos k in
        let after = m.after in
        let before = m.before in
        let size = m.size in
        same_ends block (block_at k first) (omega arith) (omega arith)

-- no member is a whole block that has a port outside the range
outside_member : (range : PortRange) (k first : ℕ) (block : PortRange) → IsPartly range k first → (m : IsMember range k first block) → m.level ≡ k → ⊥
outside_member range k first block partly m same =
    let power : 2 ^ m.level ≡ 2 ^ k = ap (λ z. 2 ^ z) same in
    let after = m.after in
    let before = m.before in
    let size = m.size in
    let low = m.low in
    let high = m.high in
    elim partly [ inl below ↦ omega arith | inr above ↦ omega arith ]

-- any other member lies in one of the halves
half_of : (range : PortRange) (k first : ℕ) (block : PortRange) → first % 2 ^ suc k ≡ 0 → IsPartly range (suc k) first
    → IsMember range (suc k) first block → IsMember range k first block ⊎ IsMember range k (first + 2 ^ k) block
half_of range k first block e partly m =
    elim (cases_lt block.lo (first + 2 ^ k)) [
      | inl below ↦ inl (record {
        level = m.level;
        most = most;
        size = m.size;
        multiple = m.multiple;
        after = m.after;
        before = block_fits m.level k first block.lo most (multiple_left k first e) m.multiple below;
        low = m.low;
        high = m.high;
        greatest = greatest;
      })
      | inr above ↦ inr (record {
        level = m.level;
        most = most;
        size = m.size;
        multiple = m.multiple;
        after = above;
        before = let twice = two-pow-succ k in let before = m.before in omega arith;
        low = m.low;
        high = m.high;
        greatest = greatest;
      })
    ]
  where
    lesser : m.level ≡ suc k → ⊥
    lesser same = outside_member range (suc k) first block partly m same

    most : m.level ≤ k
    most = elim (cases_lt k m.level) [ inl up ↦ absurd (lesser (let most = m.most in omega arith)) | inr low ↦ low ]

    greatest : (m.level ≡ k) ⊎ IsPartly range (suc m.level) (block_start (suc m.level) block.lo)
    greatest = elim m.greatest [ inl same ↦ absurd (lesser same) | inr q ↦ inr q ]

-- what is a member by its properties stands in the cover
pub holds_member : (range : PortRange) (k first : ℕ) (block : PortRange) → first % 2 ^ k ≡ 0 → IsMember range k first block → Contains (cover_within range k first) block
holds_member range zero first block e m =
    elim (cases_whole range zero first) [
      | inl w ↦ subst (λ z. Contains z block) (sym (cover_whole range zero first w))
          (subst (Contains (block_at zero first ∷ [])) (sym (whole_holds range zero first block e w m)) (contains_head (block_at zero first) []))
      | inr p ↦ absurd (let none : m.level ≡ 0 = (let most = m.most in omega arith) in outside_member range zero first block p m none)
    ]
holds_member range (suc k) first block e m =
    elim (cases_whole range (suc k) first) [
      | inl w ↦ subst (λ z. Contains z block) (sym (cover_whole range (suc k) first w))
          (subst (Contains (block_at (suc k) first ∷ [])) (sym (whole_holds range (suc k) first block e w m)) (contains_head (block_at (suc k) first) []))
      | inr p ↦ subst (λ z. Contains z block) (sym (cover_halves range k first p)) (elim (half_of range k first block e p m) [
        | inl l ↦ Contains-append_left _ _ block (holds_member range k first block (multiple_left k first e) l)
        | inr r ↦ Contains-append_right _ _ block (holds_member range k (first + 2 ^ k) block (multiple_right k first e) r)
      ])
    ]
