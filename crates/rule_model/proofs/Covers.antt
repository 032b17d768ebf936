-- The cover of a range of ports: its blocks in words, their order, what they hold, and single blocks.
use Rattle.std.proofs.Common.{◌≡◌, ℕ, zero, suc, ◌+◌, ◌%◌, ◌^◌, ◌<◌, ◌≤◌, true, false, ◌↔◌, [], ◌∷◌, All, AllPairs, Contains, IsTrue, IsFalse, refl, sym, ◌∙◌, subst, arith, inl, inr, add-one, le_trans, nat_le, le-leb, leb-true}
use Rattle.std.specs.List.{list_any}
use Rattle.std.proofs.lemmas.Bool.{cases_Bool, cases_lt, and_parts, and_from, or_left, or_right, false_from_ne_true, both_ways}
use Rattle.std.proofs.Math.Nat.{two-pow-succ}
use Rattle.std.proofs.lemmas.Nat.{pow_pos}
use Rattle.std.proofs.lemmas.List.Elements.{All-nil, All-weaker, All-contains}
use Rattle.std.proofs.lemmas.List.Kept.{AllPairs-cons}
use Rattle.std.proofs.lemmas.List.Folds.{list_any-append, Any-from_list_any}
use Rattle.rule_model.specs.PortRange.{PortRange, IsPortRange, range_holds, block_at, lies_within, cover_within, cover, IsCoverBlock}
use Rattle.rule_model.proofs.Multiples.{multiple_left, multiple_right}
use Rattle.rule_model.proofs.Pairs.{pairs_none, pairs_append}
use Rattle.rule_model.proofs.CoverLevels.{cases_whole, cover_whole, cover_port, cover_halves, not_within, partly_from}
use Rattle.rule_model.proofs.CoverMembers.{IsMember, block_start, members, holds_member}

lies_from : (inner outer : PortRange) → outer.lo ≤ inner.lo → inner.hi ≤ outer.hi → IsTrue (lies_within inner outer)
lies_from inner outer low high = and_from _ _ (le-leb _ _ low) (le-leb _ _ high)

lies_low : (inner outer : PortRange) → IsTrue (lies_within inner outer) → outer.lo ≤ inner.lo
lies_low inner outer t = leb-true _ _ (and_parts (nat_le outer.lo inner.lo) (nat_le inner.hi outer.hi) t).0

lies_high : (inner outer : PortRange) → IsTrue (lies_within inner outer) → inner.hi ≤ outer.hi
lies_high inner outer t = leb-true _ _ (and_parts (nat_le outer.lo inner.lo) (nat_le inner.hi outer.hi) t).1

pub held_from : (range : PortRange) (port : ℕ) → range.lo ≤ port → port ≤ range.hi → range_holds range port ≡ true
held_from range port low high = and_from _ _ (le-leb _ _ low) (le-leb _ _ high)

pub held_low : (range : PortRange) (port : ℕ) → range_holds range port ≡ true → range.lo ≤ port
held_low range port t = leb-true _ _ (and_parts (nat_le range.lo port) (nat_le port range.hi) t).0

pub held_high : (range : PortRange) (port : ℕ) → range_holds range port ≡ true → port ≤ range.hi
held_high range port t = leb-true _ _ (and_parts (nat_le range.lo port) (nat_le port range.hi) t).1

in_words : (range block : PortRange) → IsMember range 16 0 block → IsCoverBlock range block
in_words range block m =
    let p = pow_pos m.level in
    let size = m.size in (
      m.level,
      m.most,
      omega arith,
      m.multiple,
      lies_from block range m.low m.high,
      elim m.greatest [
        | inl same ↦ inl same
        | inr partly ↦ inr (subst (λ z. IsFalse (lies_within (block_at z (block_start z block.lo)) range)) (sym (add-one m.level)) (not_within range (suc m.level) _ partly))
      ],
    )

from_words : (range block : PortRange) → IsPortRange range → IsCoverBlock range block → IsMember range 16 0 block
from_words range block right (k, most, size, multiple, lies, greatest) =
    let p = pow_pos k in
    let ordered = right.ordered in
    let fits = right.fits in
    let low = lies_low block range lies in
    let high = lies_high block range lies in
    record {
      level = k;
      most = most;
      size = omega arith;
      multiple = multiple;
      after = omega arith;
      before = omega arith;
      low = low;
      high = high;
      greatest = elim greatest [
        | inl same ↦ inl same
        | inr out ↦ inr (partly_from range (suc k) (block_start (suc k) block.lo) (subst (λ z. IsFalse (lies_within (block_at z (block_start z block.lo)) range)) (add-one k) out))
      ];
    }

-- a range stands in the cover exactly where it is a block inside the range whose parent isn't inside
pub cover-is : (range : PortRange) → IsPortRange range → (block : PortRange) → Contains (cover range) block ↔ IsCoverBlock range block
cover-is range right block = (
  λ c. in_words range block (All-contains (IsMember range 16 0) (cover range) block (members range 16 0 refl) c),
  λ w. holds_member range 16 0 block refl (from_words range block right w),
)

-- one block ends before another begins
abbrev pub Rises : PortRange → PortRange → Type 0
Rises a b = a.hi < b.lo

halves_rise : (range : PortRange) (k first : ℕ) → first % 2 ^ suc k ≡ 0 → All (λ a. All (Rises a) (cover_within range k (first + 2 ^ k))) (cover_within range k first)
halves_rise range k first e =
    let half = first + 2 ^ k in
    let left = members range k first (multiple_left k first e) in
    let right = members range k half (multiple_right k first e) in
    All-weaker (IsMember range k first) (λ a. All (Rises a) (cover_within range k half))
    (λ a m. All-weaker (IsMember range k half) (Rises a) (λ b n. rise a b m n) (cover_within range k half) right) (cover_within range k first) left
  where
    rise : (a b : PortRange) → IsMember range k first a → IsMember range k (first + 2 ^ k) b → a.hi < b.lo
    rise a b m n = let size = m.size in let before = m.before in let after = n.after in omega arith

one_rises : (block : PortRange) → AllPairs Rises (block ∷ [])
one_rises block = AllPairs-cons Rises block [] (All-nil (Rises block)) (pairs_none Rises)

pub blocks_rise : (range : PortRange) (k first : ℕ) → first % 2 ^ k ≡ 0 → AllPairs Rises (cover_within range k first)
blocks_rise range zero first e =
    elim (cases_whole range zero first) [
      | inl w ↦ subst (AllPairs Rises) (sym (cover_whole range zero first w)) (one_rises _)
      | inr p ↦ subst (AllPairs Rises) (sym (cover_port range first p)) (pairs_none Rises)
    ]
blocks_rise range (suc k) first e =
    elim (cases_whole range (suc k) first) [
      | inl w ↦ subst (AllPairs Rises) (sym (cover_whole range (suc k) first w)) (one_rises _)
      | inr p ↦ subst (AllPairs Rises) (sym (cover_halves range k first p))
          (pairs_append Rises _ _ (blocks_rise range k first (multiple_left k first e)) (blocks_rise range k (first + 2 ^ k) (multiple_right k first e)) (halves_rise range k first e))
    ]

-- the blocks of a cover rise, and no port is in two of them
pub cover-rises : (range : PortRange) → IsPortRange range → AllPairs (λ a b. a.hi < b.lo) (cover range)
cover-rises range right = blocks_rise range 16 0 refl

one_holds : (k first port : ℕ) → first ≤ port → port < first + 2 ^ k → list_any (λ b. range_holds b port) (block_at k first ∷ []) ≡ true
one_holds k first port low high = or_left _ _ (held_from (block_at k first) port low (omega arith))

-- a port of the range within a block is in a member of the block's part of the cover
some_holds : (range : PortRange) (k first port : ℕ) → range_holds range port ≡ true → first ≤ port → port < first + 2 ^ k
    → list_any (λ b. range_holds b port) (cover_within range k first) ≡ true
some_holds range zero first port held low high =
    elim (cases_whole range zero first) [
      | inl w ↦ subst (λ z. list_any (λ b. range_holds b port) z ≡ true) (sym (cover_whole range zero first w)) (one_holds zero first port low high)
      | inr p ↦ absurd (
          let a = held_low range port held in
          let b = held_high range port held in
          elim p [ inl below ↦ omega arith | inr above ↦ omega arith ])
    ]
some_holds range (suc k) first port held low high =
    elim (cases_whole range (suc k) first) [
      | inl w ↦ subst (λ z. list_any (λ b. range_holds b port) z ≡ true) (sym (cover_whole range (suc k) first w)) (one_holds (suc k) first port low high)
      | inr p ↦ subst (λ z. list_any (λ b. range_holds b port) z ≡ true) (sym (cover_halves range k first p))
          (list_any-append (λ b. range_holds b port) (cover_within range k first) (cover_within range k (first + 2 ^ k)) ∙ elim (cases_lt port (first + 2 ^ k)) [
            | inl below ↦ or_left _ _ (some_holds range k first port held low below)
            | inr above ↦ or_right _ _ (some_holds range k (first + 2 ^ k) port held above (let e = two-pow-succ k in omega arith))
          ])
    ]

-- some block of a cover holds a port exactly where the range does
pub cover-holds : (range : PortRange) (port : ℕ) → IsPortRange range → port < 2 ^ 16 → list_any (λ b. range_holds b port) (cover range) ≡ range_holds range port
cover-holds range port right fits =
    elim (cases_Bool (range_holds range port)) [
      | inl held ↦ some_holds range 16 0 port held (omega arith) fits ∙ sym held
      | inr out ↦ false_from_ne_true _ (λ found. none_holds found out) ∙ sym out
    ]
  where
    none_holds : list_any (λ b. range_holds b port) (cover range) ≡ true → range_holds range port ≡ false → ⊥
    none_holds found out =
        let a = Any-from_list_any (λ b. range_holds b port) (cover range) found in
        let m = All-contains (IsMember range 16 0) (cover range) a.1 (members range 16 0 refl) (a.0, a.2, a.3) in
        let held : range_holds range port ≡ true = held_from range port (le_trans m.low (held_low a.1 port a.4)) (le_trans (held_high a.1 port a.4) m.high) in
        absurd (both_ways _ out held)
