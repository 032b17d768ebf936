-- A cover that is being made, block by block.
use Rattle.std.proofs.Common.{◌≡◌, ℕ, ◌+◌, ◌-◌, ◌^◌, ◌<◌, ◌≤◌, List, [], ◌∷◌, ◌++◌, length, AllPairs, Contains, ◌↔◌, length-append, append_assoc, sym, ◌∙◌, subst, ap, arith}
use Rattle.std.proofs.lemmas.Nat.{pow_pos}
use Rattle.std.proofs.lemmas.List.{append-nil}
use Rattle.std.specs.List.{list_any}
use Rattle.rule_model.specs.PortRange.{PortRange, IsPortRange, IsCoverBlock, range_holds, cover}
use Rattle.rule_model.proofs.Covers.{cover-is, cover-rises, cover-holds}
use Rattle.rule_model.proofs.CoverSize.{cover-size}
use Rattle.rule_model.specs.FirstBlock.{IsFirstBlock}
use Rattle.rule_model.proofs.Greedy.{ports_from, cover_none, cover_first}

-- the blocks made so far and the cover of the rest, which has ports up to the end, are the cover
pub record IsMade (ports : PortRange) (made : List PortRange) (rest : PortRange) : Type 0 where
  pub whole : cover ports ≡ made ++ cover rest
  pub low : ports.lo ≤ rest.lo
  pub high : rest.hi ≡ ports.hi

first_port : (range block : PortRange) → IsFirstBlock range block → range.lo ≤ block.hi
first_port range block (k, b, same) =
    let p = pow_pos k in
    let last : block.hi ≡ range.lo + 2 ^ k - 1 = ap (λ (z : PortRange). z.hi) same in
    omega arith

with_first : (ports : PortRange) (made : List PortRange) (range block : PortRange) → IsMade ports made range → IsPortRange range → IsFirstBlock range block
    → cover ports ≡ (made ++ block ∷ []) ++ cover (ports_from (block.hi + 1) range.hi)
with_first ports made range block m right first =
    m.whole ∙ ap (λ z. made ++ z) (cover_first range block right first) ∙ sym (append_assoc made (block ∷ []) (cover (ports_from (block.hi + 1) range.hi)))

-- one block more
pub one_more : (ports : PortRange) (made : List PortRange) (range block behind : PortRange) → IsMade ports made range → IsPortRange range → IsFirstBlock range block
    → behind ≡ ports_from (block.hi + 1) range.hi → IsMade ports (made ++ block ∷ []) behind
one_more ports made range block behind m right first same =
    let begins : behind.lo ≡ block.hi + 1 = ap (λ (z : PortRange). z.lo) same in
    let ends : behind.hi ≡ range.hi = ap (λ (z : PortRange). z.hi) same in
    let after = first_port range block first in
    let low = m.low in
    record {
      whole = subst (λ z. cover ports ≡ (made ++ block ∷ []) ++ cover z) (sym same) (with_first ports made range block m right first);
      low = omega arith;
      high = ends ∙ m.high;
    }

-- there is room for it
one_within : (all made rest : List PortRange) (block : PortRange) → all ≡ (made ++ block ∷ []) ++ rest → length all ≤ 30 → length made < 30
one_within all made rest block same most =
    let size : length all ≡ length ((made ++ block ∷ []) ++ rest) = ap length same in
    let parts = length-append (made ++ block ∷ []) rest in
    let more = length-append made (block ∷ []) in
    omega arith

pub room_left : (ports : PortRange) (made : List PortRange) (range block : PortRange) → IsMade ports made range → IsPortRange range → IsFirstBlock range block → length made < 30
room_left ports made range block m right first =
    one_within (cover ports) made (cover (ports_from (block.hi + 1) range.hi)) block (with_first ports made range block m right first) (cover-size ports)

-- the last block makes the cover
pub all_made : (ports : PortRange) (made : List PortRange) (range block : PortRange) → IsMade ports made range → IsPortRange range → IsFirstBlock range block
    → block.hi ≡ range.hi → made ++ block ∷ [] ≡ cover ports
all_made ports made range block m right first last =
    let none = cover_none (block.hi + 1) range.hi 16 0 (omega arith) in
    sym (with_first ports made range block m right first ∙ ap (λ z. (made ++ block ∷ []) ++ z) none ∙ append-nil (made ++ block ∷ []))

-- the range is right where the rest is
pub right_ports : (ports : PortRange) (made : List PortRange) (rest : PortRange) → IsMade ports made rest → IsPortRange rest → IsPortRange ports
right_ports ports made rest m right =
    let low = m.low in
    let high = m.high in
    let ordered = right.ordered in
    let fits = right.fits in
    record { ordered = omega arith; fits = omega arith }

-- what holds of a cover, of a list that is one
pub blocks_of : (ports : PortRange) (made : List PortRange) → made ≡ cover ports → IsPortRange ports → (block : PortRange) → Contains made block ↔ IsCoverBlock ports block
blocks_of ports made same right block = subst (λ z. Contains z block ↔ IsCoverBlock ports block) (sym same) (cover-is ports right block)

pub rising_of : (ports : PortRange) (made : List PortRange) → made ≡ cover ports → IsPortRange ports → AllPairs (λ lower upper. lower.hi < upper.lo) made
rising_of ports made same right = subst (AllPairs (λ lower upper. lower.hi < upper.lo)) (sym same) (cover-rises ports right)

pub exact_of : (ports : PortRange) (made : List PortRange) → made ≡ cover ports → IsPortRange ports → (port : ℕ) → port < 2 ^ 16
    → list_any (λ block. range_holds block port) made ≡ range_holds ports port
exact_of ports made same right port fits = subst (λ z. list_any (λ block. range_holds block port) z ≡ range_holds ports port) (sym same) (cover-holds ports port right fits)
