-- The members of a cover are blocks, and a block is its own cover.
use Rattle.std.proofs.Common.{◌≤◌, All, IsTrue, refl, arith}
use Rattle.std.proofs.lemmas.Nat.{pow_pos}
use Rattle.std.proofs.lemmas.List.Elements.{All-weaker}
use Rattle.rule_model.specs.PortRange.{PortRange, IsPortRange, is_block, cover}
use Rattle.rule_model.proofs.Blocks.{is_block-power}
use Rattle.rule_model.proofs.CoverMembers.{IsMember, members}

-- each member is a block of the range's ports
pub record IsBlockOf (range block : PortRange) : Type 0 where
  pub is_one : IsTrue (is_block block)
  pub right : IsPortRange block
  pub low : range.lo ≤ block.lo
  pub high : block.hi ≤ range.hi

pub cover_blocks : (range : PortRange) → IsPortRange range → All (IsBlockOf range) (cover range)
cover_blocks range right = All-weaker (IsMember range 16 0) (IsBlockOf range) (λ b m. member b m) (cover range) (members range 16 0 refl)
  where
    member : (block : PortRange) → IsMember range 16 0 block → IsBlockOf range block
    member block m =
        let size = m.size in
        let p = pow_pos m.level in
        let fits = right.fits in
        let high = m.high in
        record {
          is_one = (is_block-power block).1 (m.level, m.most, omega arith, m.multiple);
          right = record { ordered = omega arith; fits = omega arith };
          low = m.low;
          high = m.high;
        }
