-- No bit of a piece's value is set outside its mask.
use Rattle.std.proofs.Common.{◌≡◌, ℕ, ◌+◌, ◌*◌, ◌-◌, ◌/◌, ◌%◌, ◌^◌, ◌<◌, ◌≤◌, Option, None, Some, refl, sym, ◌∙◌, ap, arith, bit_and, add-zero}
use Rattle.std.specs.Prelude.{IfNone, IfSome, IsTrue}
use Rattle.std.specs.Int.Bits.{and_self}
use Rattle.std.proofs.Math.Nat.{mod-eq_of_lt}
use Rattle.std.proofs.lemmas.Nat.{pow_pos, and_shr, and_mod, and_block, and_mask, div-add-mod'}
use Rattle.std.proofs.lemmas.Nat.Bits.{and_high_mask}
use Rattle.rule_model.proofs.Blocks.{is_block-power}
use Rattle.rule_model.specs.declared.Piece.{Piece}
use Rattle.rule_model.specs.AddressBlock.{AddressBlock, IsAddressBlock}
use Rattle.rule_model.specs.PortRange.{PortRange, IsPortRange, is_block, range_size}
use Rattle.rule_model.specs.Rule.{AreConditions}
use Rattle.rule_model.specs.Word.{pair_lane}
use Rattle.rule_model.specs.Entry.{IsEncodable, IsMasked, value_of, mask_of, leading_ones, port_value, port_mask, bit_mask, proto_value, proto_mask}
use Rattle.rule_model.proofs.ApartEntries.{value_fits, mask_fits, bit_fits}

-- a multiple of 2 ^ k is whole under a mask of ones from bit k on
multiple_masked : (w k n : ℕ) → k ≤ w → n < 2 ^ w → n % 2 ^ k ≡ 0 → bit_and n (2 ^ w - 2 ^ k) ≡ n
multiple_masked w k n within fits multiple =
    and_high_mask w k within n fits ∙ omega (arith, div-add-mod' n (2 ^ k))

prefix_masked : (block : AddressBlock) → IsAddressBlock block → bit_and block.addr (leading_ones block.len) ≡ block.addr
prefix_masked block right = multiple_masked 128 (128 - block.len) block.addr (omega arith) right.fits right.no_host_bits

-- so each lane of a number is whole under the same lane of the mask
lane_masked : (s w n mask : ℕ) → bit_and n mask ≡ n → bit_and (n / 2 ^ s % 2 ^ w) (mask / 2 ^ s % 2 ^ w) ≡ n / 2 ^ s % 2 ^ w
lane_masked s w n mask whole =
    sym (and_mod (n / 2 ^ s) (mask / 2 ^ s) w) ∙ ap (λ m. m % 2 ^ w) (sym (and_shr n mask s)) ∙ ap (λ m. m / 2 ^ s % 2 ^ w) whole

lowest_masked : (w n mask : ℕ) → bit_and n mask ≡ n → bit_and (n % 2 ^ w) (mask % 2 ^ w) ≡ n % 2 ^ w
lowest_masked w n mask whole = sym (and_mod n mask w) ∙ ap (λ m. m % 2 ^ w) whole

-- and two halves are whole under two halves of the mask
pair_masked : (a b m n : ℕ) → b < 2 ^ 16 → n < 2 ^ 16 → bit_and a m ≡ a → bit_and b n ≡ b → bit_and (pair_lane a b) (pair_lane m n) ≡ pair_lane a b
pair_masked a b m n lb ln e f = and_block 16 a m b n lb ln ∙ ap (λ x. x * 2 ^ 16 + bit_and b n) e ∙ ap (λ x. a * 2 ^ 16 + x) f

shifted_masked : (k a m : ℕ) → bit_and a m ≡ a → bit_and (a * 2 ^ k) (m * 2 ^ k) ≡ a * 2 ^ k
shifted_masked k a m e =
    simp add-zero at (and_block k a m 0 0 (pow_pos k) (pow_pos k)) ∙ ap (λ x. x * 2 ^ k) e

port_masked : (range : PortRange) (bit : Option ℕ) → IsPortRange range → IfNone bit (IsTrue (is_block range)) → bit_and (port_value range bit) (port_mask range bit) ≡ port_value range bit
port_masked range None right whole = at ((is_block-power range).0 whole)
  where
    at : ((k : ℕ) × (k ≤ 16) × (range_size range ≡ 2 ^ k) × (range.lo % 2 ^ k ≡ 0)) → bit_and range.lo (2 ^ 16 - range_size range) ≡ range.lo
    at (k, most, size, multiple) =
        ap (λ n. bit_and range.lo (2 ^ 16 - n)) size
        ∙ multiple_masked 16 k range.lo most (let a = right.ordered in let b = right.fits in omega arith) multiple
port_masked range (Some bit) right whole = refl

proto_masked : (proto : Option ℕ) → IfSome proto (λ number. number < 2 ^ 8) → bit_and (proto_value proto) (proto_mask proto) ≡ proto_value proto
proto_masked None fits = refl
proto_masked (Some number) fits = and_mask number 8 ∙ mod-eq_of_lt fits

pub entry_of-masked : (piece : Piece) → AreConditions piece.src piece.dst piece.proto piece.sport piece.dport → IsEncodable piece
    → IsMasked (value_of piece).lane (mask_of piece).lane
entry_of-masked piece right encodable =
    let src = prefix_masked piece.src right.src_right in
    let dst = prefix_masked piece.dst right.dst_right in
    let few = bit_fits piece.dstbit encodable.dstbit in (
      lane_masked 96 32 _ _ src,
      (
        lane_masked 64 32 _ _ src,
        (
          lane_masked 32 32 _ _ src,
          (
            lowest_masked 32 _ _ src,
            (
              lane_masked 96 32 _ _ dst,
              (
                lane_masked 64 32 _ _ dst,
                (
                  lane_masked 32 32 _ _ dst,
                  (
                    lowest_masked 32 _ _ dst,
                    (
                      pair_masked (port_value piece.sport piece.srcbit) (port_value piece.dport piece.dstbit) (port_mask piece.sport piece.srcbit) (port_mask piece.dport piece.dstbit)
                          (value_fits piece.dport piece.dstbit right.dport_right) (mask_fits piece.dport piece.dstbit right.dport_right)
                          (port_masked piece.sport piece.srcbit right.sport_right encodable.sport) (port_masked piece.dport piece.dstbit right.dport_right encodable.dport),
                      (
                        shifted_masked 24 (proto_value piece.proto) (proto_mask piece.proto) (proto_masked piece.proto right.proto_right),
                        (
                          pair_masked (bit_mask piece.srcbit) (bit_mask piece.dstbit) (bit_mask piece.srcbit) (bit_mask piece.dstbit) few few (and_self (bit_mask piece.srcbit)) (and_self (bit_mask piece.dstbit)),
                          tt,
                        ),
                      ),
                    ),
                  ),
                ),
              ),
            ),
          ),
        ),
      ),
    )
