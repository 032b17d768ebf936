-- The entry of a piece hits the words of exactly the keys that the piece is to match.
use Rattle.std.proofs.Common.{◌≡◌, ℕ, ◌*◌, ◌-◌, ◌/◌, ◌%◌, ◌^◌, ◌<◌, ◌≤◌, Bool, true, false, ◌==◌, ◌&&◌, Option, None, Some, refl, sym, ◌∙◌, ap, subst, arith}
use Rattle.std.specs.Prelude.{IfNone, IfSome, IsTrue, nat_le}
use Rattle.std.specs.Bool.{Decides}
use Rattle.std.proofs.lemmas.Bool.{and_parts, and_from, leb-true, le-leb}
use Rattle.std.proofs.lemmas.Bool.Decides.{same_from_decides, Decides-eqb, Decides-like}
use Rattle.rule_model.specs.declared.Key.{Key}
use Rattle.rule_model.specs.declared.Piece.{Piece}
use Rattle.rule_model.specs.Key.{IsKey}
use Rattle.rule_model.specs.AddressBlock.{AddressBlock, IsAddressBlock, block_holds}
use Rattle.rule_model.specs.PortRange.{PortRange, IsPortRange, is_block, is_bit_set, range_holds, range_size}
use Rattle.rule_model.specs.Rule.{AreConditions, proto_holds}
use Rattle.rule_model.specs.Word.{pair_lane}
use Rattle.rule_model.specs.Entry.{entry_of, port_tested, port_value, port_mask, bit_mask, proto_value, proto_mask, leading_ones, IsEncodable, HitsExactly}
use Rattle.rule_model.proofs.Blocks.{is_block-power}
use Rattle.rule_model.proofs.WordBits.{differing, leading_agree, untested, bit_agrees, parts_differ, parts_zero, shifted_differs, shifted_zero, block_agrees, agrees_block}
use Rattle.rule_model.proofs.Lanes.{address_test, address_test-is}
use Rattle.rule_model.proofs.ApartEntries.{ones_fit, value_fits, mask_fits, bit_fits}

-- a prefix
prefix_agrees : (block : AddressBlock) (address : ℕ) → IsAddressBlock block → address < 2 ^ 128
    → (differing address block.addr (leading_ones block.len) == 0) ≡ block_holds block address
prefix_agrees block address right fits =
    same_from_decides (differing address block.addr (leading_ones block.len) == 0) (block_holds block address)
    (leading_agree 128 (128 - block.len) address block.addr (omega arith) fits right.fits)
    (Decides-eqb (address / 2 ^ (128 - block.len)) (block.addr / 2 ^ (128 - block.len)))

-- a protocol, in its lane
proto_part : (wanted : Option ℕ) (proto : ℕ) → IfSome wanted (λ number. number < 2 ^ 8) → proto < 2 ^ 8
    → (differing proto (proto_value wanted) (proto_mask wanted) == 0) ≡ proto_holds wanted proto
proto_part None proto right fits = untested proto 0
proto_part (Some wanted) proto right fits =
    same_from_decides (differing proto wanted (2 ^ 8 - 2 ^ 0) == 0) (wanted == proto)
    (Decides-like (differing proto wanted (2 ^ 8 - 2 ^ 0) == 0) (λ e. omega arith) (λ e. omega arith)
    (leading_agree 8 0 proto wanted (omega arith) fits right))
    (Decides-eqb wanted proto)

proto_agrees : (wanted : Option ℕ) (proto : ℕ) → IfSome wanted (λ number. number < 2 ^ 8) → proto < 2 ^ 8
    → (differing (proto * 2 ^ 24) (proto_value wanted * 2 ^ 24) (proto_mask wanted * 2 ^ 24) == 0) ≡ proto_holds wanted proto
proto_agrees wanted proto right fits =
    ap (λ n. n == 0) (shifted_differs 24 proto (proto_value wanted) (proto_mask wanted))
    ∙ shifted_zero 24 (differing proto (proto_value wanted) (proto_mask wanted)) ∙ proto_part wanted proto right fits

-- a range as its half of the port lane tests it, which is all of it where no bit does
abbrev by_block : PortRange → Option ℕ → ℕ → Bool
by_block range None port = range_holds range port
by_block range (Some bit) port = true

-- a range as its half of the lane of bits tests it
abbrev by_bit : Option ℕ → ℕ → Bool
by_bit None bits = true
by_bit (Some bit) bits = is_bit_set bits bit

block_part : (range : PortRange) (port : ℕ) → IsPortRange range → IsTrue (is_block range) → port < 2 ^ 16
    → (differing port range.lo (2 ^ 16 - range_size range) == 0) ≡ range_holds range port
block_part range port right whole fits = at ((is_block-power range).0 whole)
  where
    at : ((k : ℕ) × (k ≤ 16) × (range_size range ≡ 2 ^ k) × (range.lo % 2 ^ k ≡ 0)) → (differing port range.lo (2 ^ 16 - range_size range) == 0) ≡ range_holds range port
    at (k, most, size, multiple) =
        same_from_decides (differing port range.lo (2 ^ 16 - range_size range) == 0) (range_holds range port)
        (Decides-like (differing port range.lo (2 ^ 16 - range_size range) == 0) gives from
        (subst (λ n. Decides (differing port range.lo (2 ^ 16 - n) == 0) (port / 2 ^ k ≡ range.lo / 2 ^ k)) (sym size)
        (leading_agree 16 k port range.lo most fits (let a = right.ordered in let b = right.fits in omega arith))))
        ((λ e. e), (λ e. e))
      where
        gives : port / 2 ^ k ≡ range.lo / 2 ^ k → range_holds range port ≡ true
        gives e =
            let a = right.ordered in
            let p = block_agrees k port range.lo multiple e in
            and_from (nat_le range.lo port) (nat_le port range.hi) (le-leb range.lo port p.0) (le-leb port range.hi (omega arith))

        from : range_holds range port ≡ true → port / 2 ^ k ≡ range.lo / 2 ^ k
        from e =
            let a = right.ordered in
            let p = and_parts (nat_le range.lo port) (nat_le port range.hi) e in
            let low = leb-true range.lo port p.0 in
            let high = leb-true port range.hi p.1 in
            agrees_block k port range.lo multiple low (omega arith)

port_part : (range : PortRange) (bit : Option ℕ) (port : ℕ) → IsPortRange range → IfNone bit (IsTrue (is_block range)) → port < 2 ^ 16
    → (differing port (port_value range bit) (port_mask range bit) == 0) ≡ by_block range bit port
port_part range None port right whole fits = block_part range port right whole fits
port_part range (Some bit) port right whole fits = untested port 0

bit_part : (bit : Option ℕ) (bits : ℕ) → (differing bits (bit_mask bit) (bit_mask bit) == 0) ≡ by_bit bit bits
bit_part None bits = untested bits 0
bit_part (Some bit) bits = bit_agrees bits bit

-- two halves of one lane
halves : (a b c d e f : ℕ) → b < 2 ^ 16 → d < 2 ^ 16 → f < 2 ^ 16
    → (differing (pair_lane a b) (pair_lane c d) (pair_lane e f) == 0) ≡ ((differing a c e == 0) && (differing b d f == 0))
halves a b c d e f lb ld lf =
    ap (λ n. n == 0) (parts_differ 16 a b c d e f lb ld lf) ∙ parts_zero 16 (differing a c e) (differing b d f)

tested : (range : PortRange) (bit : Option ℕ) (port bits : ℕ) → port_tested range bit port bits ≡ (by_block range bit port && by_bit bit bits)
tested range None port bits = with_true (range_holds range port)
  where
    with_true : (b : Bool) → b ≡ (b && true)
    with_true true = refl
    with_true false = refl
tested range (Some bit) port bits = refl

-- the order of the lanes and that of the conditions
arranged : (src dst proto sport dport srcbit dstbit : Bool)
    → (src && (dst && ((sport && dport) && (proto && ((srcbit && dstbit) && true))))) ≡ (src && dst && proto && (sport && srcbit) && (dport && dstbit))
arranged false d p s t b c = refl
arranged true false p s t b c = refl
arranged true true false false t b c = refl
arranged true true false true false b c = refl
arranged true true false true true b c = refl
arranged true true true false t b c = refl
arranged true true true true false true c = refl
arranged true true true true false false c = refl
arranged true true true true true true true = refl
arranged true true true true true true false = refl
arranged true true true true true false c = refl

both : (a b a' b' : Bool) → a ≡ a' → b ≡ b' → (a && b) ≡ (a' && b')
both a b a' b' e f = cc

-- the lane of the ports tests the two blocks
ports_agree : (piece : Piece) (key : Key) → AreConditions piece.src piece.dst piece.proto piece.sport piece.dport → IsEncodable piece → IsKey key
    → (differing (pair_lane key.sport key.dport) (pair_lane (port_value piece.sport piece.srcbit) (port_value piece.dport piece.dstbit)) (pair_lane (port_mask piece.sport piece.srcbit) (port_mask piece.dport piece.dstbit)) == 0)
    ≡ (by_block piece.sport piece.srcbit key.sport && by_block piece.dport piece.dstbit key.dport)
ports_agree piece key right encodable fits =
    halves key.sport key.dport (port_value piece.sport piece.srcbit) (port_value piece.dport piece.dstbit) (port_mask piece.sport piece.srcbit) (port_mask piece.dport piece.dstbit)
    fits.dport (value_fits piece.dport piece.dstbit right.dport_right) (mask_fits piece.dport piece.dstbit right.dport_right)
    ∙ both _ _ (by_block piece.sport piece.srcbit key.sport) (by_block piece.dport piece.dstbit key.dport)
    (port_part piece.sport piece.srcbit key.sport right.sport_right encodable.sport fits.sport)
    (port_part piece.dport piece.dstbit key.dport right.dport_right encodable.dport fits.dport)

-- the last lane tests the two bits
bits_agree : (piece : Piece) (srcbits dstbits : ℕ) → IsEncodable piece → dstbits < 2 ^ 16
    → (differing (pair_lane srcbits dstbits) (pair_lane (bit_mask piece.srcbit) (bit_mask piece.dstbit)) (pair_lane (bit_mask piece.srcbit) (bit_mask piece.dstbit)) == 0)
    ≡ (by_bit piece.srcbit srcbits && by_bit piece.dstbit dstbits)
bits_agree piece srcbits dstbits encodable few =
    let fits = bit_fits piece.dstbit encodable.dstbit in
    halves srcbits dstbits (bit_mask piece.srcbit) (bit_mask piece.dstbit) (bit_mask piece.srcbit) (bit_mask piece.dstbit) few fits fits
    ∙ both _ _ (by_bit piece.srcbit srcbits) (by_bit piece.dstbit dstbits) (bit_part piece.srcbit srcbits) (bit_part piece.dstbit dstbits)

-- each lane for what it tests
replaced : (a b c d e a' b' c' d' e' : Bool) → a ≡ a' → b ≡ b' → c ≡ c' → d ≡ d' → e ≡ e'
    → (a && (b && (c && (d && (e && true))))) ≡ (a' && (b' && (c' && (d' && (e' && true)))))
replaced a b c d e a' b' c' d' e' f g h i j = cc

-- each condition for what tests it
restored : (a b c d e d' e' : Bool) → d ≡ d' → e ≡ e' → (a && b && c && d && e) ≡ (a && b && c && d' && e')
restored a b c d e d' e' f g = cc

pub hits-entry_of : (piece : Piece) (tag answer : ℕ) → AreConditions piece.src piece.dst piece.proto piece.sport piece.dport → IsEncodable piece
    → HitsExactly piece (entry_of piece tag answer)
hits-entry_of piece tag answer right encodable key fits srcbits dstbits ls ld =
    let src = piece.src in
    let dst = piece.dst in
    let ports = differing (pair_lane key.sport key.dport) (pair_lane (port_value piece.sport piece.srcbit) (port_value piece.dport piece.dstbit)) (pair_lane (port_mask piece.sport piece.srcbit) (port_mask piece.dport piece.dstbit)) == 0 in
    let proto = differing (key.proto * 2 ^ 24) (proto_value piece.proto * 2 ^ 24) (proto_mask piece.proto * 2 ^ 24) == 0 in
    let bits = differing (pair_lane srcbits dstbits) (pair_lane (bit_mask piece.srcbit) (bit_mask piece.dstbit)) (pair_lane (bit_mask piece.srcbit) (bit_mask piece.dstbit)) == 0 in
    let rest = ports && (proto && (bits && true)) in
    address_test-is key.src src.addr (leading_ones src.len) (address_test key.dst dst.addr (leading_ones dst.len) rest) (ones_fit src.len)
    ∙ ap (λ more. (differing key.src src.addr (leading_ones src.len) == 0) && more) (address_test-is key.dst dst.addr (leading_ones dst.len) rest (ones_fit dst.len))
    ∙ replaced _ _ ports proto bits _ _ _ _ _
    (prefix_agrees src key.src right.src_right fits.src)
    (prefix_agrees dst key.dst right.dst_right fits.dst)
    (ports_agree piece key right encodable fits)
    (proto_agrees piece.proto key.proto right.proto_right fits.proto)
    (bits_agree piece srcbits dstbits encodable ld)
    ∙ arranged (block_holds src key.src) (block_holds dst key.dst) (proto_holds piece.proto key.proto) (by_block piece.sport piece.srcbit key.sport) (by_block piece.dport piece.dstbit key.dport) (by_bit piece.srcbit srcbits) (by_bit piece.dstbit dstbits)
    ∙ restored (block_holds src key.src) (block_holds dst key.dst) (proto_holds piece.proto key.proto) _ _ _ _
    (sym (tested piece.sport piece.srcbit key.sport srcbits)) (sym (tested piece.dport piece.dstbit key.dport dstbits))
