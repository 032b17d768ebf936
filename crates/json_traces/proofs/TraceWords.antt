-- The entry of a piece of a rule has numbers as a trace of its version of IP has them.
use Rattle.std.proofs.Common.{◌≡◌, ℕ, zero, suc, ◌+◌, ◌-◌, ◌*◌, ◌/◌, ◌%◌, ◌^◌, ◌<◌, ◌≤◌, Option, Some, None, IfSome, List, [], ◌∷◌, refl, arith, ap, ◌∙◌}
use Rattle.std.specs.Prelude.{slice_index}
use Rattle.std.specs.List.{AllByRecursion}
use Rattle.std.proofs.lemmas.Nat.{pow-add}
use Rattle.std.proofs.Math.Pow.{pow_mono, pow-lt}
use Rattle.rule_model.specs.declared.IpVersion.{IpVersion}
use Rattle.rule_model.specs.declared.IpVersion.TheVariants.{V4, V6}
use Rattle.rule_model.specs.AddressBlock.{AddressBlock, IsIpv4Block}
use Rattle.rule_model.specs.PortRange.{PortRange, IsPortRange}
use Rattle.rule_model.specs.declared.words.Word.{Word}
use Rattle.rule_model.specs.Word.{lanes_of}
use Rattle.rule_model.specs.Rule.{AreConditions}
use Rattle.rule_model.specs.Entry.{RankedPiece, IsEncodable, entry_for, leading_ones, port_value, port_mask, bit_mask, proto_value, proto_mask}
use Rattle.trace_file.specs.Values.{ipv4_word}
use Rattle.trace_file.specs.Forms.{IsIpv4Word, IsIpv4Entry, IsIpv6Word, IsIpv6Entry, IsTraceRank, IsTraceEntry}

-- lanes of 32 bits, each of them
each_lane : (lanes : List ℕ) → AllByRecursion (λ lane. lane < 2 ^ 32) lanes → (at : ℕ) → slice_index lanes at < 2 ^ 32
each_lane [] all at = omega arith
each_lane (lane ∷ lanes) all zero = all.0
each_lane (lane ∷ lanes) all (suc at) = each_lane lanes all.1 at

-- an address of IPv4 has nothing in its lower lanes
record HasUpperLane (address : ℕ) : Type 0 where
  second : address / 2 ^ 64 % 2 ^ 32 ≡ 0
  third : address / 2 ^ 32 % 2 ^ 32 ≡ 0
  fourth : address % 2 ^ 32 ≡ 0

upper_lane : (address : ℕ) → address % 2 ^ 96 ≡ 0 → HasUpperLane address
upper_lane address upper = record { second = omega arith; third = omega arith; fourth = omega arith }

-- words with the same lanes
same_lanes : (a0 a1 a2 a3 b0 b1 b2 b3 c d e : ℕ) → a1 ≡ 0 → a2 ≡ 0 → a3 ≡ 0 → b1 ≡ 0 → b2 ≡ 0 → b3 ≡ 0
    → ◌≡◌ {A = Word} (record { lane = a0 ∷ a1 ∷ a2 ∷ a3 ∷ b0 ∷ b1 ∷ b2 ∷ b3 ∷ c ∷ d ∷ e ∷ [] }) (ipv4_word a0 b0 c d e)
same_lanes a0 a1 a2 a3 b0 b1 b2 b3 c d e p q r s t u = rw (p, q, r, s, t, u) refl

-- the numbers that lanes are made of, of IPv4
record HasFields (src dst sport dport proto srcbits dstbits : ℕ) : Type 0 where
  src_upper : src % 2 ^ 96 ≡ 0
  dst_upper : dst % 2 ^ 96 ≡ 0
  sport_fits : sport < 2 ^ 16
  dport_fits : dport < 2 ^ 16
  proto_fits : proto < 2 ^ 8
  srcbits_fit : srcbits < 2 ^ 16
  dstbits_fit : dstbits < 2 ^ 16

ipv4_word_is : (src dst sport dport proto srcbits dstbits : ℕ) → HasFields src dst sport dport proto srcbits dstbits → IsIpv4Word (record { lane = lanes_of src dst sport dport proto srcbits dstbits })
ipv4_word_is src dst sport dport proto srcbits dstbits has =
    let from = upper_lane src has.src_upper in
    let to = upper_lane dst has.dst_upper in
    let a = has.sport_fits in
    let b = has.dport_fits in
    let c = has.proto_fits in
    let d = has.srcbits_fit in
    let e = has.dstbits_fit in
    record {
      lanes = same_lanes (src / 2 ^ 96 % 2 ^ 32) (src / 2 ^ 64 % 2 ^ 32) (src / 2 ^ 32 % 2 ^ 32) (src % 2 ^ 32) (dst / 2 ^ 96 % 2 ^ 32) (dst / 2 ^ 64 % 2 ^ 32) (dst / 2 ^ 32 % 2 ^ 32) (dst % 2 ^ 32)
          (sport * 2 ^ 16 + dport) (proto * 2 ^ 24) (srcbits * 2 ^ 16 + dstbits) from.second from.third from.fourth to.second to.third to.fourth;
      fits = each_lane (lanes_of src dst sport dport proto srcbits dstbits) (
        omega arith,
        (
          omega arith,
          (omega arith, (omega arith, (omega arith, (omega arith, (omega arith, (omega arith, (omega arith, (omega arith, (omega arith, tt))))))))),
        ),
      );
    }

-- of IPv6 an address may have any lanes
ipv6_word_is : (src dst sport dport proto srcbits dstbits : ℕ) → sport < 2 ^ 16 → dport < 2 ^ 16 → proto < 2 ^ 8 → srcbits < 2 ^ 16 → dstbits < 2 ^ 16
    → IsIpv6Word (record { lane = lanes_of src dst sport dport proto srcbits dstbits })
ipv6_word_is src dst sport dport proto srcbits dstbits a b c d e = record {
  lanes = refl;
  fits = each_lane (lanes_of src dst sport dport proto srcbits dstbits) (
    omega arith,
    (
      omega arith,
      (omega arith, (omega arith, (omega arith, (omega arith, (omega arith, (omega arith, (omega arith, (omega arith, (omega arith, tt))))))))),
    ),
  );
}

-- the mask of a block of IPv4 tests the upper lane alone
mask_upper : (len : ℕ) → len ≤ 32 → leading_ones len % 2 ^ 96 ≡ 0
mask_upper len short =
    let room : 128 - len ≡ (32 - len) + 96 = omega arith in
    let parts : 2 ^ (128 - len) ≡ 2 ^ (32 - len) * 2 ^ 96 = ap (λ n. 2 ^ n) room ∙ pow-add 2 (32 - len) 96 in
    let most : 2 ^ (32 - len) ≤ 2 ^ 32 = pow_mono {i = 32 - len} {j = 32} (omega arith) in
    omega arith

port_value_fits : (range : PortRange) (bit : Option ℕ) → IsPortRange range → port_value range bit < 2 ^ 16
port_value_fits range None right = let ordered = right.ordered in let fits = right.fits in omega arith
port_value_fits range (Some bit) right = omega arith

port_mask_fits : (range : PortRange) (bit : Option ℕ) → IsPortRange range → port_mask range bit < 2 ^ 16
port_mask_fits range None right = let ordered = right.ordered in omega arith
port_mask_fits range (Some bit) right = omega arith

bit_mask_fits : (bit : Option ℕ) → IfSome bit (λ one. one < 16) → bit_mask bit < 2 ^ 16
bit_mask_fits None small = omega arith
bit_mask_fits (Some bit) small = pow-lt {i = bit} {j = 16} small

proto_value_fits : (proto : Option ℕ) → IfSome proto (λ n. n < 2 ^ 8) → proto_value proto < 2 ^ 8
proto_value_fits None small = omega arith
proto_value_fits (Some n) small = small

proto_mask_fits : (proto : Option ℕ) → proto_mask proto < 2 ^ 8
proto_mask_fits None = omega arith
proto_mask_fits (Some n) = omega arith

-- a block of this version
abbrev pub IsTraceBlock : IpVersion → AddressBlock → Type 0
IsTraceBlock V4 block = IsIpv4Block block
IsTraceBlock V6 block = Unit {0}

-- a piece of a rule of a trace, with its rank and its result
pub record IsTraceRanked (version : IpVersion) (ranked : RankedPiece) : Type 0 where
  pub right : AreConditions ranked.piece.src ranked.piece.dst ranked.piece.proto ranked.piece.sport ranked.piece.dport
  pub src : IsTraceBlock version ranked.piece.src
  pub dst : IsTraceBlock version ranked.piece.dst
  pub encodable : IsEncodable ranked.piece
  pub rank : IsTraceRank version ranked.rank
  pub result : ranked.result < 2 ^ 32

ipv4_entry_is : (ranked : RankedPiece) → IsTraceRanked V4 ranked → IsIpv4Entry (entry_for ranked)
ipv4_entry_is ranked is =
    let piece = ranked.piece in
    record {
      value = ipv4_word_is piece.src.addr piece.dst.addr (port_value piece.sport piece.srcbit) (port_value piece.dport piece.dstbit) (proto_value piece.proto) (bit_mask piece.srcbit) (bit_mask piece.dstbit)
          (record {
            src_upper = is.src.upper;
            dst_upper = is.dst.upper;
            sport_fits = port_value_fits piece.sport piece.srcbit is.right.sport_right;
            dport_fits = port_value_fits piece.dport piece.dstbit is.right.dport_right;
            proto_fits = proto_value_fits piece.proto is.right.proto_right;
            srcbits_fit = bit_mask_fits piece.srcbit is.encodable.srcbit;
            dstbits_fit = bit_mask_fits piece.dstbit is.encodable.dstbit;
          });
      mask = ipv4_word_is (leading_ones piece.src.len) (leading_ones piece.dst.len) (port_mask piece.sport piece.srcbit) (port_mask piece.dport piece.dstbit) (proto_mask piece.proto) (bit_mask piece.srcbit) (bit_mask piece.dstbit)
          (record {
            src_upper = mask_upper piece.src.len is.src.length;
            dst_upper = mask_upper piece.dst.len is.dst.length;
            sport_fits = port_mask_fits piece.sport piece.srcbit is.right.sport_right;
            dport_fits = port_mask_fits piece.dport piece.dstbit is.right.dport_right;
            proto_fits = proto_mask_fits piece.proto;
            srcbits_fit = bit_mask_fits piece.srcbit is.encodable.srcbit;
            dstbits_fit = bit_mask_fits piece.dstbit is.encodable.dstbit;
          });
      tag = is.rank;
      result = is.result;
    }

ipv6_entry_is : (ranked : RankedPiece) → IsTraceRanked V6 ranked → IsIpv6Entry (entry_for ranked)
ipv6_entry_is ranked is =
    let piece = ranked.piece in
    record {
      value = ipv6_word_is piece.src.addr piece.dst.addr (port_value piece.sport piece.srcbit) (port_value piece.dport piece.dstbit) (proto_value piece.proto) (bit_mask piece.srcbit) (bit_mask piece.dstbit)
          (port_value_fits piece.sport piece.srcbit is.right.sport_right) (port_value_fits piece.dport piece.dstbit is.right.dport_right) (proto_value_fits piece.proto is.right.proto_right)
          (bit_mask_fits piece.srcbit is.encodable.srcbit) (bit_mask_fits piece.dstbit is.encodable.dstbit);
      mask = ipv6_word_is (leading_ones piece.src.len) (leading_ones piece.dst.len) (port_mask piece.sport piece.srcbit) (port_mask piece.dport piece.dstbit) (proto_mask piece.proto) (bit_mask piece.srcbit) (bit_mask piece.dstbit)
          (port_mask_fits piece.sport piece.srcbit is.right.sport_right) (port_mask_fits piece.dport piece.dstbit is.right.dport_right) (proto_mask_fits piece.proto)
          (bit_mask_fits piece.srcbit is.encodable.srcbit) (bit_mask_fits piece.dstbit is.encodable.dstbit);
      tag = is.rank;
      result = is.result;
    }

pub entry_is : (version : IpVersion) (ranked : RankedPiece) → IsTraceRanked version ranked → IsTraceEntry version (entry_for ranked)
entry_is V4 ranked is = ipv4_entry_is ranked is
entry_is V6 ranked is = ipv6_entry_is ranked is
