-- Pieces whose entries have one match are one, but for the ranges that are tested by bits.
use Rattle.std.proofs.Common.{◌≡◌, ℕ, ◌+◌, ◌*◌, ◌-◌, ◌/◌, ◌%◌, ◌^◌, ◌<◌, ◌≤◌, true, Option, None, Some, List, arith, inl, inr, refl, sym, ◌∙◌, ap, get_or}
use Rattle.std.specs.Prelude.{◌&&◌, nat_eq, IfNone, IfSome}
use Rattle.std.proofs.Math.Pow.{pow-lt}
use Rattle.std.proofs.Math.Nat.{pow-le-pow_right}
use Rattle.std.proofs.lemmas.Nat.{pow_pos}
use Rattle.std.proofs.lemmas.Bool.{and_parts, eqb-true, cases_order}
use Rattle.std.proofs.lemmas.Slice.Eq.{bytes_eq-Decides}
use Rattle.rule_model.specs.declared.Piece.{Piece}
use Rattle.rule_model.specs.AddressBlock.{AddressBlock}
use Rattle.rule_model.specs.PortRange.{PortRange, IsPortRange}
use Rattle.rule_model.specs.Rule.{AreConditions}
use Rattle.rule_model.specs.Word.{lanes_of}
use Rattle.rule_model.specs.Entry.{RankedPiece, entry_for, value_of, mask_of, leading_ones, port_value, port_mask, bit_mask, proto_value, proto_mask, IsEncodable, same_word, same_match}

lanes_back : (a b : ℕ) → a < 2 ^ 128 → b < 2 ^ 128 → a / 2 ^ 96 % 2 ^ 32 ≡ b / 2 ^ 96 % 2 ^ 32 → a / 2 ^ 64 % 2 ^ 32 ≡ b / 2 ^ 64 % 2 ^ 32
    → a / 2 ^ 32 % 2 ^ 32 ≡ b / 2 ^ 32 % 2 ^ 32 → a % 2 ^ 32 ≡ b % 2 ^ 32 → a ≡ b
lanes_back a b la lb w x y z = omega arith

pub record Fields (s d sp dp pr sb db s' d' sp' dp' pr' sb' db' : ℕ) : Type 0 where
  pub src : s ≡ s'
  pub dst : d ≡ d'
  pub sport : sp ≡ sp'
  pub dport : dp ≡ dp'
  pub proto : pr ≡ pr'
  pub srcbits : sb ≡ sb'
  pub dstbits : db ≡ db'

pair_upper : (a b c d : ℕ) → b < 2 ^ 16 → d < 2 ^ 16 → a * 2 ^ 16 + b ≡ c * 2 ^ 16 + d → a ≡ c
pair_upper a b c d lb ld e = omega arith

pair_lower : (a b c d : ℕ) → b < 2 ^ 16 → d < 2 ^ 16 → a * 2 ^ 16 + b ≡ c * 2 ^ 16 + d → b ≡ d
pair_lower a b c d lb ld e = omega arith

at_lane : (xs ys : List ℕ) (k : ℕ) → xs ≡ ys → get_or xs k 0 ≡ get_or ys k 0
at_lane xs ys k e = ap (λ zs. get_or zs k 0) e

-- the lanes tell the fields
fields_back : (s d sp dp pr sb db s' d' sp' dp' pr' sb' db' : ℕ) → s < 2 ^ 128 → s' < 2 ^ 128 → d < 2 ^ 128 → d' < 2 ^ 128 → dp < 2 ^ 16 → dp' < 2 ^ 16 → db < 2 ^ 16 → db' < 2 ^ 16
    → lanes_of s d sp dp pr sb db ≡ lanes_of s' d' sp' dp' pr' sb' db' → Fields s d sp dp pr sb db s' d' sp' dp' pr' sb' db'
fields_back s d sp dp pr sb db s' d' sp' dp' pr' sb' db' a a' b b' c c' e e' same = record {
  src = lanes_back s s' a a' (at 0) (at 1) (at 2) (at 3);
  dst = lanes_back d d' b b' (at 4) (at 5) (at 6) (at 7);
  sport = pair_upper sp dp sp' dp' c c' (at 8);
  dport = pair_lower sp dp sp' dp' c c' (at 8);
  proto = let k : pr * 2 ^ 24 ≡ pr' * 2 ^ 24 = at 9 in omega arith;
  srcbits = pair_upper sb db sb' db' e e' (at 10);
  dstbits = pair_lower sb db sb' db' e e' (at 10);
}
  where
    at : (k : ℕ) → get_or (lanes_of s d sp dp pr sb db) k 0 ≡ get_or (lanes_of s' d' sp' dp' pr' sb' db') k 0
    at k = at_lane (lanes_of s d sp dp pr sb db) (lanes_of s' d' sp' dp' pr' sb' db') k same

pub ones_fit : (len : ℕ) → leading_ones len < 2 ^ 128
ones_fit len = let p = pow_pos (128 - len) in fit (2 ^ (128 - len)) p
  where
    fit : (n : ℕ) → 0 < n → 2 ^ 128 - n < 2 ^ 128
    fit n l = omega arith

ones_back : (a b : ℕ) → a ≤ 128 → b ≤ 128 → leading_ones a ≡ leading_ones b → a ≡ b
ones_back a b la lb e = elim (cases_order a b) [
  | inl k ↦ k
  | inr o ↦ elim o [
    | inl l ↦ absurd (differ (128 - b) (128 - a) (omega arith) (omega arith) (sym e))
    | inr l ↦ absurd (differ (128 - a) (128 - b) (omega arith) (omega arith) e)
  ]
]
  where
    differ : (i j : ℕ) → i < j → j ≤ 128 → 2 ^ 128 - 2 ^ i ≡ 2 ^ 128 - 2 ^ j → ⊥
    differ i j l m e = far (2 ^ i) (2 ^ j) (pow-lt l) (pow-le-pow_right {n = 2} (omega arith) m) e
      where
        far : (x y : ℕ) → x < y → y ≤ 2 ^ 128 → 2 ^ 128 - x ≡ 2 ^ 128 - y → ⊥
        far x y l m e = omega arith

pub bit_fits : (bit : Option ℕ) → IfSome bit (λ b. b < 16) → bit_mask bit < 2 ^ 16
bit_fits None l = omega arith
bit_fits (Some b) l = pow-lt l

bit_back : (a b : Option ℕ) → bit_mask a ≡ bit_mask b → a ≡ b
bit_back None None e = refl
bit_back None (Some b) e = absurd (let p = pow_pos b in none (2 ^ b) p e)
  where
    none : (n : ℕ) → 0 < n → 0 ≡ n → ⊥
    none n l k = omega arith
bit_back (Some a) None e = absurd (let p = pow_pos a in none (2 ^ a) p e)
  where
    none : (n : ℕ) → 0 < n → n ≡ 0 → ⊥
    none n l k = omega arith
bit_back (Some a) (Some b) e = elim (cases_order a b) [
  | inl k ↦ ap Some k
  | inr o ↦ elim o [ inl l ↦ absurd (same (2 ^ a) (2 ^ b) (pow-lt l) e) | inr l ↦ absurd (same (2 ^ b) (2 ^ a) (pow-lt l) (sym e)) ]
]
  where
    same : (x y : ℕ) → x < y → x ≡ y → ⊥
    same x y l e = omega arith

proto_back : (a b : Option ℕ) → proto_value a ≡ proto_value b → proto_mask a ≡ proto_mask b → a ≡ b
proto_back None None v m = refl
proto_back None (Some b) v m = absurd (let k : 0 ≡ 2 ^ 8 - 1 = m in omega arith)
proto_back (Some a) None v m = absurd (let k : 2 ^ 8 - 1 ≡ 0 = m in omega arith)
proto_back (Some a) (Some b) v m = ap Some v

pub value_fits : (range : PortRange) (bit : Option ℕ) → IsPortRange range → port_value range bit < 2 ^ 16
value_fits range None r = let a = r.ordered in let b = r.fits in omega arith
value_fits range (Some b) r = omega arith

pub mask_fits : (range : PortRange) (bit : Option ℕ) → IsPortRange range → port_mask range bit < 2 ^ 16
mask_fits range None r = let a = r.ordered in let b = r.fits in omega arith
mask_fits range (Some b) r = omega arith

same_ends : (x y : PortRange) → x.lo ≡ y.lo → x.hi ≡ y.hi → x ≡ y
same_ends x y lo hi = ap (λ l. record { lo = l; hi = x.hi }) lo ∙ ap (λ h. record { lo = y.lo; hi = h }) hi

-- a range that has no bit is told by its value and its mask
range_back : (x y : PortRange) (bit : Option ℕ) → IsPortRange x → IsPortRange y → port_value x bit ≡ port_value y bit → port_mask x bit ≡ port_mask y bit
    → IfNone bit (x ≡ y)
range_back x y None r t v m =
    let a = r.ordered in let b = r.fits in let c = t.ordered in let d = t.fits in
    let lo : x.lo ≡ y.lo = v in
    same_ends x y lo (omega arith)
range_back x y (Some b) r t v m = tt

pub record SameParts (a b : Piece) : Type 0 where
  pub src : a.src ≡ b.src
  pub dst : a.dst ≡ b.dst
  pub proto : a.proto ≡ b.proto
  pub srcbit : a.srcbit ≡ b.srcbit
  pub dstbit : a.dstbit ≡ b.dstbit
  pub sport : IfNone a.srcbit (a.sport ≡ b.sport)
  pub dport : IfNone a.dstbit (a.dport ≡ b.dport)

pub same_match-parts : (a b : RankedPiece) → AreConditions a.piece.src a.piece.dst a.piece.proto a.piece.sport a.piece.dport
    → AreConditions b.piece.src b.piece.dst b.piece.proto b.piece.sport b.piece.dport → IsEncodable a.piece → IsEncodable b.piece
    → same_match (entry_for a) (entry_for b) ≡ true → (a.rank ≡ b.rank) × SameParts a.piece b.piece
same_match-parts a b ca cb ea eb e =
    let p = and_parts (same_word (value_of a.piece) (value_of b.piece) && same_word (mask_of a.piece) (mask_of b.piece)) (nat_eq a.rank b.rank) e in
    let q = and_parts (same_word (value_of a.piece) (value_of b.piece)) (same_word (mask_of a.piece) (mask_of b.piece)) p.0 in
    let x = a.piece in let y = b.piece in
    let v = fields_back x.src.addr x.dst.addr (port_value x.sport x.srcbit) (port_value x.dport x.dstbit) (proto_value x.proto) (bit_mask x.srcbit) (bit_mask x.dstbit)
    y.src.addr y.dst.addr (port_value y.sport y.srcbit) (port_value y.dport y.dstbit) (proto_value y.proto) (bit_mask y.srcbit) (bit_mask y.dstbit)
    ca.src_right.fits cb.src_right.fits ca.dst_right.fits cb.dst_right.fits (value_fits x.dport x.dstbit ca.dport_right) (value_fits y.dport y.dstbit cb.dport_right)
    (bit_fits x.dstbit ea.dstbit) (bit_fits y.dstbit eb.dstbit) ((bytes_eq-Decides (value_of x).lane (value_of y).lane).0 q.0) in
    let m = fields_back (leading_ones x.src.len) (leading_ones x.dst.len) (port_mask x.sport x.srcbit) (port_mask x.dport x.dstbit) (proto_mask x.proto) (bit_mask x.srcbit) (bit_mask x.dstbit)
    (leading_ones y.src.len) (leading_ones y.dst.len) (port_mask y.sport y.srcbit) (port_mask y.dport y.dstbit) (proto_mask y.proto) (bit_mask y.srcbit) (bit_mask y.dstbit)
    (ones_fit x.src.len) (ones_fit y.src.len) (ones_fit x.dst.len) (ones_fit y.dst.len) (mask_fits x.dport x.dstbit ca.dport_right) (mask_fits y.dport y.dstbit cb.dport_right)
    (bit_fits x.dstbit ea.dstbit) (bit_fits y.dstbit eb.dstbit) ((bytes_eq-Decides (mask_of x).lane (mask_of y).lane).0 q.1) in
    let sb = bit_back x.srcbit y.srcbit v.srcbits in
    let db = bit_back x.dstbit y.dstbit v.dstbits in (
      eqb-true a.rank b.rank p.1,
      record {
        src = block_back x.src y.src v.src (ones_back x.src.len y.src.len ca.src_right.length cb.src_right.length m.src);
        dst = block_back x.dst y.dst v.dst (ones_back x.dst.len y.dst.len ca.dst_right.length cb.dst_right.length m.dst);
        proto = proto_back x.proto y.proto v.proto m.proto;
        srcbit = sb;
        dstbit = db;
        sport = range_back x.sport y.sport x.srcbit ca.sport_right cb.sport_right (v.sport ∙ ap (port_value y.sport) (sym sb)) (m.sport ∙ ap (port_mask y.sport) (sym sb));
        dport = range_back x.dport y.dport x.dstbit ca.dport_right cb.dport_right (v.dport ∙ ap (port_value y.dport) (sym db)) (m.dport ∙ ap (port_mask y.dport) (sym db));
      },
    )
  where
    block_back : (x y : AddressBlock) → x.addr ≡ y.addr → x.len ≡ y.len → x ≡ y
    block_back x y a l = ap (λ z. record { addr = z; len = x.len }) a ∙ ap (λ z. record { addr = y.addr; len = z }) l
