-- The piece of each live id: how ids are told apart, and what the index says of them.
use Rattle.std.proofs.Common.{◌≡◌, ℕ, ◌^◌, ◌<◌, ◌≤◌, true, IsTrue, Option, None, Some, List, map, Contains, arith, refl, sym, ◌∙◌, subst, ap, lt-ltb}
use Rattle.std.specs.Prelude.{◌↔◌, IfNone, nat_lt, nat_eq}
use Rattle.std.specs.List.{IsDistinct}
use Rattle.std.proofs.lemmas.Bool.{and_from}
use Rattle.rule_model.specs.declared.Piece.{Piece}
use Rattle.rule_model.specs.PortRange.{PortRange, IsPortRange, range_holds}
use Rattle.rule_model.specs.AddressBlock.{any_address}
use Rattle.rule_model.specs.Rule.{route_rule, AreConditions}
use Rattle.rule_model.specs.Piece.{PiecesOverlap, whole_piece, pieces_meet}
use Rattle.rule_model.proofs.CommonKeys.{pieces_meet-is}
use Rattle.rule_model.proofs.Covers.{held_from, held_low, held_high}
use Rattle.rule_model.specs.declared.words.Entry.{Entry}
use Rattle.rule_model.specs.Entry.{RankedPiece, entry_for, same_match}
use Rattle.rule_model.proofs.ApartEntries.{SameParts, same_match-parts}
use Rattle.placement.specs.declared.LivePiece.{LivePiece}
use Rattle.placement.specs.Live.{is_above}
use Rattle.placement.proofs.Above.{IsOver, above_is, is_above_from, piece_in, piece_is, live_is}
use Rattle.placement.specs.Insertion.{IsLive}
use Rattle.placement.proofs.Chain.{Reads}
use Rattle.tcam_device.specs.State.{State}
use Rattle.tcam_device.specs.Order.{IsTranslated}
use Rattle.commit_writes.specs.Planned.{IdEntries, entry_at, AreEntriesOf, AreNested, IsServedBy}
use Rattle.commit_writes.proofs.Mirror.{entry_by, over, rank}
use Rattle.commit_writes.proofs.Row.{AreReadable, AreNestedIds}

-- what stands for an id that isn't live
abbrev nobody : LivePiece
nobody = record { id = 0; piece = whole_piece (route_rule 0 any_address 0); rank = 0 }

abbrev result_held : Option Entry → ℕ
result_held None = 0
result_held (Some entry) = entry.result

-- the piece of each live id, with the result that its entry has
abbrev pub piece_by : List LivePiece → IdEntries → ℕ → RankedPiece
piece_by live held id = record { piece = (piece_in nobody live id).piece; rank = (piece_in nobody live id).rank; result = result_held (entry_at held id) }

-- the live ids are those of some pieces that may stand in entries under the tables of a state
pub record AreOfPieces (state : State) (pieces : List RankedPiece) (live : List LivePiece) (held : IdEntries) : Type 0 where
  pub served : (ranked : RankedPiece) → Contains pieces ranked → IsServedBy state ranked
  pub ids : IsDistinct nat_eq (map (λ one. one.id) live)
  pub entries_are : AreEntriesOf pieces live held

-- a live piece is one of them
pub record IsOfPiece (pieces : List RankedPiece) (live : List LivePiece) (held : IdEntries) (one : LivePiece) : Type 0 where
  pub ranked : RankedPiece
  pub member : Contains pieces ranked
  pub is : piece_by live held one.id ≡ ranked
  pub has : entry_at held one.id ≡ Some (entry_by (piece_by live held) one.id)
  pub piece_is : (piece_by live held one.id).piece ≡ one.piece
  pub rank_is : (piece_by live held one.id).rank ≡ one.rank

-- a live id's piece is the one whose entry it has
pub whole_is : (live : List LivePiece) (held : IdEntries) (one : LivePiece) (ranked : RankedPiece) → IsDistinct nat_eq (map (λ x. x.id) live) → Contains live one
    → ranked.piece ≡ one.piece → ranked.rank ≡ one.rank → entry_at held one.id ≡ Some (entry_for ranked) → piece_by live held one.id ≡ ranked
whole_is live held one ranked ids member p k has =
    let at : piece_in nobody live one.id ≡ one = piece_is nobody live one ids member in
    same_ranked (piece_by live held one.id) ranked (ap (λ x. x.piece) at ∙ sym p) (ap (λ x. x.rank) at ∙ sym k) (ap result_held has)
  where
    same_ranked : (a b : RankedPiece) → a.piece ≡ b.piece → a.rank ≡ b.rank → a.result ≡ b.result → a ≡ b
    same_ranked a b p k r = ap (λ x. record a { piece = x }) p ∙ (ap (λ x. record { piece = b.piece; rank = x; result = a.result }) k ∙ ap (λ x. record { piece = b.piece; rank = b.rank; result = x }) r)

pub read : (state : State) (pieces : List RankedPiece) (live : List LivePiece) (held : IdEntries) (one : LivePiece) → AreOfPieces state pieces live held → Contains live one → IsOfPiece pieces live held one
read state pieces live held one of member =
    let w = of.entries_are.of_piece one member in
    let whole : piece_by live held one.id ≡ w.0 = whole_is live held one w.0 of.ids member w.2 w.3 w.4 in
    record { ranked = w.0; member = w.1; is = whole; has = w.4 ∙ ap (λ x. Some (entry_for x)) (sym whole); piece_is = ap (λ x. x.piece) whole ∙ w.2; rank_is = ap (λ x. x.rank) whole ∙ w.3 }

-- so is that of a known id
pub record IsKnown (pieces : List RankedPiece) (live : List LivePiece) (held : IdEntries) (id : ℕ) : Type 0 where
  pub one : LivePiece
  pub live_one : Contains live one
  pub one_id : one.id ≡ id
  pub ranked : RankedPiece
  pub member : Contains pieces ranked
  pub is : piece_by live held id ≡ ranked

pub known_is : (state : State) (pieces : List RankedPiece) (live : List LivePiece) (held : IdEntries) (id : ℕ) → AreOfPieces state pieces live held → IsLive live id → IsKnown pieces live held id
known_is state pieces live held id of is =
    let w = live_is live id is in let r = read state pieces live held w.0 of w.1 in
    record { one = w.0; live_one = w.1; one_id = w.2; ranked = r.ranked; member = r.member; is = subst (λ z. piece_by live held z ≡ r.ranked) w.2 r.is }

-- a known id's piece is one of them
pub known_member : (state : State) (pieces : List RankedPiece) (live : List LivePiece) (held : IdEntries) (id : ℕ) → AreOfPieces state pieces live held → IsLive live id → Contains pieces (piece_by live held id)
known_member state pieces live held id of is = let k = known_is state pieces live held id of is in subst (Contains pieces) (sym k.is) k.member

-- ids of one piece and rank are one
pub one_piece : (state : State) (pieces : List RankedPiece) (live : List LivePiece) (held : IdEntries) (a b : ℕ) → AreOfPieces state pieces live held → IsLive live a → IsLive live b
    → rank (piece_by live held) a ≡ rank (piece_by live held) b → (piece_by live held a).piece ≡ (piece_by live held b).piece → a ≡ b
one_piece state pieces live held a b of ka kb same_rank same_piece =
    let x = known_is state pieces live held a of ka in let y = known_is state pieces live held b of kb in
    let p = read state pieces live held x.one of x.live_one in let q = read state pieces live held y.one of y.live_one in
    let piece_a : (piece_by live held a).piece ≡ x.one.piece = subst (λ z. (piece_by live held z).piece ≡ x.one.piece) x.one_id p.piece_is in
    let piece_b : (piece_by live held b).piece ≡ y.one.piece = subst (λ z. (piece_by live held z).piece ≡ y.one.piece) y.one_id q.piece_is in
    let rank_a : (piece_by live held a).rank ≡ x.one.rank = subst (λ z. (piece_by live held z).rank ≡ x.one.rank) x.one_id p.rank_is in
    let rank_b : (piece_by live held b).rank ≡ y.one.rank = subst (λ z. (piece_by live held z).rank ≡ y.one.rank) y.one_id q.rank_is in
    let e : x.one.id ≡ y.one.id = of.entries_are.once x.one y.one x.live_one y.live_one (sym rank_a ∙ (same_rank ∙ rank_b)) (sym piece_a ∙ (same_piece ∙ piece_b)) in
    sym x.one_id ∙ (e ∙ y.one_id)

-- ranges that hold the same ports are one
ports_same : (a b : PortRange) → IsPortRange a → IsPortRange b → ((port : ℕ) → port < 2 ^ 16 → range_holds a port ≡ range_holds b port) → a ≡ b
ports_same a b right_a right_b same = ap (λ l. record { lo = l; hi = a.hi }) low ∙ ap (λ h. record { lo = b.lo; hi = h }) high
  where
    held : (x y : PortRange) (port : ℕ) → range_holds x port ≡ range_holds y port → x.lo ≤ port → port ≤ x.hi → range_holds y port ≡ true
    held x y port e above below = sym e ∙ held_from x port above below

    -- what begins and ends within another range, whose ends are ports
    within : (x y : PortRange) → IsPortRange x → ((port : ℕ) → port < 2 ^ 16 → range_holds x port ≡ range_holds y port) → (y.lo ≤ x.lo) × (x.hi ≤ y.hi)
    within x y right each =
        let ordered : x.lo ≤ x.hi = right.ordered in let fits : x.hi < 2 ^ 16 = right.fits in (
          held_low y x.lo (held x y x.lo (each x.lo (omega arith)) (omega arith) ordered),
          held_high y x.hi (held x y x.hi (each x.hi fits) ordered (omega arith)),
        )

    first : (b.lo ≤ a.lo) × (a.hi ≤ b.hi)
    first = within a b right_a same

    second : (a.lo ≤ b.lo) × (b.hi ≤ a.hi)
    second = within b a right_b (λ port small. sym (same port small))

    low : a.lo ≡ b.lo
    low = let x = first.0 in let y = second.0 in omega arith

    high : a.hi ≡ b.hi
    high = let x = first.1 in let y = second.1 in omega arith

-- and so are those that one bit of a table tests
tested_same : (table : List ℕ) (bit : Option ℕ) (a b : PortRange) → IsPortRange a → IsPortRange b → ((one : ℕ) → bit ≡ Some one → IsTranslated table one a)
    → ((one : ℕ) → bit ≡ Some one → IsTranslated table one b) → IfNone bit (a ≡ b) → a ≡ b
tested_same table None a b right_a right_b tests_a tests_b same = same
tested_same table (Some bit) a b right_a right_b tests_a tests_b same =
    ports_same a b right_a right_b (λ port small. sym (tests_a bit refl port small) ∙ tests_b bit refl port small)

-- pieces of the same parts and ranges are one
parts_same : (a b : Piece) → a.sport ≡ b.sport → a.dport ≡ b.dport → SameParts a b → a ≡ b
parts_same a b sport dport same =
    ap (λ x. record a { src = x }) same.src ∙ (ap (λ x. record a { src = b.src; dst = x }) same.dst ∙ (ap (λ x. record a { src = b.src; dst = b.dst; proto = x }) same.proto
    ∙ (ap (λ (x : PortRange). record b { sport = x; dport = a.dport; srcbit = a.srcbit; dstbit = a.dstbit }) sport
    ∙ (ap (λ (x : PortRange). record b { dport = x; srcbit = a.srcbit; dstbit = a.dstbit }) dport
    ∙ (ap (λ (x : Option ℕ). record b { srcbit = x; dstbit = a.dstbit }) same.srcbit ∙ ap (λ (x : Option ℕ). record b { dstbit = x }) same.dstbit)))))

-- so ids whose entries have one match are one
match_apart : (state : State) (pieces : List RankedPiece) (live : List LivePiece) (held : IdEntries) (a b : ℕ) → AreOfPieces state pieces live held → IsLive live a → IsLive live b
    → same_match (entry_by (piece_by live held) a) (entry_by (piece_by live held) b) ≡ true → a ≡ b
match_apart state pieces live held a b of ka kb e =
    let one = (piece_by live held a).piece in let other = (piece_by live held b).piece in
    let x = of.served (piece_by live held a) (known_member state pieces live held a of ka) in
    let y = of.served (piece_by live held b) (known_member state pieces live held b of kb) in
    let same = same_match-parts (piece_by live held a) (piece_by live held b) x.right y.right x.encodable y.encodable e in
    let sport = tested_same state.src one.srcbit one.sport other.sport x.right.sport_right y.right.sport_right x.srcbits (λ bit is. y.srcbits bit (sym same.1.srcbit ∙ is)) same.1.sport in
    let dport = tested_same state.dst one.dstbit one.dport other.dport x.right.dport_right y.right.dport_right x.dstbits (λ bit is. y.dstbits bit (sym same.1.dstbit ∙ is)) same.1.dport in
    one_piece state pieces live held a b of ka kb same.0 (parts_same one other sport dport same.1)

-- the conditions of a live piece are right
pub conditions_of : (state : State) (pieces : List RankedPiece) (live : List LivePiece) (held : IdEntries) (one : LivePiece) → AreOfPieces state pieces live held → Contains live one
    → AreConditions one.piece.src one.piece.dst one.piece.proto one.piece.sport one.piece.dport
conditions_of state pieces live held one of member =
    let w = of.entries_are.of_piece one member in
    subst (λ p. AreConditions p.src p.dst p.proto p.sport p.dport) w.2 (of.served w.0 w.1).right

-- what the index's test says of some of the live ids
reads_some : (state : State) (pieces : List RankedPiece) (all : List LivePiece) (held : IdEntries) (live : List LivePiece) → AreOfPieces state pieces all held → ((one : LivePiece) → Contains live one → Contains all one)
    → Reads (over (piece_by all held)) (rank (piece_by all held)) (IsLive live) (is_above live)
reads_some state pieces all held live of up = record {
  says = λ a b ka kb e. says a b (above_is live a b e);
  told = told;
  mirror = λ a b v. (v.0, v.1, v.3, v.2);
}
  where
    piece : ℕ → RankedPiece
    piece = piece_by all held

    meets : (x y : LivePiece) → Contains live x → Contains live y → IsTrue (pieces_meet x.piece y.piece) ↔ PiecesOverlap x.piece y.piece
    meets x y cx cy = pieces_meet-is x.piece y.piece (conditions_of state pieces all held x of (up x cx)) (conditions_of state pieces all held y of (up y cy))

    says : (a b : ℕ) → IsOver live a b → over piece a b × (rank piece b < rank piece a)
    says a b w =
        let x = read state pieces all held w.upper of (up w.upper w.has_upper) in let y = read state pieces all held w.lower of (up w.lower w.has_lower) in
        let m = (meets w.upper w.lower w.has_upper w.has_lower).0 w.meet in
        let v : over piece w.upper.id w.lower.id = subst (λ z. PiecesOverlap (piece w.upper.id).piece z) (sym y.piece_is) (subst (λ z. PiecesOverlap z w.lower.piece) (sym x.piece_is) m) in
        let less : rank piece w.lower.id < rank piece w.upper.id = subst (λ n. n < rank piece w.upper.id) (sym y.rank_is) (subst (λ n. w.lower.rank < n) (sym x.rank_is) w.less) in (
          subst (λ z. over piece z b) w.upper_id (subst (over piece w.upper.id) w.lower_id v),
          subst (λ z. rank piece b < rank piece z) w.upper_id (subst (λ z. rank piece z < rank piece w.upper.id) w.lower_id less),
        )

    told : (a b : ℕ) → IsLive live a → IsLive live b → over piece a b → rank piece b < rank piece a → is_above live a b ≡ true
    told a b ka kb v l =
        let p = live_is live a ka in let q = live_is live b kb in
        let x = read state pieces all held p.0 of (up p.0 p.1) in let y = read state pieces all held q.0 of (up q.0 q.1) in
        let v' : over piece p.0.id q.0.id = subst (λ z. over piece z q.0.id) (sym p.2) (subst (over piece a) (sym q.2) v) in
        let l' : rank piece q.0.id < rank piece p.0.id = subst (λ z. rank piece q.0.id < rank piece z) (sym p.2) (subst (λ z. rank piece z < rank piece a) (sym q.2) l) in
        let m : PiecesOverlap p.0.piece q.0.piece = subst (λ z. PiecesOverlap z q.0.piece) x.piece_is (subst (λ z. PiecesOverlap (piece p.0.id).piece z) y.piece_is v') in
        let less : q.0.rank < p.0.rank = subst (λ n. n < p.0.rank) y.rank_is (subst (λ n. rank piece q.0.id < n) x.rank_is l') in
        let e = is_above_from live p.0 q.0 p.1 q.1 (and_from (pieces_meet p.0.piece q.0.piece) (nat_lt q.0.rank p.0.rank) ((meets p.0 q.0 p.1 q.1).1 m) (lt-ltb q.0.rank p.0.rank less)) in
        subst (λ z. is_above live z b ≡ true) p.2 (subst (λ z. is_above live p.0.id z ≡ true) q.2 e)

pub readable : (state : State) (pieces : List RankedPiece) (all : List LivePiece) (held : IdEntries) → AreOfPieces state pieces all held → AreReadable held (piece_by all held) all
readable state pieces all held of = record {
  apart = λ a b ka kb e. match_apart state pieces all held a b of ka kb e;
  have = λ id known. let w = live_is all id known in subst (λ z. entry_at held z ≡ Some (entry_by (piece_by all held) z)) w.2 (read state pieces all held w.0 of w.1).has;
  reads = λ live up. reads_some state pieces all held live of up;
}

-- ids of nested pieces are nested
pub nested_ids : (state : State) (pieces : List RankedPiece) (all : List LivePiece) (held : IdEntries) → AreOfPieces state pieces all held → AreNested pieces → AreNestedIds (piece_by all held) all
nested_ids state pieces all held of nested upper id lower ku ki kl over_upper over_lower more less =
    nested (piece_by all held upper) (piece_by all held id) (piece_by all held lower)
    (known_member state pieces all held upper of ku) (known_member state pieces all held id of ki) (known_member state pieces all held lower of kl) more less over_upper over_lower
