-- Live pieces that a search passes over by the columns beside them, and pieces that are found equal.
use Rattle.std.proofs.Common.{◌≡◌, ℕ, zero, suc, Bool, true, false, ◌+◌, ◌-◌, ◌<◌, ◌≤◌, Option, Some, None, List, [], ◌∷◌, ◌++◌, length, map, drop, get_or, arith, inl, inr, refl, sym, ◌∙◌, ap, ap₂, subst, le-leb, eq-eqb, eqb-true, append_assoc}
use Rattle.std.specs.Prelude.{◌==◌, ◌&&◌, not, nat_eq, nat_le, nat_lt}
use Rattle.std.specs.Option.{option_eq}
use Rattle.std.proofs.lemmas.Bool.{both_ways, cases_Bool, cases_lt, cond-true, cond-false, and_parts, and_from, or_left, or_right, not-true, lt-ltb, false_from_ne_true}
use Rattle.std.proofs.lemmas.List.{drop_more, get_or-map, get_or_default}
use Rattle.rule_model.specs.AddressBlock.{AddressBlock}
use Rattle.rule_model.specs.PortRange.{PortRange, is_disjoint}
use Rattle.rule_model.specs.declared.Piece.{Piece}
use Rattle.overlap_index.specs.declared.scan.Side.{Side}
use Rattle.overlap_index.specs.declared.scan.Side.TheVariants.{Above, Below}
use Rattle.placement.specs.declared.LivePiece.{LivePiece}
use Rattle.placement.specs.Live.{is_over}
use Rattle.overlap_index.specs.Sides.{is_on, ids_on}
use Rattle.block_windows.specs.Windows.{first_of, last_of}
use Rattle.block_windows.proofs.Blocks.{meet_near}
use Rattle.overlap_index.specs.Near.{SpanColumns, columns_of, spans_of, is_near}
use Rattle.overlap_index.specs.declared.near.Spans.{Spans}

-- the spans of two pieces have addresses in common, by their destinations and by their sources, and ports
record AreNear (a b : Spans) : Type 0 where
  dst_starts : a.dst.first ≤ b.dst.last
  dst_ends : b.dst.first ≤ a.dst.last
  next_starts : a.next.first ≤ b.next.last
  next_ends : b.next.first ≤ a.next.last
  low_starts : a.low.first ≤ b.low.last
  low_ends : b.low.first ≤ a.low.last
  src_starts : a.src.first ≤ b.src.last
  src_ends : b.src.first ≤ a.src.last
  ports_start : a.ports.first ≤ b.ports.last
  ports_end : b.ports.first ≤ a.ports.last

-- ranges that aren't disjoint have a port in common
ranges_near : (a b : PortRange) → not (is_disjoint a b) ≡ true → (a.lo ≤ b.hi) × (b.lo ≤ a.hi)
ranges_near a b meet = (
  elim (cases_lt b.hi a.lo) [ inl far ↦ absurd (both_ways (is_disjoint a b) (not-true _ meet) (or_right (nat_lt a.hi b.lo) (nat_lt b.hi a.lo) (lt-ltb b.hi a.lo far))) | inr near ↦ near ],
  elim (cases_lt a.hi b.lo) [ inl far ↦ absurd (both_ways (is_disjoint a b) (not-true _ meet) (or_left (nat_lt a.hi b.lo) (nat_lt b.hi a.lo) (lt-ltb a.hi b.lo far))) | inr near ↦ near ],
)

-- the blocks of a piece on one side are near
over_near : (upper lower : LivePiece) → is_over upper lower ≡ true → AreNear (spans_of upper.piece) (spans_of lower.piece)
over_near upper lower e =
    let first_fits : 0 ≤ 96 = omega arith in
    let next_fits : 32 ≤ 96 = omega arith in
    let low_fits : 96 ≤ 96 = omega arith in
    let blocks = (and_parts _ _ (and_parts _ _ (and_parts _ _ (and_parts _ _ e).0).0).0).0 in
    let src = meet_near 0 upper.piece.src lower.piece.src first_fits (and_parts _ _ blocks).0 in
    let dst = meet_near 0 upper.piece.dst lower.piece.dst first_fits (and_parts _ _ blocks).1 in
    let next = meet_near 32 upper.piece.dst lower.piece.dst next_fits (and_parts _ _ blocks).1 in
    let low = meet_near 96 upper.piece.dst lower.piece.dst low_fits (and_parts _ _ blocks).1 in
    let ports = ranges_near upper.piece.dport lower.piece.dport (and_parts _ _ (and_parts _ _ e).0).1 in
    record { dst_starts = dst.0; dst_ends = dst.1; next_starts = next.0; next_ends = next.1; low_starts = low.0; low_ends = low.1; src_starts = src.0; src_ends = src.1; ports_start = ports.0; ports_end = ports.1 }

side_near : (side : Side) (other of : LivePiece) → is_on side other of ≡ true → AreNear (spans_of other.piece) (spans_of of.piece)
side_near Above other of e = over_near other of e
side_near Below other of e = let near = over_near of other e in record { dst_starts = near.dst_ends; dst_ends = near.dst_starts; next_starts = near.next_ends; next_ends = near.next_starts; low_starts = near.low_ends; low_ends = near.low_starts; src_starts = near.src_ends; src_ends = near.src_starts; ports_start = near.ports_end; ports_end = near.ports_start }

-- what the columns hold at a place, and the test of it
near_at : (live : List LivePiece) (k : ℕ) (spans : Spans) (other : LivePiece) → k < length live → get_or live k other ≡ other → AreNear (spans_of other.piece) spans
    → is_near (columns_of live) spans k ≡ true
near_at live k spans other inside at near =
    and_from _ _ (and_from _ _ (and_from _ _ (and_from _ _
    (and_from _ _ (starts (λ one. first_of 0 one.piece.dst) spans.dst.last near.dst_starts) (ends (λ one. last_of 0 one.piece.dst) spans.dst.first near.dst_ends))
    (and_from _ _ (starts (λ one. first_of 32 one.piece.dst) spans.next.last near.next_starts) (ends (λ one. last_of 32 one.piece.dst) spans.next.first near.next_ends)))
    (and_from _ _ (starts (λ one. first_of 96 one.piece.dst) spans.low.last near.low_starts) (ends (λ one. last_of 96 one.piece.dst) spans.low.first near.low_ends)))
    (and_from _ _ (starts (λ one. first_of 0 one.piece.src) spans.src.last near.src_starts) (ends (λ one. last_of 0 one.piece.src) spans.src.first near.src_ends)))
    (and_from _ _ (starts (λ one. one.piece.dport.lo) spans.ports.last near.ports_start) (ends (λ one. one.piece.dport.hi) spans.ports.first near.ports_end))
  where
    holds : (of : LivePiece → ℕ) → get_or (map of live) k 0 ≡ of other
    holds of = get_or-map of live k other 0 inside ∙ ap of at

    starts : (of : LivePiece → ℕ) (n : ℕ) → of other ≤ n → nat_le (get_or (map of live) k 0) n ≡ true
    starts of n l = le-leb _ _ (subst (λ m. m ≤ n) (sym (holds of)) l)

    ends : (of : LivePiece → ℕ) (n : ℕ) → n ≤ of other → nat_le n (get_or (map of live) k 0) ≡ true
    ends of n l = le-leb _ _ (subst (λ m. n ≤ m) (sym (holds of)) l)

-- a piece at a place that isn't near is on no side
far_off : (side : Side) (of : LivePiece) (live : List LivePiece) (k : ℕ) → k < length live → is_near (columns_of live) (spans_of of.piece) k ≡ false
    → is_on side (get_or live k of) of ≡ false
far_off side of live k inside far = false_from_ne_true (is_on side (get_or live k of) of) (λ e.
    let other = get_or live k of in
    both_ways _ far (near_at live k (spans_of of.piece) other inside (get_or_default live k other of inside) (side_near side other of e)))

-- a place that is passed over, and one that is looked at
skip_one : (side : Side) (of : LivePiece) (live : List LivePiece) (k : ℕ) → k < length live → is_on side (get_or live k of) of ≡ false
    → ids_on side of (drop k live) ≡ ids_on side of (drop (k + 1) live)
skip_one side of live k inside off = ap (ids_on side of) (drop_more live k of inside) ∙ ap (map (λ one. one.id)) (cond-false _ _ _ off)

-- a place whose piece isn't on the side is passed
pub pass_miss : (side : Side) (of d : LivePiece) (pieces : List LivePiece) (at : ℕ) → at < length pieces → is_on side (get_or pieces at d) of ≡ false → ids_on side of (drop at pieces) ≡ ids_on side of (drop (at + 1) pieces)
pass_miss side of d pieces at inside off = ap (ids_on side of) (drop_more pieces at d inside) ∙ ap (map (λ (x : LivePiece). x.id)) (cond-false _ _ _ off)

ids_first : (side : Side) (of one : LivePiece) (live : List LivePiece) → ids_on side of (one ∷ live) ≡ ids_on side of (one ∷ []) ++ ids_on side of live
ids_first side of one live = elim (cases_Bool (is_on side one of)) [
  | inl on ↦ ap (map (λ (x : LivePiece). x.id)) (cond-true _ _ _ on) ∙ sym (ap (λ xs. map (λ (x : LivePiece). x.id) xs ++ ids_on side of live) (cond-true _ _ _ on))
  | inr off ↦ ap (map (λ (x : LivePiece). x.id)) (cond-false _ _ _ off) ∙ sym (ap (λ xs. map (λ (x : LivePiece). x.id) xs ++ ids_on side of live) (cond-false _ _ _ off))
]

-- with the ids that were found so far, those of what is left are all there are
pub found_more : (side : Side) (of one : LivePiece) (live : List LivePiece) (k : ℕ) (so_far more all : List ℕ) → k < length live → get_or live k one ≡ one
    → so_far ++ ids_on side of (drop k live) ≡ all → more ≡ so_far ++ ids_on side of (one ∷ []) → more ++ ids_on side of (drop (k + 1) live) ≡ all
found_more side of one live k so_far more all inside at before is =
    ap (λ xs. xs ++ ids_on side of (drop (k + 1) live)) is
    ∙ append_assoc so_far (ids_on side of (one ∷ [])) (ids_on side of (drop (k + 1) live))
    ∙ ap (λ xs. so_far ++ xs) (sym (ids_first side of one (drop (k + 1) live)) ∙ ap (λ x. ids_on side of (x ∷ drop (k + 1) live)) (sym at) ∙ ap (ids_on side of) (sym (drop_more live k one inside)))
    ∙ before

-- places that aren't near are passed over
skip_far : (side : Side) (of : LivePiece) (live : List LivePiece) (at n : ℕ) → at + n ≤ length live
    → ((k : ℕ) → at ≤ k → k < at + n → is_near (columns_of live) (spans_of of.piece) k ≡ false) → ids_on side of (drop at live) ≡ ids_on side of (drop (at + n) live)
skip_far side of live at zero room far = let same : at + 0 ≡ at = omega arith in ap (λ k. ids_on side of (drop k live)) (sym same)
skip_far side of live at (suc n) room far =
    let same : at + n + 1 ≡ at + suc n = omega arith in
    skip_far side of live at n (omega arith) (λ k a b. far k a (omega arith))
    ∙ skip_one side of live (at + n) (omega arith) (far_off side of live (at + n) (omega arith) (far (at + n) (omega arith) (omega arith)))
    ∙ ap (λ k. ids_on side of (drop k live)) same

-- places that a search passed over by the columns, so that what was found stays as it is
pub found_still : (side : Side) (of : LivePiece) (live : List LivePiece) (columns : SpanColumns) (spans : Spans) (at next : ℕ) (so_far all : List ℕ) → columns ≡ columns_of live
    → spans ≡ spans_of of.piece → at ≤ next → next ≤ length live → ((k : ℕ) → at ≤ k → k < next → is_near columns spans k ≡ false)
    → so_far ++ ids_on side of (drop at live) ≡ all → so_far ++ ids_on side of (drop next live) ≡ all
found_still side of live columns spans at next so_far all are is after room far before =
    let same : at + (next - at) ≡ next = omega arith in
    let skipped : ids_on side of (drop at live) ≡ ids_on side of (drop (at + (next - at)) live) =
    skip_far side of live at (next - at) (omega arith) (λ k a b. ap₂ (λ c s. is_near c s k) (sym are) (sym is) ∙ far k a (omega arith)) in
    ap (λ xs. so_far ++ xs) (sym (skipped ∙ ap (λ k. ids_on side of (drop k live)) same)) ∙ before

-- pieces whose conditions and bits are equal, by the tests that compare them
abbrev equal_pieces : Piece → Piece → Bool
equal_pieces a b =
    (a.src.addr == b.src.addr && a.src.len == b.src.len)
    && ((a.dst.addr == b.dst.addr && a.dst.len == b.dst.len)
    && (option_eq nat_eq a.proto b.proto
    && ((a.sport.lo == b.sport.lo && a.sport.hi == b.sport.hi)
    && ((a.dport.lo == b.dport.lo && a.dport.hi == b.dport.hi)
    && (option_eq nat_eq a.srcbit b.srcbit && option_eq nat_eq a.dstbit b.dstbit)))))

same_option : (a : Option ℕ) → option_eq nat_eq a a ≡ true
same_option None = refl
same_option (Some n) = eq-eqb n n refl

-- a piece equals itself
pub same_is_equal : (a b : Piece) → a ≡ b → equal_pieces a b ≡ true
same_is_equal a b same = subst (λ p. equal_pieces a p ≡ true) same
    (and_from _ _ (two a.src.addr a.src.len) (and_from _ _ (two a.dst.addr a.dst.len) (and_from _ _ (same_option a.proto)
    (and_from _ _ (two a.sport.lo a.sport.hi) (and_from _ _ (two a.dport.lo a.dport.hi) (and_from _ _ (same_option a.srcbit) (same_option a.dstbit)))))))
  where
    two : (m n : ℕ) → (m == m && n == n) ≡ true
    two m n = and_from _ _ (eq-eqb m m refl) (eq-eqb n n refl)

option_is_same : (a b : Option ℕ) → option_eq nat_eq a b ≡ true → a ≡ b
option_is_same None None e = refl
option_is_same (Some m) (Some n) e = ap Some (eqb-true m n e)
option_is_same None (Some n) e = absurd (both_ways false refl e)
option_is_same (Some m) None e = absurd (both_ways false refl e)

block_is_same : (a b : AddressBlock) → (a.addr == b.addr && a.len == b.len) ≡ true → a ≡ b
block_is_same a b e =
    let both = and_parts _ _ e in
    ap₂ (λ m n. record { addr = m; len = n }) (eqb-true a.addr b.addr both.0) (eqb-true a.len b.len both.1)

range_is_same : (a b : PortRange) → (a.lo == b.lo && a.hi == b.hi) ≡ true → a ≡ b
range_is_same a b e =
    let both = and_parts _ _ e in
    ap₂ (λ m n. record { lo = m; hi = n }) (eqb-true a.lo b.lo both.0) (eqb-true a.hi b.hi both.1)

-- pieces that the tests find equal are
pub equal_is_same : (a b : Piece) → equal_pieces a b ≡ true → a ≡ b
equal_is_same a b e =
    let after_src = and_parts _ _ e in
    let after_dst = and_parts _ _ after_src.1 in
    let after_proto = and_parts _ _ after_dst.1 in
    let after_sport = and_parts _ _ after_proto.1 in
    let after_dport = and_parts _ _ after_sport.1 in
    let bits = and_parts _ _ after_dport.1 in
    let src : a.src ≡ b.src = block_is_same a.src b.src after_src.0 in
    let dst : a.dst ≡ b.dst = block_is_same a.dst b.dst after_dst.0 in
    let proto : a.proto ≡ b.proto = option_is_same a.proto b.proto after_proto.0 in
    let sport : a.sport ≡ b.sport = range_is_same a.sport b.sport after_sport.0 in
    let dport : a.dport ≡ b.dport = range_is_same a.dport b.dport after_dport.0 in
    let srcbit : a.srcbit ≡ b.srcbit = option_is_same a.srcbit b.srcbit bits.0 in
    let dstbit : a.dstbit ≡ b.dstbit = option_is_same a.dstbit b.dstbit bits.1 in
    ap₂ (λ s d. record { src = s; dst = d; proto = a.proto; sport = a.sport; dport = a.dport; srcbit = a.srcbit; dstbit = a.dstbit }) src dst
    ∙ ap₂ (λ s d. record { src = b.src; dst = b.dst; proto = a.proto; sport = s; dport = d; srcbit = a.srcbit; dstbit = a.dstbit }) sport dport
    ∙ ap₂ (λ s d. record { src = b.src; dst = b.dst; proto = a.proto; sport = b.sport; dport = b.dport; srcbit = s; dstbit = d }) srcbit dstbit
    ∙ ap (λ p. record { src = b.src; dst = b.dst; proto = p; sport = b.sport; dport = b.dport; srcbit = b.srcbit; dstbit = b.dstbit }) proto
