-- The ids of a set's pieces are as many as the pieces, and pieces that differ have different ids.
use Rattle.std.proofs.Common.{◌≡◌, ℕ, ◌≤◌, true, false, List, [], ◌∷◌, length, map, Contains, eqb-true, inl, inr, sym, ap, ap₂, subst, ◌∙◌, arith}
use Rattle.std.specs.Prelude.{nat_eq}
use Rattle.std.specs.List.{AllByRecursion, AllZip, IsDistinct}
use Rattle.std.specs.Set.{is_member}
use Rattle.std.specs.Cmp.{nat_eq_equiv}
use Rattle.std.proofs.lemmas.Bool.{cases_Bool, false_from_ne_true}
use Rattle.std.proofs.lemmas.Bool.Decides.{Decides-eqb}
use Rattle.std.proofs.lemmas.List.{length-map}
use Rattle.std.proofs.lemmas.List.Elements.{All-contains}
use Rattle.std.proofs.lemmas.Map.Made.{length-from_same_keys, length-le_from_is_member, is_member-Decides}
use Rattle.std.proofs.lemmas.Slice.Zip.{AllZip-long}
use Rattle.slot_order.specs.Order.{most_slots}
use Rattle.slot_order.proofs.Lists.{contains_head, contains_tail, in_map, map_in}
use Rattle.slot_pool.specs.Arrangement.{Slots}
use Rattle.placement.specs.declared.LivePiece.{LivePiece}
use Rattle.placement.specs.Live.{AreApart}
use Rattle.placement.proofs.Above.{piece_in, piece_is}
use Rattle.rule_model.specs.declared.Piece.{Piece}
use Rattle.rule_model.specs.declared.Rule.{Rule}
use Rattle.rule_model.proofs.Pairs.{pairs_head, pairs_tail}
use Rattle.rule_model.specs.RuleSet.{IsRuleSet}
use Rattle.rule_store.specs.declared.Mode.{Mode}
use Rattle.rule_store.specs.Verdict.{entries_of}
use Rattle.rule_model.specs.Entry.{RankedPiece}
use Rattle.commit_writes.specs.Bits.{FieldBits}
use Rattle.commit_writes.specs.Shape.{set_pieces}
use Rattle.commit_writes.specs.Planned.{IdEntries, AreEntriesOf}
use Rattle.commit_writes.specs.PlannedBatch.{IsIdOf}
use Rattle.commit_writes.proofs.PieceCounts.{entries_pieces}
use Rattle.commit_writes.proofs.SetPieces.{AreOnce, pieces_once}
use Rattle.commit_writes.proofs.Zips.{zip_left, zip_right}
use Rattle.batch_order.specs.Entries.{Entries as Kept}
use Rattle.batch_order.specs.Kept.{IsArranged}

-- lists of numbers, each once, with the same members are of one length
pub same_length : (xs ys : List ℕ) → IsDistinct nat_eq xs → IsDistinct nat_eq ys → ((n : ℕ) → Contains xs n → Contains ys n) → ((n : ℕ) → Contains ys n → Contains xs n) → length xs ≡ length ys
same_length xs ys once_x once_y to from = length-from_same_keys nat_eq_equiv xs ys once_x once_y same
  where
    same : (n : ℕ) → is_member nat_eq xs n ≡ is_member nat_eq ys n
    same n = elim (cases_Bool (is_member nat_eq xs n)) [
      | inl here ↦ here ∙ sym ((is_member-Decides Decides-eqb ys n).1 (to n ((is_member-Decides Decides-eqb xs n).0 here)))
      | inr absent ↦ absent ∙ sym (false_from_ne_true _ (λ there.
          let bad : true ≡ false = sym ((is_member-Decides Decides-eqb xs n).1 (from n ((is_member-Decides Decides-eqb ys n).0 there))) ∙ absent in cc))
    ]

-- live pieces of one id are one
pub one_live : (slots : ℕ) (live : List LivePiece) (a b : LivePiece) → AreApart slots live → Contains live a → Contains live b → a.id ≡ b.id → a ≡ b
one_live slots live a b apart in_a in_b same = sym (piece_is a live a apart.once in_a) ∙ (ap (piece_in a live) same ∙ piece_is a live b apart.once in_b)

-- two that aren't one piece of one rank
abbrev Differs : RankedPiece → RankedPiece → Type 0
Differs a b = a.rank ≡ b.rank → a.piece ≡ b.piece → ⊥

-- the ids of pieces that differ are distinct
pub ids_apart : (slots : ℕ) (live : List LivePiece) (pieces : List RankedPiece) (ids : List ℕ) → AreApart slots live → AreOnce pieces → AllZip (IsIdOf live) pieces ids → IsDistinct nat_eq ids
unfolding IsDistinct
ids_apart slots live [] [] apart once are = tt
ids_apart slots live [] (id ∷ ids) apart once are = absurd are
ids_apart slots live (ranked ∷ pieces) [] apart once are = absurd are
ids_apart slots live (ranked ∷ pieces) (id ∷ ids) apart once are = (
  each pieces ids are.1 (λ other member. All-contains (Differs ranked) pieces other (pairs_head Differs ranked pieces once) member),
  ids_apart slots live pieces ids apart (pairs_tail Differs ranked pieces once) are.1,
)
  where
    own : IsIdOf live ranked id
    own = are.0

    each : (some : List RankedPiece) (those : List ℕ) → AllZip (IsIdOf live) some those
        → ((other : RankedPiece) → Contains some other → Differs ranked other) → AllByRecursion (λ other. nat_eq id other ≡ false) those
    each [] [] zip differ = tt
    each [] (n ∷ those) zip differ = absurd zip
    each (other ∷ some) [] zip differ = absurd zip
    each (other ∷ some) (n ∷ those) zip differ = (
      false_from_ne_true (nat_eq id n) (λ same. differ_apart other n zip.0 (differ other (contains_head other some)) (eqb-true id n same)),
      each some those zip.1 (λ later member. differ later (contains_tail other later some member)),
    )
      where
        differ_apart : (piece : RankedPiece) (at : ℕ) → IsIdOf live piece at → Differs ranked piece → id ≡ at → ⊥
        differ_apart piece at is apart_from same =
            let one = one_live slots live (record { id = id; piece = ranked.piece; rank = ranked.rank }) (record { id = at; piece = piece.piece; rank = piece.rank }) apart own is same in
            apart_from (ap (λ (l : LivePiece). l.rank) one) (ap (λ (l : LivePiece). l.piece) one)

-- and they are no more than the live ones
pub ids_few : (slots : ℕ) (live : List LivePiece) (pieces : List RankedPiece) (ids : List ℕ) → AreApart slots live → AreOnce pieces → AllZip (IsIdOf live) pieces ids → length ids ≤ length live
ids_few slots live pieces ids apart once are =
    let fewer : length ids ≤ length (map (λ (one : LivePiece). one.id) live) = length-le_from_is_member nat_eq_equiv ids (map (λ (one : LivePiece). one.id) live) (ids_apart slots live pieces ids apart once are) (λ n here.
    let found = zip_right (IsIdOf live) pieces ids n are ((is_member-Decides Decides-eqb ids n).0 here) in
    (is_member-Decides Decides-eqb (map (λ (one : LivePiece). one.id) live) n).1 (map_in (λ (one : LivePiece). one.id) live (record { id = n; piece = found.0.piece; rank = found.0.rank }) found.2)) in
    let same = length-map live (λ (one : LivePiece). one.id) in
    omega arith

-- some pieces that are live have ids
some_ids : (live : List LivePiece) (pieces : List RankedPiece) → ((ranked : RankedPiece) → Contains pieces ranked → (id : ℕ) × IsIdOf live ranked id) → (ids : List ℕ) × AllZip (IsIdOf live) pieces ids
some_ids live [] has = ([], tt)
some_ids live (ranked ∷ pieces) has =
    let first = has ranked (contains_head ranked pieces) in
    let rest = some_ids live pieces (λ other member. has other (contains_tail ranked other pieces member)) in
    (first.0 ∷ rest.0, (first.1, rest.1))

-- pieces that differ have as many live ids as there are pieces
pub as_many : (pieces : List RankedPiece) (slots : ℕ) (live : List LivePiece) (entries : IdEntries) → AreOnce pieces → AreApart slots live → AreEntriesOf pieces live entries → length live ≡ length pieces
as_many pieces slots live entries once apart are =
    sym (length-map live (λ (one : LivePiece). one.id))
    ∙ (same_length (map (λ (one : LivePiece). one.id) live) own.0 apart.once (ids_apart slots live pieces own.0 apart once own.1) to from
    ∙ AllZip-long (IsIdOf live) pieces own.0 own.1)
  where
    own : (ids : List ℕ) × AllZip (IsIdOf live) pieces ids
    own = some_ids live pieces (λ ranked member.
        let has = are.has_id ranked member in
        (has.0.id, subst (Contains live) (same_live has.0 ranked (sym has.2) (sym has.3)) has.1))
      where
        same_live : (one : LivePiece) (ranked : RankedPiece) → one.piece ≡ ranked.piece → one.rank ≡ ranked.rank → one ≡ record { id = one.id; piece = ranked.piece; rank = ranked.rank }
        same_live one ranked piece rank = ap₂ (λ (p : Piece) (r : ℕ). let l : LivePiece = record { id = one.id; piece = p; rank = r } in l) piece rank

    to : (n : ℕ) → Contains (map (λ (one : LivePiece). one.id) live) n → Contains own.0 n
    to n member =
        let found = in_map (λ (one : LivePiece). one.id) live n member in
        let of = are.of_piece found.0 found.1 in
        let id = zip_left (IsIdOf live) pieces own.0 of.0 own.1 of.1 in
        subst (Contains own.0) (are.once (record { id = id.0; piece = of.0.piece; rank = of.0.rank }) found.0 id.2 found.1 of.3 of.2 ∙ found.2) id.1

    from : (n : ℕ) → Contains own.0 n → Contains (map (λ (one : LivePiece). one.id) live) n
    from n member =
        let found = zip_right (IsIdOf live) pieces own.0 n own.1 member in
        map_in (λ (one : LivePiece). one.id) live (record { id = n; piece = found.0.piece; rank = found.0.rank }) found.2

-- so a set whose entries are arranged has as many live ids as it takes entries
pub arranged_number : (mode : Mode) (bits : FieldBits) (rules : List Rule) (kept : Kept) (slots : Slots) → IsRuleSet rules → IsArranged mode bits rules kept slots → length kept.live ≡ entries_of mode rules
arranged_number mode bits rules kept slots set arranged =
    as_many (set_pieces mode bits rules) kept.slots kept.live kept.entries (pieces_once mode bits rules set) arranged.settled.apart arranged.entries_are ∙ sym (entries_pieces mode bits rules)

-- which are few
pub arranged_few : (mode : Mode) (bits : FieldBits) (rules : List Rule) (kept : Kept) (slots : Slots) → IsRuleSet rules → IsArranged mode bits rules kept slots → entries_of mode rules ≤ most_slots
arranged_few mode bits rules kept slots set arranged =
    let number : length kept.live ≡ entries_of mode rules = arranged_number mode bits rules kept slots set arranged in
    let count = arranged.settled.count in
    let most = arranged.settled.few in
    omega arith
