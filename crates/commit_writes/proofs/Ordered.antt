-- The device is in order before, during and after a planned row.
use Rattle.std.proofs.Common.{◌≡◌, ℕ, Some, List, [], ◌++◌, map, take, slice_get, Contains, inl, inr, sym, ◌∙◌, subst, ap, append-nil}
use Rattle.std.specs.Prelude.{◌↔◌}
use Rattle.std.proofs.lemmas.List.{take-map}
use Rattle.std.proofs.lemmas.List.Elements.{Contains-append_left, Contains-append_right, Contains-append_cases}
use Rattle.slot_order.proofs.Lists.{contains_none, contains_take, in_map, map_in}
use Rattle.slot_pool.specs.Arrangement.{Slots}
use Rattle.rule_model.specs.Entry.{RankedPiece, entry_for}
use Rattle.placement.specs.declared.LivePiece.{LivePiece}
use Rattle.placement.proofs.Above.{live_is, is_live_from}
use Rattle.placement.specs.Insertion.{IsLive}
use Rattle.tcam_device.specs.State.{State, state_after}
use Rattle.tcam_device.specs.Order.{IsOrdered, StandsOnce}
use Rattle.tcam_device.specs.Insertion.{Insertion, insertions}
use Rattle.commit_writes.specs.Planned.{IdEntries, Planned, IsPlannedRow, entry_at, ranked_of, contents, with_slots, planned_writes, live_after, slots_after}
use Rattle.commit_writes.proofs.Mirror.{Pieces, IsOrdered_same, StandsOnce_same}
use Rattle.commit_writes.proofs.Ids.{whole_is}
use Rattle.commit_writes.proofs.Members.{of_row}
use Rattle.commit_writes.proofs.Row.{whole_insertions}
use Rattle.commit_writes.proofs.Start.{contents_are, commit_piece, planned_piece, commit_readable, commit_first, commit_done, commit_makes}

-- the pieces of the standing ids and of some new ones
members : (state : State) (standing inserted : List RankedPiece) (live : List LivePiece) (slots : Slots) (entries : IdEntries) (planned some : List Planned) → IsPlannedRow state standing inserted live slots entries planned
    → ((p : Planned) → Contains some p → Contains planned p)
    → (ranked : RankedPiece) → Pieces (commit_piece live entries planned) (IsLive (live_after live some)) ranked ↔ Contains (standing ++ map ranked_of some) ranked
members state standing inserted live slots entries planned some row up ranked = (to, from)
  where
    old_is : (one : LivePiece) (held : RankedPiece) → Contains live one → held.piece ≡ one.piece → held.rank ≡ one.rank → entry_at entries one.id ≡ Some (entry_for held) → commit_piece live entries planned one.id ≡ held
    old_is one held member = whole_is (live_after live planned) entries one held (of_row state standing inserted live slots entries planned row).ids (Contains-append_left live (map (λ insertion. insertion.one) planned) one member)

    new_is : (p : Planned) → Contains some p → commit_piece live entries planned p.one.id ≡ ranked_of p
    new_is p member = planned_piece state standing inserted live slots entries planned p row (up p member)

    piece_in_list : (one : LivePiece) → Contains (live_after live some) one → Contains (standing ++ map ranked_of some) (commit_piece live entries planned one.id)
    piece_in_list one member = elim (Contains-append_cases live (map (λ insertion. insertion.one) some) one member) [
      | inl old ↦ let w = row.entries_are.of_piece one old in
          subst (Contains (standing ++ map ranked_of some)) (sym (old_is one w.0 old w.2 w.3 w.4)) (Contains-append_left standing (map ranked_of some) w.0 w.1)
      | inr new ↦ let w = in_map (λ insertion. insertion.one) some one new in
          subst (λ x. Contains (standing ++ map ranked_of some) (commit_piece live entries planned x.id)) w.2
          (subst (Contains (standing ++ map ranked_of some)) (sym (new_is w.0 w.1)) (Contains-append_right standing (map ranked_of some) (ranked_of w.0) (map_in ranked_of some w.0 w.1)))
    ]

    to : Pieces (commit_piece live entries planned) (IsLive (live_after live some)) ranked → Contains (standing ++ map ranked_of some) ranked
    to m = let w = live_is (live_after live some) m.0 m.1 in
        subst (Contains (standing ++ map ranked_of some)) (ap (commit_piece live entries planned) w.2 ∙ m.2) (piece_in_list w.0 w.1)

    from : Contains (standing ++ map ranked_of some) ranked → Pieces (commit_piece live entries planned) (IsLive (live_after live some)) ranked
    from member = elim (Contains-append_cases standing (map ranked_of some) ranked member) [
      | inl old ↦ let w = row.entries_are.has_id ranked old in
          (w.0.id, is_live_from (live_after live some) w.0 (Contains-append_left live (map (λ insertion. insertion.one) some) w.0 w.1), old_is w.0 ranked w.1 w.2 w.3 w.4)
      | inr new ↦ let w = in_map ranked_of some ranked new in (
        w.0.one.id,
        is_live_from (live_after live some) w.0.one (Contains-append_right live (map (λ insertion. insertion.one) some) w.0.one (map_in (λ insertion. insertion.one) some w.0 w.1)),
        new_is w.0 w.1 ∙ w.2,
      )
    ]

-- and of the first of them
first_members : (state : State) (standing inserted : List RankedPiece) (live : List LivePiece) (slots : Slots) (entries : IdEntries) (planned : List Planned) (k : ℕ) → IsPlannedRow state standing inserted live slots entries planned
    → (ranked : RankedPiece) → Pieces (commit_piece live entries planned) (IsLive (live_after live (take k planned))) ranked
    ↔ Contains (standing ++ take k inserted) ranked
first_members state standing inserted live slots entries planned k row ranked =
    subst (λ (some : List RankedPiece). Pieces (commit_piece live entries planned) (IsLive (live_after live (take k planned))) ranked ↔ Contains (standing ++ some) ranked)
    (sym (take-map ranked_of k planned) ∙ ap (take k) row.inserted_are)
    (members state standing inserted live slots entries planned (take k planned) row (λ p member. let c = contains_take k planned p member in (c.0, c.2, c.3)) ranked)

-- after each of a planned row's writes the device is in order for the standing pieces and the first of the new ones,
pub planned_ordered : (state : State) (standing inserted : List RankedPiece) (live : List LivePiece) (slots : Slots) (entries : IdEntries) (planned : List Planned) (n : ℕ)
    → IsPlannedRow state standing inserted live slots entries planned
    → IsOrdered (state_after state (take n (planned_writes entries planned)))
    (Contains (standing ++ take (whole_insertions planned n) inserted))
planned_ordered state standing inserted live slots entries planned n row =
    let count = whole_insertions planned n in
    IsOrdered_same (state_after state (take n (planned_writes entries planned)))
    (Pieces (commit_piece live entries planned) (IsLive (live_after live (take count planned)))) (Contains (standing ++ take count inserted))
    (first_members state standing inserted live slots entries planned count row) ((commit_done state standing inserted live slots entries planned row).during n)

-- where one of its insertions begins each of those pieces stands in one slot,
pub planned_between : (state : State) (standing inserted : List RankedPiece) (live : List LivePiece) (slots : Slots) (entries : IdEntries) (planned : List Planned) (k : ℕ) (insertion : Insertion)
    → IsPlannedRow state standing inserted live slots entries planned
    → slice_get (insertions state (planned_writes entries planned)) k ≡ Some insertion
    → StandsOnce insertion.before (Contains (standing ++ take k inserted))
planned_between state standing inserted live slots entries planned k insertion row read =
    StandsOnce_same insertion.before (Pieces (commit_piece live entries planned) (IsLive (live_after live (take k planned)))) (Contains (standing ++ take k inserted))
    (first_members state standing inserted live slots entries planned k row)
    ((commit_done state standing inserted live slots entries planned row).between k insertion
    (ap (λ (all : List Insertion). slice_get all k) (sym (commit_makes state standing inserted live slots entries planned row)) ∙ read))

-- and before the first for those that stood alone
pub planned_first : (state : State) (standing inserted : List RankedPiece) (live : List LivePiece) (slots : Slots) (entries : IdEntries) (planned : List Planned)
    → IsPlannedRow state standing inserted live slots entries planned
    → IsOrdered state (Contains standing)
planned_first state standing inserted live slots entries planned row =
    subst (λ some. IsOrdered state (Contains some)) (append-nil standing)
    (IsOrdered_same state (Pieces (commit_piece live entries planned) (IsLive (live_after live []))) (Contains (standing ++ map ranked_of []))
    (members state standing inserted live slots entries planned [] row (λ p none. absurd (contains_none p none)))
    (subst (λ some. IsOrdered state (Pieces (commit_piece live entries planned) (IsLive some))) (sym (append-nil live)) (commit_first state standing inserted live slots entries planned row)))

same_state : (a b : State) → a.slots ≡ b.slots → a.src ≡ b.src → a.dst ≡ b.dst → a ≡ b
same_state a b slots src dst = ap (λ x. record a { slots = x }) slots ∙ (ap (λ x. record { slots = b.slots; src = x; dst = a.dst }) src ∙ ap (λ x. record { slots = b.slots; src = b.src; dst = x }) dst)

-- its writes lead to the arrangement that was planned
pub planned_state : (state : State) (standing inserted : List RankedPiece) (live : List LivePiece) (slots : Slots) (entries : IdEntries) (planned : List Planned)
    → IsPlannedRow state standing inserted live slots entries planned
    → state_after state (planned_writes entries planned) ≡ with_slots state (contents entries (slots_after slots planned))
planned_state state standing inserted live slots entries planned row =
    let all = live_after live planned in
    let done = commit_done state standing inserted live slots entries planned row in
    let ready = commit_readable state standing inserted live slots entries planned row in
    same_state (state_after state (planned_writes entries planned)) (with_slots state (contents entries (slots_after slots planned)))
    (done.changed.slots ∙ sym (contents_are entries (commit_piece live entries planned) (IsLive all) (slots_after slots planned) ready.have done.within)) done.changed.src done.changed.dst
