-- The device before a planned row, which mirrors the arrangement of the standing ids, and what the row's writes do to it.
use Rattle.std.proofs.Common.{◌≡◌, ℕ, suc, true, false, None, Some, List, [], ◌∷◌, ◌++◌, map, Contains, inl, inr, refl, sym, ◌∙◌, subst, ap, ap₂}
use Rattle.std.proofs.lemmas.Bool.{cases_lt}
use Rattle.std.proofs.lemmas.List.Elements.{Contains-append_left, Contains-append_right}
use Rattle.slot_order.specs.Order.{Ordered}
use Rattle.slot_order.proofs.Images.{entries}
use Rattle.slot_order.proofs.Lists.{AllByRecursion-member, map_in}
use Rattle.slot_pool.specs.Arrangement.{Slots}
use Rattle.rule_model.specs.Entry.{RankedPiece, entry_for}
use Rattle.tcam_device.specs.Order.{IsOrdered}
use Rattle.placement.specs.declared.LivePiece.{LivePiece}
use Rattle.placement.specs.Live.{is_above}
use Rattle.placement.specs.Insertion.{IsLive}
use Rattle.placement.proofs.Chain.{Reads, AllKnown}
use Rattle.tcam_device.specs.State.{State}
use Rattle.tcam_device.specs.Insertion.{insertions}
use Rattle.commit_writes.specs.Planned.{IdEntries, Planned, IsServedBy, IsPlannedRow, AreArranged, entry_at, contents, planned_writes, live_after, ranked_of}
use Rattle.commit_writes.proofs.Mirror.{Pieces, entry_by, over, rank, ordered_state, served_hits}
use Rattle.commit_writes.proofs.Bridge.{HaveEntries}
use Rattle.commit_writes.proofs.Row.{AreReadable, AreDone, made_by, live_up, done_all}
use Rattle.commit_writes.proofs.Counted.{made_alone}
use Rattle.commit_writes.proofs.Ids.{whole_is, piece_by, known_member, readable}
use Rattle.commit_writes.proofs.Members.{of_row}

-- where known ids stand, the slots hold the entries of their pieces
pub contents_are : (held : IdEntries) (piece : ℕ → RankedPiece) (Known : ℕ → Type 0) (slots : Slots) → HaveEntries held piece Known → AllKnown Known slots
    → contents held slots ≡ entries (entry_by piece) slots
contents_are held piece Known [] have all = refl
contents_are held piece Known (None ∷ slots) have all = ap (λ rest. None ∷ rest) (contents_are held piece Known slots have (λ at id s. all (suc at) id s))
contents_are held piece Known (Some id ∷ slots) have all =
    ap₂ (λ first rest. first ∷ rest) (have id (all 0 id refl)) (contents_are held piece Known slots have (λ at other s. all (suc at) other s))

-- an arrangement in order
pub arranged_ordered : (piece : ℕ → RankedPiece) (live : List LivePiece) (slots : Slots) → Reads (over piece) (rank piece) (IsLive live) (is_above live) → AreArranged live slots
    → Ordered (over piece) (rank piece) (IsLive live) slots
arranged_ordered piece live slots reads arranged = record {
  within = arranged.standing.within;
  placed = arranged.standing.placed;
  sorted = λ i j first second l a b v. elim (cases_lt (rank piece first) (rank piece second)) [
    | inr least ↦ least
    | inl more ↦ absurd (
        let above : is_above live second first ≡ true = reads.told second first (arranged.standing.within j second b) (arranged.standing.within i first a) (reads.mirror first second v) more in
        let wrong : true ≡ false = sym above ∙ arranged.order i j first second l a b in
        cc)
  ];
}

-- the pieces of a planned row's ids
abbrev pub commit_piece : List LivePiece → IdEntries → List Planned → ℕ → RankedPiece
commit_piece live entries planned = piece_by (live_after live planned) entries

-- the piece of a new id is the one that was planned
pub planned_piece : (state : State) (standing inserted : List RankedPiece) (live : List LivePiece) (slots : Slots) (held : IdEntries) (planned : List Planned) (one : Planned) → IsPlannedRow state standing inserted live slots held planned
    → Contains planned one → commit_piece live held planned one.one.id ≡ ranked_of one
planned_piece state standing inserted live slots held planned one row member =
    whole_is (live_after live planned) held one.one (ranked_of one) (of_row state standing inserted live slots held planned row).ids
    (Contains-append_right live (map (λ insertion. insertion.one) planned) one.one (map_in (λ insertion. insertion.one) planned one member)) refl refl
    (AllByRecursion-member (λ insertion. entry_at held insertion.one.id ≡ Some (entry_for (ranked_of insertion))) planned one row.have_entries member)

-- what is known of its ids
pub commit_readable : (state : State) (standing inserted : List RankedPiece) (live : List LivePiece) (slots : Slots) (held : IdEntries) (planned : List Planned) → IsPlannedRow state standing inserted live slots held planned
    → AreReadable held (commit_piece live held planned) (live_after live planned)
commit_readable state standing inserted live slots held planned row = readable state (standing ++ inserted) (live_after live planned) held (of_row state standing inserted live slots held planned row)

-- the ids before it are live after it too
pub old_live : (live : List LivePiece) (planned : List Planned) (id : ℕ) → IsLive live id → IsLive (live_after live planned) id
old_live live planned id is = live_up live (live_after live planned) (λ one member. Contains-append_left live (map (λ insertion. insertion.one) planned) one member) id is

-- the tables serve their pieces
members_served : (state : State) (standing inserted : List RankedPiece) (live : List LivePiece) (slots : Slots) (held : IdEntries) (planned : List Planned) → IsPlannedRow state standing inserted live slots held planned
    → (ranked : RankedPiece) → Pieces (commit_piece live held planned) (IsLive (live_after live planned)) ranked → IsServedBy state ranked
members_served state standing inserted live slots held planned row ranked m =
    let of = of_row state standing inserted live slots held planned row in
    subst (IsServedBy state) m.2 (of.served (commit_piece live held planned m.0) (known_member state (standing ++ inserted) (live_after live planned) held m.0 of m.1))

-- before it the device mirrors the arrangement,
mirrored : (state : State) (standing inserted : List RankedPiece) (live : List LivePiece) (slots : Slots) (held : IdEntries) (planned : List Planned) → IsPlannedRow state standing inserted live slots held planned
    → state.slots ≡ entries (entry_by (commit_piece live held planned)) slots
mirrored state standing inserted live slots held planned row =
    row.mirrors ∙ contents_are held (commit_piece live held planned) (IsLive (live_after live planned)) slots (commit_readable state standing inserted live slots held planned row).have
    (λ at id s. old_live live planned id (row.arranged.standing.within at id s))

-- which is in order
begins : (state : State) (standing inserted : List RankedPiece) (live : List LivePiece) (slots : Slots) (held : IdEntries) (planned : List Planned) → IsPlannedRow state standing inserted live slots held planned
    → Ordered (over (commit_piece live held planned)) (rank (commit_piece live held planned)) (IsLive live) slots
begins state standing inserted live slots held planned row =
    arranged_ordered (commit_piece live held planned) live slots ((commit_readable state standing inserted live slots held planned row).reads live (λ one member. Contains-append_left live (map (λ insertion. insertion.one) planned) one member)) row.arranged

pub commit_first : (state : State) (standing inserted : List RankedPiece) (live : List LivePiece) (slots : Slots) (held : IdEntries) (planned : List Planned) → IsPlannedRow state standing inserted live slots held planned
    → IsOrdered state (Pieces (commit_piece live held planned) (IsLive live))
commit_first state standing inserted live slots held planned row =
    ordered_state (commit_piece live held planned) (IsLive live) (IsLive (live_after live planned)) slots state (commit_readable state standing inserted live slots held planned row).apart (old_live live planned)
    (mirrored state standing inserted live slots held planned row) (begins state standing inserted live slots held planned row)

-- what a planned row's writes do
pub commit_done : (state : State) (standing inserted : List RankedPiece) (live : List LivePiece) (slots : Slots) (held : IdEntries) (planned : List Planned) → IsPlannedRow state standing inserted live slots held planned
    → AreDone held (commit_piece live held planned) (live_after live planned) live slots state planned
commit_done state standing inserted live slots held planned row =
    done_all held (commit_piece live held planned) (live_after live planned) live slots state planned (commit_readable state standing inserted live slots held planned row)
    (λ one member. Contains-append_left live (map (λ insertion. insertion.one) planned) one member)
    (λ p member. Contains-append_right live (map (λ insertion. insertion.one) planned) p.one (map_in (λ insertion. insertion.one) planned p member))
    (mirrored state standing inserted live slots held planned row) (begins state standing inserted live slots held planned row) (λ i j id a b. row.arranged.standing.once i j id a b)
    (served_hits state (Pieces (commit_piece live held planned) (IsLive (live_after live planned))) row.is_state (members_served state standing inserted live slots held planned row)) row.are_planned

-- and which insertions they make
pub commit_makes : (state : State) (standing inserted : List RankedPiece) (live : List LivePiece) (slots : Slots) (entries : IdEntries) (planned : List Planned) → IsPlannedRow state standing inserted live slots entries planned
    → insertions state (planned_writes entries planned) ≡ made_by entries (commit_piece live entries planned) state planned
commit_makes state standing inserted live slots entries planned row =
    made_alone state (planned_writes entries planned) (made_by entries (commit_piece live entries planned) state planned)
    (commit_done state standing inserted live slots entries planned row).made
