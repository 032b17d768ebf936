-- The device after a planned batch's insertions, some of its new results and some of its erases: in order for the pieces of
-- the ids that are live then, each in one slot.
use Rattle.std.proofs.Common.{◌≡◌, ℕ, suc, ◌<◌, length, get_or, take, Some, List, [], ◌∷◌, ◌++◌, map, Contains, sym, ◌∙◌, subst, ap, arith, refl, get_or-take, length-take}
use Rattle.std.specs.Prelude.{◌↔◌, nat_eq}
use Rattle.std.specs.List.{IsDistinct}
use Rattle.std.proofs.lemmas.List.{get_or_default}
use Rattle.std.proofs.lemmas.List.Elements.{Contains-append_left}
use Rattle.std.proofs.lemmas.Slice.Zip.{AllZip-long}
use Rattle.slot_order.specs.Order.{Ordered, slot}
use Rattle.slot_order.proofs.Lists.{contains_take, in_map, map_in}
use Rattle.slot_moves.proofs.Once.{AllOnce}
use Rattle.slot_order.proofs.Writes.{slot_inside}
use Rattle.slot_order.proofs.Images as images
use Rattle.slot_pool.specs.Arrangement.{Slots}
use Rattle.rule_model.specs.declared.Rule.{Rule}
use Rattle.rule_store.specs.declared.Mode.{Mode}
use Rattle.rule_store.specs.declared.Command.{Command}
use Rattle.rule_model.specs.Entry.{RankedPiece}
use Rattle.placement.specs.declared.LivePiece.{LivePiece}
use Rattle.placement.proofs.Above.{live_is, is_live_from}
use Rattle.placement.proofs.Live.{all_apart_from}
use Rattle.placement.specs.Insertion.{IsLive}
use Rattle.placement.proofs.Chain.{AllKnown}
use Rattle.tcam_device.specs.declared.Write.{Write}
use Rattle.tcam_device.specs.State.{State, state_after}
use Rattle.tcam_device.specs.Order.{IsOrdered, StandsOnce}
use Rattle.tcam_device.proofs.Spans.{state_after-append}
use Rattle.commit_writes.specs.Proposal.{proposal}
use Rattle.commit_writes.specs.declared.Rewrite.{Rewrite}
use Rattle.commit_writes.specs.Bits.{FieldBits}
use Rattle.commit_writes.specs.Shape.{set_pieces, inserted_pieces, rewritten_pieces, erased_pieces}
use Rattle.commit_writes.specs.Planned.{IdEntries, Planned, contents, with_slots, live_after, slots_after, planned_writes}
use Rattle.commit_writes.specs.PlannedBatch.{rewrite_write, erase_write, rewritten_entries, erased_slots, erased_live, IsIdOf, IsPlannedBatch}
use Rattle.commit_writes.proofs.Bridge.{HaveEntries}
use Rattle.commit_writes.proofs.BatchIds.{IsTold, AreRewrites, one_live, told, told_have}
use Rattle.commit_writes.proofs.BatchRow.{row_of, batch_of}
use Rattle.commit_writes.proofs.BatchPieces.{row_pieces, erased_once}
use Rattle.commit_writes.proofs.BatchRules.{change_of}
use Rattle.commit_writes.proofs.Zips.{zip_right, zip_at}
use Rattle.commit_writes.proofs.Erases.{CanErase, in_erased, erased_state, erased_ordered}
use Rattle.commit_writes.proofs.Ids.{piece_by}
use Rattle.commit_writes.proofs.Mirror.{Pieces, MatchApart, entry_by, over, rank, ordered_state, ordered_ids, stands_once, IsOrdered_same, StandsOnce_same}
use Rattle.commit_writes.proofs.Ordered.{planned_state}
use Rattle.commit_writes.proofs.Rewrites.{rewritten_state}
use Rattle.commit_writes.proofs.Row.{AreReadable, AreDone, live_up}
use Rattle.commit_writes.proofs.Start.{contents_are, commit_piece, commit_readable, commit_done}

-- what some ids show
abbrev pub shown_pieces : List LivePiece → IdEntries → List LivePiece → List RankedPiece
shown_pieces all held live = map (λ one. piece_by all held one.id) live

-- as members they are the pieces of those ids
shown_are : (all : List LivePiece) (held : IdEntries) (live : List LivePiece) (ranked : RankedPiece) → Pieces (piece_by all held) (IsLive live) ranked ↔ Contains (shown_pieces all held live) ranked
shown_are all held live ranked = (
  λ m. let w = live_is live m.0 m.1 in
      subst (Contains (shown_pieces all held live)) (ap (piece_by all held) w.2 ∙ m.2) (map_in (λ one. piece_by all held one.id) live w.0 w.1),
  λ member. let w = in_map (λ one. piece_by all held one.id) live ranked member in (w.0.id, is_live_from live w.0 w.1, w.2),
)

-- the entries after the first of the new results
abbrev pub told_entries : IdEntries → List Rewrite → ℕ → IdEntries
told_entries entries rewrites told = rewritten_entries entries (take told rewrites)

-- the live ids after the first of the erases
abbrev pub live_then : List LivePiece → List Planned → List ℕ → ℕ → List LivePiece
live_then live planned erased gone = erased_live (live_after live planned) (take gone erased)

-- the pieces that stand after the insertions, the first of the new results and the first of the erases
abbrev pub late_pieces : List LivePiece → IdEntries → List Planned → List Rewrite → List ℕ → ℕ → ℕ → List RankedPiece
late_pieces live entries planned rewrites erased told gone = shown_pieces (live_after live planned) (told_entries entries rewrites told) (live_then live planned erased gone)

-- the state then, and the writes that lead to it
abbrev pub late_state : State → Slots → IdEntries → List Planned → List Rewrite → List ℕ → ℕ → ℕ → State
late_state state slots entries planned rewrites erased told gone =
    with_slots state (contents (told_entries entries rewrites told) (erased_slots (slots_after slots planned) (take gone erased)))

abbrev pub late_writes : Slots → IdEntries → List Planned → List Rewrite → List ℕ → ℕ → ℕ → List Write
late_writes slots entries planned rewrites erased told gone =
    planned_writes entries planned
    ++ (map (rewrite_write (slots_after slots planned)) (take told rewrites) ++ map (erase_write (slots_after slots planned)) (take gone erased))

-- the live piece is this one
abbrev pub IsLiveAs : LivePiece → RankedPiece → Type 0
IsLiveAs one ranked = (one.piece ≡ ranked.piece) × (one.rank ≡ ranked.rank)

-- ids that differ by place differ
apart_ids : (ids : List ℕ) → ((i k : ℕ) → i < k → k < length ids → get_or ids i 0 ≡ get_or ids k 0 → ⊥) → IsDistinct nat_eq ids
unfolding IsDistinct
apart_ids [] apart = tt
apart_ids (id ∷ ids) apart = (
  all_apart_from id ids (λ c. apart 0 (suc c.0) (omega arith) (let l = c.1 in omega arith) (sym (get_or_default ids c.0 0 id c.1 ∙ c.2))),
  apart_ids ids (λ i k less inside. apart (suc i) (suc k) (omega arith) (omega arith)),
)

-- what stands then
record IsLate (state : State) (all : List LivePiece) (held : IdEntries) (live : List LivePiece) (slots : Slots) : Type 0 where
  ordered : IsOrdered (with_slots state (contents held slots)) (Contains (shown_pieces all held live))
  once : StandsOnce (with_slots state (contents held slots)) (Contains (shown_pieces all held live))

late : (state : State) (all : List LivePiece) (held : IdEntries) (live : List LivePiece) (slots : Slots) → MatchApart (piece_by all held) (IsLive all) → HaveEntries held (piece_by all held) (IsLive all)
    → ((id : ℕ) → IsLive live id → IsLive all id) → Ordered (over (piece_by all held)) (rank (piece_by all held)) (IsLive live) slots → AllOnce slots
    → IsLate state all held live slots
late state all held live slots apart have up o once = record {
  ordered = IsOrdered_same now (Pieces (piece_by all held) (IsLive live)) (Contains (shown_pieces all held live)) (shown_are all held live) ordered;
  once = StandsOnce_same now (Pieces (piece_by all held) (IsLive live)) (Contains (shown_pieces all held live)) (shown_are all held live)
      (stands_once (piece_by all held) (IsLive live) (IsLive all) slots now apart up known same once ordered);
}
  where
    now : State
    now = with_slots state (contents held slots)

    known : AllKnown (IsLive all) slots
    known at id s = up id (o.within at id s)

    same : contents held slots ≡ images.entries (entry_by (piece_by all held)) slots
    same = contents_are held (piece_by all held) (IsLive all) slots have known

    ordered : IsOrdered now (Pieces (piece_by all held) (IsLive live))
    ordered = ordered_state (piece_by all held) (IsLive live) (IsLive all) slots now apart up same o

module _ (mode : Mode) (bits : FieldBits) (state : State) (rules : List Rule) (batch : List Command) (live : List LivePiece) (slots : Slots) (entries : IdEntries) (planned : List Planned) (rewrites : List Rewrite) (erased : List ℕ) (plan : IsPlannedBatch (proposal mode bits rules batch) state live slots entries planned rewrites erased) where
  abbrev old : List RankedPiece
  old = set_pieces mode bits rules

  abbrev inserted : List RankedPiece
  inserted = inserted_pieces mode bits rules batch

  abbrev rewritten : List RankedPiece
  rewritten = rewritten_pieces mode bits rules batch

  abbrev goes : List RankedPiece
  goes = erased_pieces mode bits rules batch

  abbrev all : List LivePiece
  all = live_after live planned

  abbrev arranged : Slots
  arranged = slots_after slots planned

  readable : AreReadable entries (commit_piece live entries planned) all
  readable = commit_readable state old inserted live slots entries planned (row_of mode bits state rules batch live slots entries planned rewrites erased plan)

  done : AreDone entries (commit_piece live entries planned) all live slots state planned
  done = commit_done state old inserted live slots entries planned (row_of mode bits state rules batch live slots entries planned rewrites erased plan)

  -- the ids before it are among them
  pub before_it : (one : LivePiece) → Contains live one → Contains all one
  before_it one member = Contains-append_left live (map (λ insertion. insertion.one) planned) one member

  -- each rewrite is to the entry of a piece that gets a result
  given : (told : ℕ) → AreRewrites rewritten live (take told rewrites)
  given told rewrite member =
      let w = contains_take told rewrites rewrite member in zip_right _ rewritten rewrites rewrite plan.rewrites_are (w.0, w.2, w.3)

  -- each id shows its piece or that with its new result
  pub batch_told : (count : ℕ) (one : LivePiece) → Contains all one
      → IsTold (row_pieces mode bits rules batch) rewritten all (told_entries entries rewrites count) (take count rewrites) one
  batch_told count one member =
      told state (row_pieces mode bits rules batch) rewritten live all entries (take count rewrites) one
      (batch_of mode bits state rules batch live slots entries planned rewrites erased plan) before_it (given count) member

  -- what the ids that go are: each is that of a piece that goes, in their order
  pub gone_id : (gone id : ℕ) (none : RankedPiece) → Contains (take gone erased) id
      → (at : ℕ) × (at < gone) × (at < length erased) × IsIdOf live (get_or goes at none) id
  gone_id gone id none member =
      let w = contains_take gone erased id member in (
        w.0,
        w.1,
        w.2,
        subst (IsIdOf live (get_or goes w.0 none)) w.3 (zip_at (IsIdOf live) goes erased w.0 none id plan.erased_are w.2),
      )

  -- a live piece is the one that its id is of
  pub id_piece : (one : LivePiece) (ranked : RankedPiece) → Contains all one → IsIdOf live ranked one.id → IsLiveAs one ranked
  id_piece one ranked member is =
      let same = one_live state (row_pieces mode bits rules batch) all entries one (record { id = one.id; piece = ranked.piece; rank = ranked.rank })
      (batch_of mode bits state rules batch live slots entries planned rewrites erased plan) member (before_it _ is) refl in
      (ap (λ (l : LivePiece). l.piece) same, ap (λ (l : LivePiece). l.rank) same)

  gone_distinct : (gone : ℕ) → IsDistinct nat_eq (take gone erased)
  gone_distinct gone = apart_ids (take gone erased) apart
    where
      none : RankedPiece
      none = piece_by all entries 0

      is : (at : ℕ) → at < length erased → IsIdOf live (get_or goes at none) (get_or erased at 0)
      is at inside = zip_at (IsIdOf live) goes erased at none 0 plan.erased_are inside

      apart : (i k : ℕ) → i < k → k < length (take gone erased) → get_or (take gone erased) i 0 ≡ get_or (take gone erased) k 0 → ⊥
      apart i k less inside same =
          let size = AllZip-long (IsIdOf live) goes erased plan.erased_are in
          let taken = length-take gone erased in
          let in_gone : k < gone = omega arith in
          let one : get_or erased i 0 ≡ get_or erased k 0 = sym (get_or-take gone erased i 0 (omega arith)) ∙ (same ∙ get_or-take gone erased k 0 in_gone) in
          let early = get_or goes i none in
          let level = id_piece (record { id = get_or erased i 0; piece = early.piece; rank = early.rank }) (get_or goes k none) (before_it _ (is i (omega arith)))
          (subst (IsIdOf live (get_or goes k none)) (sym one) (is k (omega arith))) in
          erased_once mode bits rules batch (change_of mode bits state rules batch live slots entries planned rewrites erased plan) i k none less (omega arith) level.1 level.0

  -- the ids stand in order after the insertions, each once
  pub ids_ordered : Ordered (over (commit_piece live entries planned)) (rank (commit_piece live entries planned)) (IsLive all) arranged
  ids_ordered =
      ordered_ids (commit_piece live entries planned) (IsLive all) arranged (state_after state (planned_writes entries planned))
      readable.apart done.within done.changed.slots done.last

  -- an id of the set is live
  id_live : (ranked : RankedPiece) (id : ℕ) → IsIdOf live ranked id → IsLive all id
  id_live ranked id is = is_live_from all (record { id = id; piece = ranked.piece; rank = ranked.rank }) (before_it _ is)

  -- so those that go can be erased
  can_erase : (gone : ℕ) → CanErase arranged (take gone erased)
  can_erase gone = record {
    once = done.alone;
    placed = λ id member. let none = piece_by all entries 0 in let w = gone_id gone id none member in ids_ordered.placed id (id_live (get_or goes w.0 none) id w.3);
    distinct = gone_distinct gone;
  }

  late_is : (told gone : ℕ) → IsLate state all (told_entries entries rewrites told) (live_then live planned erased gone) (erased_slots arranged (take gone erased))
  late_is told gone =
      let e = erased_ordered (over (piece_by all held)) (rank (piece_by all held)) all arranged (take gone erased) (can_erase gone) ids_ordered in
      late state all held (live_then live planned erased gone) (erased_slots arranged (take gone erased)) readable.apart
      (told_have (row_pieces mode bits rules batch) rewritten all held (take told rewrites) (batch_told told))
      (live_up (live_then live planned erased gone) all (λ one member. (in_erased all (take gone erased) one member).0)) e.0 e.1
    where
      held : IdEntries
      held = told_entries entries rewrites told

  -- the device is in order then,
  pub late_ordered : (told gone : ℕ) → IsOrdered (late_state state slots entries planned rewrites erased told gone) (Contains (late_pieces live entries planned rewrites erased told gone))
  late_ordered told gone = (late_is told gone).ordered

  -- and each piece stands in one slot
  pub late_once : (told gone : ℕ) → StandsOnce (late_state state slots entries planned rewrites erased told gone) (Contains (late_pieces live entries planned rewrites erased told gone))
  late_once told gone = (late_is told gone).once

  -- this is the state after those writes
  pub late_reached : (told gone : ℕ)
      → state_after state (late_writes slots entries planned rewrites erased told gone) ≡ late_state state slots entries planned rewrites erased told gone
  late_reached told gone =
      state_after-append state (planned_writes entries planned) (results ++ erases)
      ∙ (ap (λ (s : State). state_after s (results ++ erases)) (planned_state state old inserted live slots entries planned (row_of mode bits state rules batch live slots entries planned rewrites erased plan))
      ∙ (state_after-append (with_slots state (contents entries arranged)) results erases
      ∙ (ap (λ (s : State). state_after s erases) (rewritten_state state entries arranged (take told rewrites) done.alone stand)
      ∙ erased_state state (told_entries entries rewrites told) arranged (take gone erased) (can_erase gone))))
    where
      results : List Write
      results = map (rewrite_write arranged) (take told rewrites)

      erases : List Write
      erases = map (erase_write arranged) (take gone erased)

      stand : (rewrite : Rewrite) → Contains (take told rewrites) rewrite → (rewrite.id < length entries) × ((at : ℕ) × (slot arranged at ≡ Some rewrite.id))
      stand rewrite member =
          let w = given told rewrite member in
          let is = id_live w.0 rewrite.id w.2.0 in
          (slot_inside entries rewrite.id (entry_by (commit_piece live entries planned) rewrite.id) (readable.have rewrite.id is), ids_ordered.placed rewrite.id is)
