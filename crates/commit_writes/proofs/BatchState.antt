-- Where the writes of a planned batch lead: the arrangement of the ids that are left, each with the entry of a piece of the
-- new set.
use Rattle.std.proofs.Common.{◌≡◌, ◌<◌, ◌≤◌, arith, ℕ, length, take, Some, List, Contains, inl, inr, sym, ◌∙◌, subst, ap}
use Rattle.std.proofs.Math.Seq.{take-length}
use Rattle.slot_pool.specs.Arrangement.{Slots}
use Rattle.rule_model.specs.declared.Rule.{Rule}
use Rattle.rule_store.specs.declared.Command.{Command}
use Rattle.rule_store.specs.declared.Mode.{Mode}
use Rattle.rule_store.specs.Batch.{set_after}
use Rattle.rule_model.specs.Entry.{RankedPiece, entry_for}
use Rattle.placement.specs.declared.LivePiece.{LivePiece}
use Rattle.tcam_device.specs.State.{State, state_after}
use Rattle.commit_writes.specs.Proposal.{proposal}
use Rattle.commit_writes.specs.declared.Rewrite.{Rewrite}
use Rattle.commit_writes.specs.Bits.{FieldBits}
use Rattle.commit_writes.specs.Shape.{set_pieces, rewritten_pieces}
use Rattle.commit_writes.specs.Planned.{IdEntries, Planned, entry_at, contents, with_slots, live_after, slots_after, AreEntriesOf}
use Rattle.commit_writes.specs.PlannedBatch.{rewritten_entries, erased_slots, erased_live, batch_writes, IsPlannedBatch}
use Rattle.commit_writes.proofs.Ids.{AreOfPieces}
use Rattle.commit_writes.proofs.Erases.{in_erased, erased_in}
use Rattle.commit_writes.proofs.BatchRules.{change_of, set_after-is}
use Rattle.commit_writes.proofs.BatchPieces.{row_pieces}
use Rattle.commit_writes.proofs.BatchRow.{batch_of}
use Rattle.commit_writes.proofs.BatchIds.{IsTold}
use Rattle.commit_writes.proofs.BatchOrder.{told_entries, live_then, late_reached, batch_told}
use Rattle.commit_writes.proofs.BatchStanding.{new_held, settled, goes_late}
use Rattle.commit_writes.proofs.OnTheWay.{once_one}
use Rattle.commit_writes.proofs.SetPieces.{pieces_once}

-- so many new results and erases behind the insertions lead to the arrangement without the erased ids
abbrev LeadTo : State → IdEntries → Slots → List Planned → List Rewrite → List ℕ → Type 0
LeadTo state entries slots planned rewrites erased =
    state_after state (batch_writes entries slots planned rewrites erased)
    ≡ with_slots state (contents (rewritten_entries entries rewrites) (erased_slots (slots_after slots planned) erased))

-- the state after all writes
pub batch_state : (mode : Mode) (bits : FieldBits) (state : State) (rules : List Rule) (batch : List Command) (live : List LivePiece) (slots : Slots) (entries : IdEntries) (planned : List Planned) (rewrites : List Rewrite) (erased : List ℕ)
    → IsPlannedBatch (proposal mode bits rules batch) state live slots entries planned rewrites erased
    → state_after state (batch_writes entries slots planned rewrites erased)
    ≡ with_slots state (contents (rewritten_entries entries rewrites) (erased_slots (slots_after slots planned) erased))
batch_state mode bits state rules batch live slots entries planned rewrites erased plan =
    subst (LeadTo state entries slots planned rewrites) (take-length erased)
    (subst (λ (some : List Rewrite). LeadTo state entries slots planned some (take (length erased) erased)) (take-length rewrites)
    (late_reached mode bits state rules batch live slots entries planned rewrites erased plan (length rewrites) (length erased)))

module _ (mode : Mode) (bits : FieldBits) (state : State) (rules : List Rule) (batch : List Command) (live : List LivePiece) (slots : Slots) (entries : IdEntries) (planned : List Planned) (rewrites : List Rewrite) (erased : List ℕ) (plan : IsPlannedBatch (proposal mode bits rules batch) state live slots entries planned rewrites erased) where
  abbrev all : List LivePiece
  all = live_after live planned

  abbrev held : IdEntries
  held = told_entries entries rewrites (length rewrites)

  abbrev left : List LivePiece
  left = live_then live planned erased (length erased)

  abbrev new : List RankedPiece
  new = set_pieces mode bits (set_after rules batch)

  abbrev Told : LivePiece → Type 0
  Told one = IsTold (row_pieces mode bits rules batch) (rewritten_pieces mode bits rules batch) all held (take (length rewrites) rewrites) one

  of : AreOfPieces state (row_pieces mode bits rules batch) all entries
  of = batch_of mode bits state rules batch live slots entries planned rewrites erased plan

  was_live : (one : LivePiece) → Contains left one → Contains all one
  was_live one member = (in_erased all (take (length erased) erased) one member).0

  shows : (one : LivePiece) → Contains all one → Told one
  shows one member = batch_told mode bits state rules batch live slots entries planned rewrites erased plan (length rewrites) one member

  -- what an id that is left shows is a piece of the new set
  shows_new : (one : LivePiece) → Contains left one → (told : Told one) → Contains new told.now
  shows_new one member told =
      elim (settled mode bits state rules batch live slots entries planned rewrites erased plan (length rewrites) one (was_live one member) (take-length rewrites) told) [
        | inl stays ↦ stays
        | inr goes ↦
            let w = goes_late mode bits state rules batch live slots entries planned rewrites erased plan (length erased) one told.now (was_live one member) (sym told.now_piece, sym told.now_rank) goes
            (in_erased all (take (length erased) erased) one member).1 in
            let late : length erased ≤ w.0 = w.1 in
            let inside : w.0 < length erased = w.2 in
            absurd (omega arith)
      ]

  entries_then : AreEntriesOf new left held
  entries_then = record {
    of_piece = λ one member. let told = shows one (was_live one member) in (told.now, shows_new one member told, told.now_piece, told.now_rank, told.has);
    has_id = has_id;
    once = λ a b in_a in_b rank piece. of.entries_are.once a b (was_live a in_a) (was_live b in_b) rank piece;
  }
    where
      has_id : (ranked : RankedPiece) → Contains new ranked
          → (one : LivePiece) × Contains left one × (ranked.piece ≡ one.piece) × (ranked.rank ≡ one.rank) × (entry_at held one.id ≡ Some (entry_for ranked))
      has_id ranked member =
          let w = new_held mode bits state rules batch live slots entries planned rewrites erased plan (length rewrites) (length erased) ranked member in
          let stays = erased_in all (take (length erased) erased) w.0 w.1 w.3 in
          let told = shows w.0 w.1 in
          let same : told.now ≡ ranked =
          once_one new told.now ranked (pieces_once mode bits (set_after rules batch) (set_after-is rules batch (change_of mode bits state rules batch live slots entries planned rewrites erased plan)))
          (shows_new w.0 stays told) member (told.now_rank ∙ w.2.1) (told.now_piece ∙ w.2.0) in
          (w.0, stays, sym w.2.0, sym w.2.1, told.has ∙ ap (λ (x : RankedPiece). Some (entry_for x)) same)

  -- the ids that are live then are those of the new set's pieces, with their entries
  pub batch_entries : AreEntriesOf (set_pieces mode bits (set_after rules batch)) (erased_live (live_after live planned) erased) (rewritten_entries entries rewrites)
  batch_entries =
      subst (λ (ids : List ℕ). AreEntriesOf new (erased_live all ids) (rewritten_entries entries rewrites)) (take-length erased)
      (subst (λ (some : List Rewrite). AreEntriesOf new left (rewritten_entries entries some)) (take-length rewrites) entries_then)
