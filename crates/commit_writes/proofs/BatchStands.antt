-- Where the ids of a planned batch stand, each with an entry of its own match, from the last insertion to the last new result.
use Rattle.std.proofs.Common.{◌≡◌, ℕ, true, false, not, None, Some, List, [], ◌∷◌, ◌++◌, map, option_map, append-nil, inl, inr, refl, sym, ap, subst, ◌∙◌}
use Rattle.std.specs.List.{AllByRecursion}
use Rattle.std.proofs.lemmas.Bool.{cases_eq}
use Rattle.std.proofs.lemmas.List.Folds.{list_any_at}
use Rattle.slot_order.specs.Order.{slot}
use Rattle.slot_order.proofs.Images.{slot_entries}
use Rattle.slot_order.proofs.Writes.{slot_same, slot_other, slot_inside}
use Rattle.slot_pool.specs.Arrangement.{Slots}
use Rattle.rule_model.specs.declared.Rule.{Rule}
use Rattle.rule_store.specs.declared.Command.{Command}
use Rattle.rule_store.specs.declared.Mode.{Mode}
use Rattle.rule_model.specs.Entry.{RankedPiece, entry_for, entry_of, same_match}
use Rattle.placement.specs.declared.LivePiece.{LivePiece}
use Rattle.placement.proofs.Above.{is_live_from}
use Rattle.placement.specs.Insertion.{IsLive}
use Rattle.tcam_device.specs.declared.Write.{Write}
use Rattle.tcam_device.specs.declared.Write.TheVariants.{Slot}
use Rattle.tcam_device.specs.State.{State, apply, state_after}
use Rattle.tcam_device.specs.Insertion.{Insertion, is_new, holds_match, insertions, insertions_from}
use Rattle.tcam_device.proofs.One.{same_match-same, erases_last}
use Rattle.commit_writes.specs.Proposal.{proposal}
use Rattle.commit_writes.specs.declared.Rewrite.{Rewrite}
use Rattle.commit_writes.specs.Bits.{FieldBits}
use Rattle.commit_writes.specs.Shape.{set_pieces, inserted_pieces, rewritten_pieces, Stands}
use Rattle.commit_writes.specs.Planned.{IdEntries, Planned, planned_writes, live_after, slots_after}
use Rattle.commit_writes.specs.PlannedBatch.{home_slot, rewrite_write, erase_write, batch_writes, IsIdOf, IsRewriteOf, IsPlannedBatch}
use Rattle.commit_writes.proofs.Mirror.{entry_by}
use Rattle.commit_writes.proofs.Row.{AreDone, made_by}
use Rattle.commit_writes.proofs.Ids.{read}
use Rattle.commit_writes.proofs.Start.{commit_piece, commit_done, old_live}
use Rattle.commit_writes.proofs.Counted.{made_alone}
use Rattle.commit_writes.proofs.Rewrites.{home_is}
use Rattle.commit_writes.proofs.Zips.{zip_right}
use Rattle.commit_writes.proofs.BatchOrder.{before_it, id_piece, ids_ordered}
use Rattle.commit_writes.proofs.BatchRow.{row_of, batch_of}
use Rattle.commit_writes.proofs.BatchPieces.{row_pieces}
use Rattle.commit_writes.proofs.Filters.{all_members}

-- entries of one piece and priority match, whatever their results
one_match : (a b : RankedPiece) → a.piece ≡ b.piece → a.rank ≡ b.rank → same_match (entry_for a) (entry_for b) ≡ true
one_match a b piece rank =
    subst (λ p. same_match (entry_for a) (entry_of p b.rank b.result) ≡ true) piece
    (subst (λ n. same_match (entry_for a) (entry_of a.piece n b.result) ≡ true) rank (same_match-same (entry_for a)))

-- some rewrites, each of a live piece's id
abbrev pub AreIdRewrites : List LivePiece → List Rewrite → Type 0
AreIdRewrites live rewrites = AllByRecursion (λ rewrite. (ranked : RankedPiece) × IsRewriteOf live ranked rewrite) rewrites

-- each piece's id stands at its home, with an entry of its match
abbrev pub AllStand : List LivePiece → Slots → State → Type 0
AllStand live slots state = (ranked : RankedPiece) (id : ℕ) → IsIdOf live ranked id → Stands state (home_slot slots id) ranked

module _ (mode : Mode) (bits : FieldBits) (state : State) (rules : List Rule) (batch : List Command) (live : List LivePiece) (slots : Slots) (entries : IdEntries) (planned : List Planned) (rewrites : List Rewrite) (erased : List ℕ) (plan : IsPlannedBatch (proposal mode bits rules batch) state live slots entries planned rewrites erased) where
  abbrev after : Slots
  after = slots_after slots planned

  abbrev inserted : State
  inserted = state_after state (planned_writes entries planned)

  abbrev piece : ℕ → RankedPiece
  piece = commit_piece live entries planned

  done : AreDone entries piece (live_after live planned) live slots state planned
  done = commit_done state (set_pieces mode bits rules) (inserted_pieces mode bits rules batch) live slots entries planned (row_of mode bits state rules batch live slots entries planned rewrites erased plan)

  -- a live id stands at its home
  at_home : (id : ℕ) → IsLive live id → slot after (home_slot after id) ≡ Some id
  at_home id is =
      let w = (ids_ordered mode bits state rules batch live slots entries planned rewrites erased plan).placed id (old_live live planned id is) in
      ap (slot after) (home_is after id w.0 done.alone w.1) ∙ w.1

  pub batch_home : (ranked : RankedPiece) (id : ℕ) → IsIdOf live ranked id → slot after (home_slot after id) ≡ Some id
  batch_home ranked id is = at_home id (is_live_from live (record { id = id; piece = ranked.piece; rank = ranked.rank }) is)

  -- after the insertions
  pub batch_stand_first : AllStand live after inserted
  batch_stand_first ranked id is =
      let w = read state (row_pieces mode bits rules batch) (live_after live planned) entries (record { id = id; piece = ranked.piece; rank = ranked.rank })
      (batch_of mode bits state rules batch live slots entries planned rewrites erased plan) (before_it mode bits state rules batch live slots entries planned rewrites erased plan _ is) in (
        entry_by piece id,
        ap (λ some. slot some (home_slot after id)) done.changed.slots ∙ (slot_entries (entry_by piece) after (home_slot after id) ∙ ap (option_map (entry_by piece)) (batch_home ranked id is)),
        one_match ranked (piece id) (sym w.piece_is) (sym w.rank_is),
      )

  -- and after a new result, too
  one_stands : (now : State) (first : Rewrite) (changed : RankedPiece) → IsRewriteOf live changed first → AllStand live after now → AllStand live after (apply now (rewrite_write after first))
  one_stands now first changed is stand ranked id is_id = elim (cases_eq (home_slot after id) (home_slot after first.id)) [
    | inr other ↦ let w = stand ranked id is_id in (w.0, slot_other now.slots (home_slot after first.id) (Some first.entry) (home_slot after id) other ∙ w.1, w.2)
    | inl same ↦
        let w = stand changed first.id is.0 in
        let one : id ≡ first.id = (let e : Some id ≡ Some first.id = sym (batch_home ranked id is_id) ∙ (ap (slot after) same ∙ batch_home changed first.id is.0) in cc) in
        let both = id_piece mode bits state rules batch live slots entries planned rewrites erased plan (record { id = id; piece = ranked.piece; rank = ranked.rank }) changed
        (before_it mode bits state rules batch live slots entries planned rewrites erased plan _ is_id) (subst (IsIdOf live changed) (sym one) is.0) in (
          first.entry,
          ap (slot (apply now (rewrite_write after first)).slots) same ∙ slot_same now.slots (home_slot after first.id) (Some first.entry) (slot_inside now.slots (home_slot after first.id) w.0 w.1),
          subst (λ entry. same_match (entry_for ranked) entry ≡ true) (sym is.1) (one_match ranked changed both.0 both.1),
        )
  ]

  pub batch_stand_on : (some : List Rewrite) (now : State) → AreIdRewrites live some → AllStand live after now → AllStand live after (state_after now (map (rewrite_write after) some))
  batch_stand_on [] now are stand = stand
  batch_stand_on (first ∷ some) now are stand = batch_stand_on some (apply now (rewrite_write after first)) are.1 (one_stands now first are.0.0 are.0.1 stand)

  -- so no new result is an insertion, nor is an erase
  not_new : (now : State) (first : Rewrite) (changed : RankedPiece) → IsRewriteOf live changed first → AllStand live after now → is_new now first.entry ≡ false
  not_new now first changed is stand =
      let w = stand changed first.id is.0 in
      ap not (list_any_at (holds_match first.entry) now.slots (home_slot after first.id) None (slot_inside now.slots (home_slot after first.id) w.0 w.1)
      (subst (λ held. holds_match first.entry held ≡ true) (sym w.1) (subst (λ entry. same_match entry w.0 ≡ true) (sym is.1) w.2)))

  no_insertions : (begun : State) (run : List Write) (now : State) (some : List Rewrite) (ids : List ℕ) → AreIdRewrites live some → AllStand live after now
      → insertions_from begun run now (map (rewrite_write after) some ++ map (erase_write after) ids) ≡ []
  no_insertions begun run now [] ids are stand = erases_last begun run now (map (erase_write after) ids) (each ids)
    where
      each : (some : List ℕ) → AllByRecursion (λ write. (at : ℕ) × (write ≡ Slot at None)) (map (erase_write after) some)
      each [] = tt
      each (id ∷ some) = ((home_slot after id, refl), each some)
  no_insertions begun run now (first ∷ some) ids are stand =
      let old = not_new now first are.0.0 are.0.1 stand in
      let rest = no_insertions begun (run ++ rewrite_write after first ∷ []) (apply now (rewrite_write after first)) some ids are.1 (one_stands now first are.0.0 are.0.1 stand) in
      rw (old, insertions_from) rest

  pub batch_rewrites : AreIdRewrites live rewrites
  batch_rewrites = all_members (λ rewrite. (ranked : RankedPiece) × IsRewriteOf live ranked rewrite) rewrites (λ rewrite member.
      let w = zip_right (IsRewriteOf live) (rewritten_pieces mode bits rules batch) rewrites rewrite plan.rewrites_are member in (w.0, w.2))

  -- the insertions of a planned batch are those that were planned
  pub batch_insertions : insertions state (batch_writes entries slots planned rewrites erased) ≡ insertions state (planned_writes entries planned)
  batch_insertions =
      done.made (map (rewrite_write after) rewrites ++ map (erase_write after) erased)
      ∙ (ap (λ rest. made ++ rest) (no_insertions inserted [] inserted rewrites erased batch_rewrites batch_stand_first)
      ∙ (append-nil made ∙ sym (made_alone state (planned_writes entries planned) made done.made)))
    where
      made : List Insertion
      made = made_by entries piece state planned
