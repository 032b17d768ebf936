-- All that is planned at a restart is a planned restart.
use Rattle.std.proofs.Common.{◌≡◌, ℕ, Option, List, ◌++◌, length, map, append_assoc, sym, ◌∙◌, ap}
use Rattle.std.specs.List.{AllZip, filter_map}
use Rattle.slot_pool.specs.Arrangement.{Slots}
use Rattle.rule_model.specs.declared.Rule.{Rule}
use Rattle.rule_store.specs.declared.Mode.{Mode}
use Rattle.rule_store.specs.declared.Command.{Command}
use Rattle.placement.specs.Placement.{Aiming}
use Rattle.tcam_device.specs.declared.Write.{Write}
use Rattle.tcam_device.specs.State.{State, IsState, state_after, on_device}
use Rattle.commit_writes.specs.Proposal.{proposal}
use Rattle.commit_writes.specs.declared.Rewrite.{Rewrite}
use Rattle.commit_writes.specs.Bits.{FieldBits}
use Rattle.commit_writes.specs.Planned.{planned_writes}
use Rattle.commit_writes.specs.PlannedBatch.{IsIdOf, IsRewriteOf, erase_write, rewrite_write}
use Rattle.commit_writes.specs.Shape.{fresh_writes}
use Rattle.readback.specs.Halt.{halt_at, parts_as_planned}
use Rattle.readback.specs.Going.{erased_by, inserted_by, rewritten_by, twin_writes}
use Rattle.readback.specs.Laws.{CanCommit}
use Rattle.readback.specs.Stage.{IsCommitAt, IsTwinSlot}
use Rattle.readback.specs.Tasks.{Task, commit_pieces}
use Rattle.readback.specs.PlannedRest.{restart_writes}
use Rattle.readback.specs.Restart.{IsPlannedRestart}
use Rattle.readback.specs.Standing.{AreReadIds}
use Rattle.readback.proofs.ReadIds.{stages_have_ids}
use Rattle.batch_order.specs.Arranged.{arranged_at}
use Rattle.batch_order.specs.declared.plan.Plan.{Plan}
use Rattle.batch_order.specs.Entries.{Entries}
use Rattle.batch_order.specs.Planning.{AreAllPlanned, as_writes, planned_moves, all_writes}
use Rattle.batch_order.proofs.arranged.Entered.{contents_kept, entries_of_kept}
use Rattle.batch_order.proofs.planning.Meant.{as_append, as_planned}
use Rattle.batch_order.specs.RestPlan.{PlansRest}

module _ (device_slots : ℕ) (mode : Mode) (bits : FieldBits) (rules : List Rule) (batch : List Command) (state : State) (done left : List Task) (twin : Option ℕ)
    (old new : Entries) (slots middle : Slots) (plan plan' : Plan) (aims : List Aiming) (rewrites : List Rewrite) (erased : List ℕ)
    (all : AreAllPlanned (arranged_at old slots) (arranged_at new middle) plan plan' (filter_map inserted_by left) aims rewrites erased) where
  abbrev words : List Write
  words = fresh_writes mode bits rules batch state

  abbrev later : List Write
  later = map (rewrite_write middle) rewrites ++ map (erase_write middle) erased

  -- the insertions that were planned are those of the restart,
  pub restart_planned : CanCommit mode bits rules batch → IsState (length state.slots) state
      → IsCommitAt (length slots) mode bits rules batch (on_device device_slots state) done left → IsTwinSlot (on_device device_slots state).slots twin
      → AreReadIds (commit_pieces mode bits rules batch) (state_after state (twin_writes twin)).slots old.live slots old.entries
      → AllZip (IsRewriteOf old.live) (filter_map rewritten_by left) rewrites → AllZip (IsIdOf old.live) (filter_map erased_by left) erased
      → IsPlannedRestart device_slots (proposal mode bits rules batch) state (halt_at done left twin) old.live slots new.entries (parts_as_planned all.inserted.planned rewrites erased)
  restart_planned can is stage is_twin ids rewrites_are erased_are =
      let since = all.inserted in
      let stood = stages_have_ids device_slots mode bits rules batch state done left twin old.live slots old.entries can is stage is_twin ids in
      record {
        can = can;
        is_state = is;
        stage = stage;
        is_twin = is_twin;
        rest = record {
          mirrors = ids.mirrors ∙ sym (contents_kept old.live old.entries new.entries slots since.kept record { at = ids.within });
          stands = record {
            standing = stood.standing;
            known = stood.known;
            once = stood.once;
            arranged = stood.arranged;
            entries_are = entries_of_kept stood.standing old.live old.entries new.entries since.kept stood.entries_are;
          };
          inserted = since.pieces_are;
          have_entries = since.have_entries;
          are_planned = since.are_planned;
          rewrites_are = rewrites_are;
          erased_are = erased_are;
        };
      }

  -- and so are the writes
  pub restart_written : as_writes new.entries rewrites (all_writes plan.writes) ≡ fresh_writes mode bits rules batch state ++ twin_writes twin
      → as_writes new.entries rewrites (all_writes plan'.writes) ≡ restart_writes (proposal mode bits rules batch) state twin new.entries slots all.inserted.planned rewrites erased
  restart_written front =
      let since = all.inserted in
      all.writes new.entries
      ∙ (ap (λ (first : List Write). first ++ later)
      (ap (as_writes new.entries rewrites) since.writes ∙ (as_append new.entries rewrites (all_writes plan.writes) (planned_moves since.planned)
      ∙ (ap (λ (some : List Write). some ++ as_writes new.entries rewrites (planned_moves since.planned)) front
      ∙ ap (λ (some : List Write). (words ++ twin_writes twin) ++ some) (as_planned new.entries rewrites since.planned))))
      ∙ (append_assoc (words ++ twin_writes twin) (planned_writes new.entries since.planned) later
      ∙ (append_assoc words (twin_writes twin) (planned_writes new.entries since.planned ++ later)
      ∙ ap (λ s. words ++ (twin_writes twin ++ (planned_writes new.entries since.planned ++ (map (rewrite_write s) rewrites ++ map (erase_write s) erased)))) since.slots_are)))

pub plans_rest : PlansRest
plans_rest device_slots mode bits rules batch state done left twin old new slots middle plan plan' aims rewrites erased can is stage is_twin ids front all rewrites_are erased_are =
    record {
      planned = all.inserted.planned;
      restart = restart_planned device_slots mode bits rules batch state done left twin old new slots middle plan plan' aims rewrites erased all can is stage is_twin ids rewrites_are erased_are;
      aims_are = all.inserted.aims_are;
      writes_are = restart_written device_slots mode bits rules batch state done left twin old new slots middle plan plan' aims rewrites erased all front;
    }
