-- The parts of a segment are hitless: with a part made each key has its old or its new answer, too.
use Rattle.std.proofs.Common.{List, length, sym, subst}
use Rattle.std.specs.List.{AllByRecursion}
use Rattle.rule_model.specs.declared.Rule.{Rule}
use Rattle.rule_store.specs.declared.Mode.{Mode}
use Rattle.rule_store.specs.declared.Command.{Command}
use Rattle.rule_store.specs.Batch.{set_after}
use Rattle.tcam_device.specs.declared.Write.{Write}
use Rattle.tcam_device.specs.State.{State, IsInUse, Shows}
use Rattle.tcam_device.specs.Hitless.{ShowsOldOrNew}
use Rattle.commit_writes.specs.Bits.{FieldBits}
use Rattle.commit_writes.specs.Commit.{IsSegment}
use Rattle.commit_writes.specs.Segments.{MayBegin}
use Rattle.split_device.specs.State.{SplitState, IsSized, undivided}
use Rattle.split_writes.specs.Parts.{parts_of_writes}
use Rattle.split_writes.specs.Segment.{IsSplitHitless}
use Rattle.split_writes.proofs.Undivided.{parts_lead}
use Rattle.split_writes.proofs.Through.{parts_along, along_take}
use Rattle.split_writes.proofs.Erased.{segment_through}

pub segment_parts_hitless : (mode : Mode) (bits : FieldBits) (rules : List Rule) (batch : List Command) (state : SplitState) (made : List Write) → IsSized state
    → AllByRecursion (IsInUse (length state.slots)) made → MayBegin mode bits rules batch (undivided state) → IsSegment mode bits rules batch (undivided state) made
    → IsSplitHitless rules (set_after rules batch) state (parts_of_writes (undivided state) made)
segment_parts_hitless mode bits rules batch state made sized inside begin segment = record {
  on_the_way = record {
    before = segment.hitless.on_the_way.before;
    during = λ n. along_take Either state (parts_of_writes (undivided state) made) n
        (parts_along Either state made sized inside (segment_through mode bits rules batch (undivided state) made begin segment));
  };
  after = subst (λ (now : State). Shows now (set_after rules batch)) (sym (parts_lead state made sized inside)) segment.hitless.after;
}
  where
    Either : State → Type 0
    Either now = ShowsOldOrNew now rules (set_after rules batch)
