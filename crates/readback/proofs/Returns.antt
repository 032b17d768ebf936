-- Each state that the return of a segment passes is a stage.
use Rattle.std.proofs.Common.{◌≡◌, ◌++◌, map, take, sym, ◌∙◌, subst, ap}
use Rattle.tcam_device.specs.declared.Action.TheVariants.{Written}
use Rattle.tcam_device.specs.State.{State, state_after}
use Rattle.tcam_device.specs.Flight.{writes_in}
use Rattle.commit_writes.specs.Actions.{have_bits}
use Rattle.commit_writes.specs.Bits.{bits_with, new_bits}
use Rattle.commit_writes.specs.Undo.{undo_writes}
use Rattle.commit_writes.proofs.Seen.{fewer, both_ways}
use Rattle.commit_writes.proofs.WritesIn.{writes_of_commit, writes_of_map, writes_in-append}
use Rattle.readback.specs.Stage.{IsStage}
use Rattle.readback.specs.Laws.{ReturnsPassStages}
use Rattle.readback.proofs.Segments.{segment_stages}

pub returns_pass : ReturnsPassStages
returns_pass slots mode bits rules batch state actions begin back empty in_use n =
    let some = writes_in back.front in
    let Passed : State → Type 0 = IsStage slots mode bits rules batch in
    let whole : back.made ≡ some ++ writes_in back.back =
    sym (writes_of_commit (have_bits (new_bits bits (bits_with mode rules batch bits))) back.made) ∙ ap writes_in back.parts ∙ writes_in-append back.front back.back in
    let there = fewer state Passed some (writes_in back.back) (λ m. subst (λ ws. Passed (state_after state (take m ws))) whole (segment_stages slots mode bits rules batch state back.made begin back.segment empty in_use m)) in
    let same : writes_in actions ≡ some ++ undo_writes state some =
    ap writes_in back.actions_are ∙ writes_in-append back.front (map Written (undo_writes state some)) ∙ ap (λ ws. some ++ ws) (writes_of_map (undo_writes state some)) in
    subst (λ ws. Passed (state_after state (take n ws))) (sym same) (both_ways state Passed some there n)
