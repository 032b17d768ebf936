use Rattle.std.proofs.Common.{◌≡◌, ◌<◌, ◌+◌, ℕ, Bool, List}
use Rattle.std.specs.Io.KnownBytes.{Appends}
use Rattle.script_lines.specs.Given.{GivesPieces, HasEnd, counted}
use Rattle.fpm_frames.specs.Imported.{FrameFate, first_standing, telling, written_of}
use Rattle.fpm_frames.proofs.Telling.{Rounds}
use Rattle.fpm_frames.proofs.importing.import_frames.Given as goal

abbrev pub invariant-loop-left : goal.invariant-loop-left
invariant-loop-left g l = record {
  below : l.importing.left_out < l.importing.number;
  room : l.importing.number + l.left ≡ 18446744073709551615;
  gives : (pieces : List (List ℕ)) × GivesPieces (g.S.Source.given l.fn.source) (g.S.Source.given l.source) (g.S.Source.left l.fn.source) (g.S.Source.left l.source) pieces
      × (HasEnd pieces → ⊥)
      × ((which : Bool) → (fates : List FrameFate) × Rounds (telling g.F.FrameFormat.told g.F.FrameFormat.behind) (first_standing l.fn.leave_out l.fn.format) l.importing pieces fates
      × Appends (counted which (g.K.Sink.taken l.fn.sink) (g.K.Sink.accepted l.fn.sink)) (counted which (g.K.Sink.taken l.sink) (g.K.Sink.accepted l.sink)) (written_of _ (telling g.F.FrameFormat.told g.F.FrameFormat.behind) (first_standing l.fn.leave_out l.fn.format) fates));
  reads : g.S.Source.faults l.source ≡ g.S.Source.faults l.fn.source;
  writes : g.K.Sink.faults l.sink ≡ g.K.Sink.faults l.fn.sink;
}

abbrev pub decreases-loop-left : goal.decreases-loop-left
decreases-loop-left g l = l.left
