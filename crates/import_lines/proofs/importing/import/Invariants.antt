use Rattle.std.proofs.Common.{◌≡◌, ◌<◌, ◌-◌, ℕ, Bool, List}
use Rattle.std.specs.Io.KnownBytes.{Appends}
use Rattle.script_lines.specs.Given.{GivesPieces, counted}
use Rattle.import_lines.specs.Import.{telling}
use Rattle.import_lines.specs.Rounds.{IsAnew}
use Rattle.import_lines.proofs.Whole.{Rounds}
use Rattle.import_lines.proofs.importing.import.Given as goal

abbrev pub invariant-rounds : goal.invariant-rounds
invariant-rounds g l = record {
  anew : IsAnew l.lines;
  below : l.importing.left_out < l.number;
  gives : (pieces : List (List ℕ)) × GivesPieces (g.S.Source.given l.fn.source) (g.S.Source.given l.source) (g.S.Source.left l.fn.source) (g.S.Source.left l.source) pieces
      × ((which : Bool) → (written : List ℕ)
      × Appends (counted which (g.K.Sink.taken l.fn.sink) (g.K.Sink.accepted l.fn.sink)) (counted which (g.K.Sink.taken l.sink) (g.K.Sink.accepted l.sink)) written
      × Rounds (telling g.F.LineFormat.told g.F.LineFormat.behind g.F.LineFormat.closing) l.fn.leave_out l.fn.format pieces written l.lines l.number l.importing);
  reads : g.S.Source.faults l.source ≡ g.S.Source.faults l.fn.source;
  writes : g.K.Sink.faults l.sink ≡ g.K.Sink.faults l.fn.sink;
}

abbrev pub decreases-rounds : goal.decreases-rounds
decreases-rounds g l = 18446744073709551615 - l.number
