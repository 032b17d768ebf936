use Rattle.std.proofs.Common.{◌≡◌, ◌-◌, ℕ, List}
use Rattle.script_lines.specs.Given.{GivesPieces}
use Rattle.trace_verify.specs.Rounds.{IsAnew}
use Rattle.driver_verify.proofs.Whole.{Rounds}
use Rattle.driver_verify.proofs.check.verify_driver.Given as goal

abbrev pub invariant-rounds : goal.invariant-rounds
invariant-rounds g l = record {
  anew : IsAnew l.lines;
  gives : (pieces : List (List ℕ)) × GivesPieces (g.S.Source.given l.fn.source) (g.S.Source.given l.source) (g.S.Source.left l.fn.source) (g.S.Source.left l.source) pieces
      × Rounds l.fn.by pieces l.lines l.number l.judge;
  reads : g.S.Source.faults l.source ≡ g.S.Source.faults l.fn.source;
}

abbrev pub decreases-rounds : goal.decreases-rounds
decreases-rounds g l = 18446744073709551615 - l.number
