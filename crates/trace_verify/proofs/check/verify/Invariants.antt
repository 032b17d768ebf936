use Rattle.std.proofs.Common.{◌≡◌, ◌-◌, ℕ, List}
use Rattle.script_lines.specs.Given.{HasEnd, MayGive, GivesPieces}
use Rattle.script_lines.specs.declared.Over.TheVariants as over
use Rattle.trace_verify.specs.Verify.{IsNeeded}
use Rattle.trace_verify.specs.Rounds.{IsAnew, RoundBegins}
use Rattle.trace_verify.proofs.check.verify.Given as goal

abbrev pub invariant-rounds : goal.invariant-rounds
invariant-rounds g l = record {
  anew : IsAnew l.lines;
  gives : (pieces : List (List ℕ)) × GivesPieces (g.S.Source.given l.fn.source) (g.S.Source.given l.source) (g.S.Source.left l.fn.source) (g.S.Source.left l.source) pieces
      × (HasEnd pieces → l.lines.over ≡ over.Ended)
      × ((text now : List ℕ) → MayGive text pieces now → RoundBegins text l.lines now l.number l.checker)
      × IsNeeded pieces;
  reads : g.S.Source.faults l.source ≡ g.S.Source.faults l.fn.source;
}

abbrev pub decreases-rounds : goal.decreases-rounds
decreases-rounds g l = 18446744073709551615 - l.number
