use Rattle.std.proofs.Common.{◌≡◌, ◌≤◌, ◌-◌, ℕ, List}
use Rattle.script_lines.specs.Given.{HasEnd, MayGive, GivesPieces}
use Rattle.script_lines.specs.declared.Over.TheVariants as over
use Rattle.explain_router.specs.Explained.{AreFew, IsStanding}
use Rattle.explain_router.proofs.explain_router_script.Given as goal

abbrev pub invariant-rounds : goal.invariant-rounds
invariant-rounds g l = record {
  few : AreFew l.counts;
  within : l.lines.before ≤ 268435456;
  gives : (pieces : List (List ℕ)) × GivesPieces (g.S.Source.given l.fn.source) (g.S.Source.given l.source) (g.S.Source.left l.fn.source) (g.S.Source.left l.source) pieces
      × (HasEnd pieces → l.lines.over ≡ over.Ended)
      × ((text now : List ℕ) → MayGive text pieces now → IsStanding l.wanted text l.lines now l.counts);
  reads : g.S.Source.faults l.source ≡ g.S.Source.faults l.fn.source;
  writes : g.K.Sink.faults l.sink ≡ g.K.Sink.faults l.fn.sink;
}

abbrev pub decreases-rounds : goal.decreases-rounds
decreases-rounds g l = 268435456 - l.lines.before
