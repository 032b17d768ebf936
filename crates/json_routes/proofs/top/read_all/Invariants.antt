use Rattle.std.proofs.Common.{◌≡◌}
use Rattle.json_routes.proofs.Texts.{HasRead}
use Rattle.json_routes.proofs.top.read_all.Given as goal

abbrev pub invariant-loop-left : goal.invariant-loop-left
invariant-loop-left g l = record {
  read : HasRead (g.S.Source.given l.fn.source) (g.S.Source.given l.source) (g.S.Source.left l.fn.source) (g.S.Source.left l.source) l.text.items;
  faults : g.S.Source.faults l.source ≡ g.S.Source.faults l.fn.source;
}

abbrev pub decreases-loop-left : goal.decreases-loop-left
decreases-loop-left g l = l.left
