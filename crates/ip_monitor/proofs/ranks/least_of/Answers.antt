use Rattle.std.proofs.Common.{refl, Some, sym, ap, ◌∙◌, arith}
use Rattle.ip_monitor.specs.Ranks.{least_of}
use Rattle.ip_monitor.proofs.Lists.{no_rank, least-next, least-end}
use Rattle.ip_monitor.proofs.ranks.least_of.Goals as goal

pub loop-rank-init : goal.loop-rank-init
loop-rank-init c = record { same = ap least_of c.in-Some.ensures.cases.0 }

pub loop-rank-preserved : goal.loop-rank-preserved
loop-rank-preserved c = record {
  same = c.loop-rank.invariant.same ∙ ap Some (least-next _ _ _ c.loop-rank.rank-index _ no_rank (omega arith) refl c.lesser-least.ensures);
}

pub returns : goal.returns
returns c = sym (c.loop-rank.invariant.same ∙ ap Some (least-end _ _ c.loop-rank.rank-index (omega arith)))
