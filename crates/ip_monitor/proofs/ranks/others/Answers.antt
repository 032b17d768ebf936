use Rattle.std.proofs.Common.{refl, sym, ◌∙◌, arith}
use Rattle.ip_monitor.proofs.Lists.{no_rank, others-next, others-end}
use Rattle.ip_monitor.proofs.ranks.others.Goals as goal

pub loop-rank-preserved : goal.loop-rank-preserved
loop-rank-preserved c = record {
  same = c.loop-rank.invariant.same ∙ others-next c.args.ranks.now _ _ c.args.metric c.loop-rank.rank-index _ no_rank (omega arith) refl c.in_ok-put_other.ensures;
}

pub returns : goal.returns
returns c = sym (c.loop-rank.invariant.same ∙ others-end c.args.ranks.now _ c.args.metric c.loop-rank.rank-index (omega arith))
