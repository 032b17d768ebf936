use Rattle.std.proofs.Common.{refl, sym, ◌∙◌, arith}
use Rattle.ip_monitor.proofs.Lists.{no_rank, number-found, number-passed, number-none}
use Rattle.ip_monitor.proofs.ranks.number_at.Goals as goal

pub loop-rank-preserved : goal.loop-rank-preserved
loop-rank-preserved c = record {
  same = c.loop-rank.invariant.same ∙ number-passed c.args.ranks.now c.args.metric c.loop-rank.rank-index _ no_rank (omega arith) refl (sym c.is_at.ensures ∙ c.if-is_at.false);
}

pub returns-then-is_at : goal.returns-then-is_at
returns-then-is_at c =
    sym (c.loop-rank.invariant.same ∙ number-found c.args.ranks.now c.args.metric c.loop-rank.rank-index _ no_rank (omega arith) refl (sym c.is_at.ensures ∙ c.if-is_at.true))

pub returns : goal.returns
returns c = sym (c.loop-rank.invariant.same ∙ number-none c.args.ranks.now c.args.metric c.loop-rank.rank-index (omega arith))
