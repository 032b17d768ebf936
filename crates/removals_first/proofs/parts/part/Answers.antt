use Rattle.removals_first.specs.Early.{spared_rules}
use Rattle.removals_first.proofs.FromLowest.{early-is, late-is}
use Rattle.removals_first.proofs.parts.part.Goals as goal

pub returns-clause-early : goal.returns-clause-early
returns-clause-early c =
    early-is (spared_rules c.args.rules.now.rules c.args.batch.now) c.in_ok-early.early.ranks.items c.in_ok-first.first c.in_ok-first.ensures c.in_ok-early.ensures.ranks_are

pub returns-clause-late : goal.returns-clause-late
returns-clause-late c =
    late-is (spared_rules c.args.rules.now.rules c.args.batch.now) c.in_ok-early.early.set c.args.batch.now c.in_ok-late.late c.in_ok-late.ensures c.in_ok-early.ensures.set_is
