use Rattle.std.proofs.Common.{arith}
use Rattle.range_bits.proofs.Words.{rest_of-none, live_exactly, others_kept}
use Rattle.range_bits.proofs.BitMap.word_for.Goals as goal

pub returns-clause-word : goal.returns-clause-word
returns-clause-word c =
    let size = c.self.invariant.places in
    rest_of-none c.self.inside.ranges c.args.self.now c.args.port c.args.old c.loop-live.word c.loop-live.live c.self.view_is (omega arith) c.loop-live.invariant

pub returns-clause-live : goal.returns-clause-live
returns-clause-live c = live_exactly c.args.self.now c.args.port c.args.old c.loop-live.word (returns-clause-word c)

pub returns-clause-others : goal.returns-clause-others
returns-clause-others c = others_kept c.args.self.now c.args.port c.args.old c.loop-live.word (returns-clause-word c)
