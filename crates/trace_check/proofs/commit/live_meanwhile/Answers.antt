use Rattle.std.proofs.Common.{◌∙◌}
use Rattle.readback.proofs.SetBits.{src_fits, dst_fits, cover_meanwhile, bits_meanwhile}
use Rattle.trace_check.proofs.commit.live_meanwhile.Goals as goal

pub with_new-requires-clause-src : goal.with_new-requires-clause-src
with_new-requires-clause-src c = src_fits c.args.mode c.args.rules.now.rules c.args.batch.now c.args.bits.now c.in-Bits.is c.requires.are c.requires.src c.requires.few

pub with_new-requires-clause-dst : goal.with_new-requires-clause-dst
with_new-requires-clause-dst c = dst_fits c.args.mode c.args.rules.now.rules c.args.batch.now c.args.bits.now c.in-Bits.is c.requires.are c.requires.dst c.requires.few

pub returns-in-Cover-clause-during : goal.returns-in-Cover-clause-during
returns-in-Cover-clause-during c = cover_meanwhile c.args.mode c.args.rules.now.rules c.args.batch.now c.args.bits.now c.in-Cover.is c.requires.are c.requires.src c.requires.dst

pub returns-in-Bits-clause-during : goal.returns-in-Bits-clause-during
returns-in-Bits-clause-during c = c.with_new.ensures ∙ bits_meanwhile c.args.mode c.args.rules.now.rules c.args.batch.now c.args.bits.now c.in-Bits.is c.requires.are
