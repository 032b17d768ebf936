use Rattle.readback.proofs.SetBits.{cover_right, bits_right}
use Rattle.readback.proofs.bits.is_right_map.Goals as goal

pub returns-in-Cover-clause-right : goal.returns-in-Cover-clause-right
returns-in-Cover-clause-right c =
    cover_right c.args.mode c.args.field c.args.rules.now.rules c.args.live.now c.live-count.result c.in-Cover.is c.live-count.ensures.number c.live-count.ensures.map

pub returns-in-Bits-clause-right : goal.returns-in-Bits-clause-right
returns-in-Bits-clause-right c = bits_right c.args.mode c.args.field c.args.rules.now.rules c.args.live.now c.is_map_of.result c.in-Bits.is c.is_map_of.ensures
