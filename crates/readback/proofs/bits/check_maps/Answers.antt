use Rattle.readback.proofs.SetBits.{both_set}
use Rattle.readback.proofs.bits.check_maps.Goals as goal

pub returns-clause-are : goal.returns-clause-are
returns-clause-are c =
    both_set c.args.mode c.args.parts.now.rules.rules (record { src = c.args.parts.now.src; dst = c.args.parts.now.dst })
    (c.is_right_map.ensures.right.0 c.if-not-is_right_map.false) (c.is_right_map-2.ensures.right.0 c.if-not-is_right_map-2.false)
