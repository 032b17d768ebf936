use Rattle.std.proofs.Common.{◌-◌, ◌/◌, refl, ◌∙◌, arith}
use Rattle.iptables.proofs.Pieces.{beside-next, half-below}
use Rattle.iptables.proofs.blocks.put_beside.Goals as goal

pub lengths-preserved : goal.lengths-preserved
lengths-preserved c = record {
  put = beside-next c.args.side c.args.which c.lengths.bits c.lengths.left (c.lengths.left - 1) (c.lengths.bits / 2) c.lengths.into.items c.put_sibling.new.into.items (omega arith) refl c.in_ok-put_sibling.ensures
      ∙ c.lengths.invariant.put;
  length = omega arith;
  fits = half-below c.lengths.bits c.lengths.left (c.lengths.left - 1) (omega arith) c.lengths.invariant.fits;
}
