use Rattle.std.proofs.Common.{length, sym, ap, subst, arith}
use Rattle.word_tree.specs.Marks.{IsNearestSet}
use Rattle.slot_pool.proofs.FreeSlots.{nearest_is}
use Rattle.slot_pool.proofs.Arrangement.nearest_free.Goals as goal

pub returns : goal.returns
returns c =
    let size = ap length c.self.view_is in
    rw (← c.self.view_is) (sym (nearest_is c.self.inside.slots.items c.args.from c.args.to c.args.mid c.nearest.result (let to = c.requires.to in omega arith)
    (subst (λ marks. IsNearestSet marks c.args.from c.args.to c.args.mid c.nearest.result) c.self.invariant.3 c.nearest.ensures)))
