use Rattle.std.proofs.Common.{length, sym, ap, subst, arith}
use Rattle.word_tree.specs.Marks.{IsLastSet}
use Rattle.slot_pool.proofs.FreeSlots.{last_is}
use Rattle.slot_pool.proofs.Arrangement.last_free_below.Goals as goal

pub returns : goal.returns
returns c =
    let size = ap length c.self.view_is in
    rw (← c.self.view_is) (sym (last_is c.self.inside.slots.items c.args.slot c.last.result (let inside = c.requires in omega arith)
    (subst (λ marks. IsLastSet marks 0 c.args.slot c.last.result) c.self.invariant.3 c.last.ensures)))
