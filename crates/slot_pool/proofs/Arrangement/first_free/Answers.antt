use Rattle.std.proofs.Common.{length, ap, subst, arith}
use Rattle.word_tree.specs.Marks.{IsNextSet}
use Rattle.slot_pool.specs.Arrangement.{IsFirstFree}
use Rattle.slot_pool.proofs.FreeSlots.{first_is}
use Rattle.slot_pool.proofs.Arrangement.first_free.Goals as goal

pub returns : goal.returns
returns c =
    let size = ap length c.self.view_is in
    subst (λ slots. IsFirstFree slots c.args.from c.args.to c.next.result) c.self.view_is
    (first_is c.self.inside.slots.items c.args.from c.args.to c.next.result (let to = c.requires in omega arith)
    (subst (λ marks. IsNextSet marks c.args.from c.args.to c.next.result) c.self.invariant.3 c.next.ensures))
