use Rattle.std.proofs.Common.{◌≡◌, ◌+◌, length, sym, ◌∙◌, ap, subst}
use Rattle.word_tree.specs.Marks.{IsNextSet}
use Rattle.slot_pool.proofs.FreeSlots.{free_marks, next_is}
use Rattle.slot_pool.proofs.Arrangement.next_free_above.Goals as goal

pub returns : goal.returns
returns c =
    let slots = c.self.inside.slots.items in
    let all : c.slots.result ≡ length slots = c.slots.ensures.number ∙ sym (ap length c.self.view_is) in
    rw (← c.self.view_is) (sym (next_is slots c.args.slot c.next.result
    (subst (λ to. IsNextSet (free_marks slots) (c.args.slot + 1) to c.next.result) all
    (subst (λ marks. IsNextSet marks (c.args.slot + 1) c.slots.result c.next.result) c.self.invariant.3 c.next.ensures))))
