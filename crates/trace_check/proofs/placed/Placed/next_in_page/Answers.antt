use Rattle.std.proofs.Common.{◌<◌, ◌^◌, ◌-◌, ℕ, ◌∙◌, ap, subst, arith}
use Rattle.slot_order.specs.Order.{slot}
use Rattle.slot_order.proofs.Writes.{slot_inside}
use Rattle.trace_check.proofs.ColumnsKept.{far_piece}
use Rattle.trace_check.proofs.PagesKept.{far_page}
use Rattle.trace_check.proofs.placed.Placed.next_in_page.Goals as goal

pub returns-then-not-have_common-clause-passed : goal.returns-then-not-have_common-clause-passed
returns-then-not-have_common-clause-passed c k ranked least below there near =
    let i = c.self.inside in
    let held = ap (λ held. slot held k) c.self.view_is ∙ there in
    let cells = c.self.invariant.0.cells k ranked held in
    let inside = slot_inside i.pieces.items k ranked held in
    far_page i.pieces.items i.bounds.items c.args.ranks c.args.windows c.index.result.now c.args.from c.args.to k ranked c.self.invariant.2 (omega arith) c.index.ensures (c.have_common.ensures c.if-not-have_common.true) c.requires.page least below held
    (near (subst (λ (n : ℕ). n < 2 ^ 32 - 1) cells.rank cells.fits))

pub returns-clause-passed : goal.returns-clause-passed
returns-clause-passed c k ranked least below there near =
    let i = c.self.inside in
    let passed = rw (c.deref.ensures.value, c.deref-2.ensures.value, c.deref-3.ensures.value) at c.next_meeting.ensures.passed in
    far_piece i.pieces.items i.ranks.items i.firsts.items i.lasts.items c.args.ranks c.args.windows k ranked c.self.invariant.0 (ap (λ held. slot held k) c.self.view_is ∙ there) (passed k least below) near
