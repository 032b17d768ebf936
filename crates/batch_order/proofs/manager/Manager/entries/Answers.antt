use Rattle.std.proofs.Common.{◌≡◌, ◌≤◌, ◌∙◌, ap, arith}
use Rattle.slot_order.specs.Order.{most_slots}
use Rattle.rule_store.specs.declared.Mode.{Mode}
use Rattle.rule_store.specs.Verdict.{entries_of}
use Rattle.batch_order.specs.Kept.{mode_of}
use Rattle.batch_order.proofs.planning.Judged.{entries_few}
use Rattle.batch_order.proofs.manager.Manager.entries.Goals as goal

pub overflow_cast-result : goal.overflow_cast-result
overflow_cast-result c =
    let i = c.self.inside in
    let few : entries_of (mode_of i.translation) i.rules.rules ≤ most_slots = entries_few i.translation i.rules i.live i.arrangement i.held c.self.invariant.0 in
    let is : c.entries_of.result ≡ entries_of (mode_of i.translation) i.rules.rules = c.entries_of.ensures.count ∙ ap (λ (m : Mode). entries_of m i.rules.rules) c.encoding.ensures in
    omega arith
