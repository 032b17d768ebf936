use Rattle.std.proofs.Common.{ℕ, ◌≤◌, ◌∙◌, [], ap, sym, subst}
use Rattle.batch_order.specs.Entries.{Entries}
use Rattle.batch_order.specs.Managed.{Managed, IsOn}
use Rattle.batch_order.proofs.Told.{told_empty}
use Rattle.batch_order.proofs.under_way.Begun.{begun_managed}
use Rattle.batch_order.proofs.under_way.Carried.{fresh_view, on_blank}
use Rattle.batch_order.proofs.manager.Manager.new.Goals as goal

pub invariant_of-result : goal.invariant_of-result
invariant_of-result c =
    let kept = c.in_ok-blank_translation.ensures in (
      begun_managed c.args.slots c.args.mode c.in_ok-blank_translation.field-0 c.new-2.result c.in_ok-new.field-0 c.of.result c.requires.most
          kept.mode kept.bits kept.tables c.new-2.ensures.rules c.in_ok-new.ensures (c.of.ensures ∙ c.in_ok-planned.ensures),
      sym c.of.ensures,
      told_empty c.in_ok-new.field-0 c.in_ok-planned.planned (ap (λ (kept : Entries). kept.live) c.in_ok-new.ensures),
    )

pub returns-clause-fresh : goal.returns-clause-fresh
returns-clause-fresh c =
    let kept = c.in_ok-blank_translation.ensures in
    fresh_view c.args.slots c.args.mode c.args.placement c.in_ok-blank_translation.field-0 c.new-2.result c.in_ok-new.field-0 c.of.result
    kept.mode kept.bits kept.tables c.new-2.ensures.rules (c.of.ensures ∙ c.in_ok-planned.ensures)

pub returns-clause-on_blank : goal.returns-clause-on_blank
returns-clause-on_blank c =
    let kept = c.in_ok-blank_translation.ensures in
    let view = fresh_view c.args.slots c.args.mode c.args.placement c.in_ok-blank_translation.field-0 c.new-2.result c.in_ok-new.field-0 c.of.result
    kept.mode kept.bits kept.tables c.new-2.ensures.rules (c.of.ensures ∙ c.in_ok-planned.ensures) in
    subst (λ (m : Managed). (device_slots : ℕ) → c.args.slots ≤ device_slots → IsOn device_slots [] m) (sym view) (λ device_slots within. on_blank c.args.slots device_slots c.args.mode c.args.placement within)
