use Rattle.std.proofs.Common.{◌≡◌, subst, sym}
use Rattle.rule_store.specs.declared.Mode.TheVariants.{Cover}
use Rattle.commit_writes.specs.Bits.{FieldBits}
use Rattle.readback.specs.Fault.{AreSetBits}
use Rattle.batch_order.specs.Kept.{bits_of, mode_of, tables_of}
use Rattle.batch_order.specs.Managed.{Managed, HasBlankTables}
use Rattle.batch_order.proofs.under_way.Carried.{view_of}
use Rattle.batch_order.proofs.served.Leaves.{set_bits_of}
use Rattle.batch_order.proofs.served.Plain.{blank_by_covers}
use Rattle.batch_order.proofs.manager.Manager.into_parts.Goals as goal

pub returns-clause-plain : goal.returns-clause-plain
returns-clause-plain c =
    let i = c.self.inside in
    let view : view_of i.placement i.translation i.rules i.live i.arrangement i.held ≡ c.args.self = c.self.view_is in
    subst (λ (m : Managed). m.mode ≡ Cover → HasBlankTables m.state) view (λ cover. blank_by_covers i.translation i.rules i.live i.arrangement i.held c.self.invariant.0 cover)

pub returns-clause-set_bits : goal.returns-clause-set_bits
returns-clause-set_bits c =
    let i = c.self.inside in
    let view : view_of i.placement i.translation i.rules i.live i.arrangement i.held ≡ c.args.self = c.self.view_is in
    let maps : FieldBits = record { src = c.maps_of-src.result.0; dst = c.maps_of-src.result.1 } in
    subst (λ (m : Managed). AreSetBits m.mode m.rules maps) view
    (subst (AreSetBits (mode_of i.translation) i.rules.rules) (sym c.maps_of-src.ensures)
    (set_bits_of (mode_of i.translation) (bits_of i.translation) i.rules.rules (tables_of i.translation) c.self.invariant.0.translated))
