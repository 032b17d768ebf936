-- What a device answers that made the next write already.
use Rattle.std.proofs.Common.{◌≡◌, ℕ, ◌≤◌, List, length, Option, Some, None, sym, ap, subst, ◌∙◌}
use Rattle.slot_pool.specs.Arrangement.{Slots}
use Rattle.rule_store.specs.Store.{StoredRules}
use Rattle.tcam_device.specs.declared.Write.{Write}
use Rattle.tcam_device.specs.State.{State, IsInUse, apply, replay, on_device}
use Rattle.batch_order.specs.declared.Placement.{Placement}
use Rattle.batch_order.specs.declared.held.Held.{Held}
use Rattle.batch_order.specs.declared.translation.Translation.{Translation}
use Rattle.batch_order.specs.Entries.{Entries}
use Rattle.batch_order.specs.Going.{around}
use Rattle.batch_order.specs.Kept.{IsManaged, bits_of, current_of, held_of, state_of}
use Rattle.batch_order.specs.Managed.{Managed, IsOn, Serves}
use Rattle.batch_order.specs.Steps.{next_of}
use Rattle.batch_order.proofs.served.Answered.{idle_answers, held_answers}
use Rattle.batch_order.proofs.under_way.Carried.{view_of, on_device-apply}
use Rattle.batch_order.proofs.under_way.Going.{stands_ahead}

-- on a device that it has written, each key is answered as a manager promises
pub serves : (placement : Placement) (translation : Option Translation) (rules : StoredRules) (kept : Entries) (slots : Slots) (held : Option Held) → IsManaged translation rules kept slots held
    → (device_slots : ℕ) → length slots ≤ device_slots
    → Serves (on_device device_slots (view_of placement translation rules kept slots held).state) rules.rules (view_of placement translation rules kept slots held).held
serves placement translation rules kept slots None managed device_slots wide = idle_answers translation rules kept slots managed device_slots wide
serves placement translation rules kept slots (Some held) managed device_slots wide = held_answers translation rules kept slots held managed device_slots wide

-- and where the next write was made already
pub serves_ahead : (placement : Placement) (translation : Option Translation) (rules : StoredRules) (kept : Entries) (slots : Slots) (held : Option Held) (write : Write) → IsManaged translation rules kept slots held
    → next_of (view_of placement translation rules kept slots held).held ≡ Some write → (device_slots : ℕ) → length slots ≤ device_slots
    → Serves (on_device device_slots (apply (view_of placement translation rules kept slots held).state write)) rules.rules (view_of placement translation rules kept slots held).held
serves_ahead placement translation rules kept slots None write managed next device_slots wide = absurd (cc)
serves_ahead placement translation rules kept slots (Some held) write managed next device_slots wide =
    (stands_ahead (around (length slots) rules.rules (bits_of translation) (held_of translation slots rules.rules kept.entries held)) (current_of translation held) (state_of translation kept.entries slots (Some held))
    (held_of translation slots rules.rules kept.entries held).actions write next managed.carried.going.goes).shows device_slots wide

-- what the manager's state serves, the journal of its device does
pub by_journal : (device_slots : ℕ) (journal : List Write) (manager : Managed) → manager.slots ≤ device_slots
    → ((n : ℕ) → manager.slots ≤ n → Serves (on_device n manager.state) manager.rules manager.held) → IsOn device_slots journal manager
    → Serves (replay device_slots journal) manager.rules manager.held
by_journal device_slots journal manager wide serves on = subst (λ (s : State). Serves s manager.rules manager.held) on (serves device_slots wide)

-- also with the next write made already
pub ahead_by_journal : (device_slots : ℕ) (journal : List Write) (manager : Managed) (write : Write) → manager.slots ≤ device_slots → IsOn device_slots journal manager
    → length manager.state.slots ≡ manager.slots → IsInUse manager.slots write → Serves (on_device device_slots (apply manager.state write)) manager.rules manager.held
    → Serves (apply (replay device_slots journal) write) manager.rules manager.held
ahead_by_journal device_slots journal manager write wide on size inside serves =
    subst (λ (s : State). Serves s manager.rules manager.held)
    (on_device-apply device_slots manager.state write (subst (λ (n : ℕ). IsInUse n write) (sym size) inside) ∙ ap (λ (s : State). apply s write) on) serves
