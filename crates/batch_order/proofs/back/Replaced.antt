-- What puts back the next write of a plan.
use Rattle.std.proofs.Common.{◌≡◌, zero, suc, List, [], slice_get, Option, Some, None, ◌∙◌, ap, true}
use Rattle.slot_pool.specs.Arrangement.{Slots}
use Rattle.rule_store.specs.Store.{StoredRules}
use Rattle.tcam_device.specs.declared.Write.{Write}
use Rattle.commit_writes.specs.Undo.{restoring}
use Rattle.batch_order.specs.declared.held.Held.{Held}
use Rattle.batch_order.specs.declared.translation.Translation.{Translation}
use Rattle.batch_order.specs.Entries.{Entries}
use Rattle.batch_order.specs.Kept.{IsManaged, held_of, held_writes, settled_state, state_of}
use Rattle.batch_order.specs.Noting.{all_undo}
use Rattle.batch_order.specs.Planning.{as_writes}
use Rattle.batch_order.specs.Steps.{next_of}
use Rattle.batch_order.proofs.back.Restored.{restoring_read}
use Rattle.batch_order.proofs.under_way.Left.{next_read}

-- The undo write at the place of the next one is what puts back what this replaces
pub restores_next : (translation : Option Translation) (rules : StoredRules) (kept : Entries) (slots : Slots) (held : Held) → IsManaged translation rules kept slots (Some held)
    → held.prepared ≡ true → held.turned ≡ None → (write : Write) → next_of (Some (held_of translation slots rules.rules kept.entries held)) ≡ Some write
    → slice_get (as_writes kept.entries held.rewrites.items (all_undo held.undo)) held.made ≡ Some (restoring (state_of translation kept.entries slots (Some held)) write)
restores_next translation rules kept slots held managed prepared forward write next =
    ap (λ (undo : List Write). slice_get undo held.made) (managed.carried.way_back prepared).undo_is
    ∙ restoring_read (settled_state translation kept.entries slots) (held_writes kept.entries held) held.made write (next_read translation rules kept slots held managed forward write next)
