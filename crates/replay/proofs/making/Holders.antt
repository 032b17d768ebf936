-- The slots but for one, and which slots may be written.
use Rattle.std.proofs.Common.{◌≡◌, ℕ, ◌<◌, ◌≤◌, false, Option, None, List, length, ap, ◌∙◌, arith}
use Rattle.std.specs.Prelude.{slice_set}
use Rattle.rule_model.specs.declared.words.Entry.{Entry}
use Rattle.slot_order.specs.Order.{slot}
use Rattle.slot_order.proofs.Writes.{slot_same}
use Rattle.tcam_device.specs.declared.Write.{Write}
use Rattle.tcam_device.specs.declared.Write.TheVariants.{Slot, Table}
use Rattle.tcam_device.specs.Insertion.{holds_match}
use Rattle.tcam_device.specs.State.{IsInUse}

-- where one is left out, no entry stands there
pub left-out : (slots : List (Option Entry)) (own at : ℕ) (entry : Entry) → own < length slots → at ≡ own → holds_match entry (slot (slice_set slots own None) at) ≡ false
left-out slots own at entry inside same =
    ap (λ place. holds_match entry (slot (slice_set slots own None) place)) same ∙ ap (holds_match entry) (slot_same slots own None inside)

-- a write to slots in use is one to a device with more of them
pub in-use-more : (few slots : ℕ) (write : Write) → few ≤ slots → IsInUse few write → IsInUse slots write
in-use-more few slots (Slot at entry) within inside = omega (arith, within, inside)
in-use-more few slots (Table field port word) within inside = tt
