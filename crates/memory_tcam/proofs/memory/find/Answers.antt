use Rattle.std.proofs.Common.{◌≡◌, None, Some, sym, ◌∙◌, ap}
use Rattle.tcam_device.specs.State.{told}
use Rattle.memory_tcam.proofs.Least.{least_found, none_found}
use Rattle.memory_tcam.proofs.memory.find.Goals as goal

pub returns-in_err-slot : goal.returns-in_err-slot
returns-in_err-slot c =
    c.from_residual.ensures ∙ sym (ap told (none_found c.args.slots.now c.args.word.now (sym c.in_err-slot.ensures)))

pub returns-in_err-entry : goal.returns-in_err-entry
returns-in_err-entry c =
    let first = least_found c.args.slots.now c.args.word.now c.in_ok-slot.slot (sym c.in_ok-slot.ensures) in
    absurd (let empty : None ≡ Some first.entry = c.in_err-entry.ensures ∙ first.stands in cc)

pub returns : goal.returns
returns c =
    let first = least_found c.args.slots.now c.args.word.now c.in_ok-slot.slot (sym c.in_ok-slot.ensures) in
    let same : Some c.in_ok-entry.entry ≡ Some first.entry = c.in_ok-entry.ensures ∙ first.stands in
    ap told same ∙ sym (ap told first.found)
