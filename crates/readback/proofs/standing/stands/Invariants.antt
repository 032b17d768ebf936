use Rattle.std.proofs.Common.{◌≡◌, false, take}
use Rattle.std.specs.List.{list_any}
use Rattle.rule_model.specs.Entry.{entry_for}
use Rattle.tcam_device.specs.Insertion.{holds_match}
use Rattle.readback.proofs.standing.stands.Given as goal

-- none of the first slots does
abbrev pub invariant-loop-slot : goal.invariant-loop-slot
invariant-loop-slot l = list_any (holds_match (entry_for l.piece)) (take l.slot-index l.held) ≡ false
