use Rattle.std.proofs.Common.{◌≡◌, false, take}
use Rattle.std.specs.List.{list_any}
use Rattle.rule_model.specs.Entry.{entry_for}
use Rattle.readback.specs.Tasks.{holds_told}
use Rattle.readback.proofs.standing.is_told.Given as goal

-- none of the first slots does
abbrev pub invariant-loop-slot : goal.invariant-loop-slot
invariant-loop-slot l = list_any (holds_told (entry_for l.piece)) (take l.slot-index l.held) ≡ false
