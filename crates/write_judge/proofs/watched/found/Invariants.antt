use Rattle.std.proofs.Common.{◌≡◌, drop}
use Rattle.slot_order.specs.Order.{first_hit}
use Rattle.rule_model.specs.Entry.{hits}
use Rattle.tcam_device.specs.State.{told}
use Rattle.write_judge.proofs.watched.found.Given as goal

-- the rest of the slots answers as all do
abbrev pub invariant-loop-held : goal.invariant-loop-held
invariant-loop-held l = told (first_hit hits l.slots l.word) ≡ told (first_hit hits (drop l.held-index l.slots) l.word)
