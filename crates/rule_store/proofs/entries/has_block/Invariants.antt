use Rattle.std.proofs.Common.{◌≡◌, false, take}
use Rattle.std.specs.List.{list_any}
use Rattle.rule_model.specs.PortRange.{same_range}
use Rattle.rule_store.proofs.entries.has_block.Given as goal

-- none of the blocks so far
abbrev pub invariant-loop-i : goal.invariant-loop-i
invariant-loop-i l = list_any (same_range l.block) (take l.i l.cover) ≡ false
