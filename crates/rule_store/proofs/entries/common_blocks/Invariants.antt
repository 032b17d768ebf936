use Rattle.std.proofs.Common.{◌≡◌, ◌≤◌, take}
use Rattle.rule_store.specs.Common.{common_blocks}
use Rattle.rule_store.proofs.entries.common_blocks.Given as goal

-- of the blocks so far
abbrev pub invariant-loop-i : goal.invariant-loop-i
invariant-loop-i l = record { so_far : l.count ≡ common_blocks (take l.i l.a) l.b; most : l.count ≤ l.i }
