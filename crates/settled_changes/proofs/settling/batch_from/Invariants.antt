use Rattle.std.proofs.Common.{◌≡◌, ◌++◌, length}
use Rattle.settled_changes.proofs.settling.batch_from.Given as goal

-- the commands of the batch and those that are left
abbrev pub invariant-loop-command : goal.invariant-loop-command
invariant-loop-command l = l.batch ++ l.commands.items ≡ l.fn.commands.items

abbrev pub decreases-loop-command : goal.decreases-loop-command
decreases-loop-command l = length l.commands.items
