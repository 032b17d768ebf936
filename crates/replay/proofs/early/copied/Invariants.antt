use Rattle.std.proofs.Common.{◌≡◌, ◌+◌, ◌≤◌, take}
use Rattle.replay.proofs.early.copied.Given as goal

-- the first rules are in, and there is room for the others
abbrev pub invariant-loop-i : goal.invariant-loop-i
invariant-loop-i l = record { in_it : l.copy.rules ≡ take l.i l.rules.rules; room : l.count ≤ l.i + l.copy.spare }
