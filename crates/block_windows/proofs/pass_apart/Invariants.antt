use Rattle.std.proofs.Common.{◌≡◌, ℕ, ◌-◌, ◌<◌, ◌≤◌, false, length}
use Rattle.block_windows.specs.Windows.{meets_at}
use Rattle.block_windows.proofs.pass_apart.Given as goal

-- none that was passed over has a number in common with the span
abbrev pub invariant-loop-next : goal.invariant-loop-next
invariant-loop-next l = record {
  from : l.at ≤ l.next;
  inside : l.next ≤ length l.firsts;
  passed : (k : ℕ) → l.at ≤ k → k < l.next → meets_at l.firsts l.lasts l.span k ≡ false;
}

abbrev pub decreases-loop-next : goal.decreases-loop-next
decreases-loop-next l = length l.firsts - l.next
