use Rattle.std.proofs.Common.{◌≡◌, ℕ, ◌-◌, ◌<◌, ◌≤◌, false}
use Rattle.trace_check.specs.Columns.{may_meet}
use Rattle.trace_check.proofs.placed.next_meeting.Given as goal

-- none that was passed over may meet
abbrev pub invariant-loop-next : goal.invariant-loop-next
invariant-loop-next l = record {
  from : l.from ≤ l.next;
  most : l.next ≤ l.to;
  passed : (k : ℕ) → l.from ≤ k → k < l.next → may_meet l.ranks l.firsts l.lasts l.of_ranks l.of_windows k ≡ false;
}

abbrev pub decreases-loop-next : goal.decreases-loop-next
decreases-loop-next l = l.to - l.next
