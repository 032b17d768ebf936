use Rattle.std.proofs.Common.{◌≡◌, ℕ, ◌-◌, ◌<◌, ◌≤◌, false, length}
use Rattle.overlap_index.specs.Near.{is_near}
use Rattle.overlap_index.proofs.columns.Columns.next_near.Given as goal

-- none that was passed over is near
abbrev pub invariant-loop-next : goal.invariant-loop-next
invariant-loop-next l = record {
  from : l.at ≤ l.next;
  inside : l.next ≤ length l.self.dst_firsts;
  passed : (k : ℕ) → l.at ≤ k → k < l.next → is_near l.self l.spans k ≡ false;
}

abbrev pub decreases-loop-next : goal.decreases-loop-next
decreases-loop-next l = l.places - l.next
