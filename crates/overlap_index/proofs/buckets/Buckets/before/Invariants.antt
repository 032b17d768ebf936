use Rattle.std.proofs.Common.{◌≡◌, ◌<◌, ℕ, length, Contains}
use Rattle.overlap_index.specs.Buckets.{before_of}
use Rattle.overlap_index.proofs.buckets.Buckets.before.Given as goal

-- among those that are left the same stands before the id
abbrev pub invariant-loop-other : goal.invariant-loop-other
invariant-loop-other l = record {
  before : before_of l.before l.other-iterator l.id ≡ before_of l.bucket l.initial.other-iterator l.id;
  inside : l.before < length l.self.nexts;
  left : (other : ℕ) → Contains l.other-iterator other → other < length l.self.nexts;
}
