use Rattle.std.proofs.Common.{◌≡◌, ℕ, ◌+◌, ◌*◌, ◌<◌, ◌≤◌}
use Rattle.word_tree.specs.Tree.{bit_of}
use Rattle.slot_pool.proofs.flat.next_marked.Given as goal

-- no bit so far is 1
abbrev pub invariant-loop-word : goal.invariant-loop-word
invariant-loop-word l = record {
  bit : l.first < 64;
  start : l.from ≤ l.word * 64 + l.first;
  none : (k : ℕ) → l.from ≤ k → k < l.word * 64 + l.first → bit_of l.words k ≡ 0;
}
