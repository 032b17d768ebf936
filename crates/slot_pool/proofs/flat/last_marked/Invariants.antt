use Rattle.std.proofs.Common.{◌≡◌, ℕ, ◌+◌, ◌*◌, ◌<◌, ◌≤◌}
use Rattle.word_tree.specs.Tree.{bit_of}
use Rattle.slot_pool.proofs.flat.last_marked.Given as goal

-- no bit so far is 1
abbrev pub invariant-loop-word : goal.invariant-loop-word
invariant-loop-word l = record {
  bit : l.end ≤ 64;
  end : l.word * 64 + l.end ≤ l.to + 64;
  none : (k : ℕ) → l.word * 64 + l.end ≤ k + 64 → k < l.to → bit_of l.words k ≡ 0;
}
