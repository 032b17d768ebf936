use Rattle.std.proofs.Common.{◌≡◌, ℕ, suc, ◌+◌, ◌/◌, ◌<◌}
use Rattle.word_tree.specs.Tree.{bit_of, ancestor, IsInLevel}
use Rattle.word_tree.proofs.tree.last_leaf.Given as goal

-- whatever lies in an earlier word lies before the bit that is that many levels above
abbrev pub invariant-loop-level : goal.invariant-loop-level
invariant-loop-level l = record {
  at : (h : ℕ) → l.level + h ≡ suc l.depth → l.at ≡ ancestor h l.last;
  none : (h p : ℕ) → l.level + h ≡ suc l.depth → IsInLevel l.depth p → bit_of l.words p ≡ 1 → p / 64 < l.last / 64 → ancestor h p < l.at;
}
