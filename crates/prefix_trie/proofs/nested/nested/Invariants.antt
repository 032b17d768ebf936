use Rattle.prefix_trie.specs.Nested.{IsWalked}
use Rattle.prefix_trie.proofs.nested.nested.Given as goal

abbrev pub invariant-loop-left : goal.invariant-loop-left
invariant-loop-left l = IsWalked l.nodes l.block l.at l.ids.items

abbrev pub decreases-loop-left : goal.decreases-loop-left
decreases-loop-left l = l.left
