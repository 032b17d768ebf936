use Rattle.prefix_trie.specs.Nodes.{len_at}
use Rattle.prefix_trie.specs.Nested.{IsPassed}
use Rattle.prefix_trie.proofs.nested.next_up.Given as goal

abbrev pub invariant-loop-parent : goal.invariant-loop-parent
invariant-loop-parent l = IsPassed l.nodes l.block l.from l.at

abbrev pub decreases-loop-parent : goal.decreases-loop-parent
decreases-loop-parent l = len_at l.nodes l.at
