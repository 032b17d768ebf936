use Rattle.std.proofs.Common.{◌-◌}
use Rattle.prefix_trie.specs.Nodes.{len_at}
use Rattle.prefix_trie.specs.Trie.{IsOver}
use Rattle.prefix_trie.proofs.search.deepest.Given as goal

abbrev pub invariant-loop-next : goal.invariant-loop-next
invariant-loop-next l = IsOver l.nodes l.block l.at

abbrev pub decreases-loop-next : goal.decreases-loop-next
decreases-loop-next l = 128 - len_at l.nodes l.at
