use Rattle.prefix_trie.specs.Nodes.{len_at}
use Rattle.prefix_trie.specs.Sought.{part_of}
use Rattle.prefix_trie.specs.Trie.{IsWayUp}
use Rattle.prefix_trie.proofs.search.nearest.Given as goal

abbrev pub invariant-loop-next : goal.invariant-loop-next
invariant-loop-next l = IsWayUp (part_of l.sought) l.nodes l.from l.at

abbrev pub decreases-loop-next : goal.decreases-loop-next
decreases-loop-next l = len_at l.nodes l.at
