use Rattle.prefix_trie.specs.Nodes.{bare, left_up}
use Rattle.prefix_trie.specs.Trie.{IsTrie, AreLike, IsClimb}
use Rattle.prefix_trie.proofs.growth.climb.Given as goal

abbrev pub invariant-loop-next : goal.invariant-loop-next
invariant-loop-next l = record {
  trie : IsTrie l.nodes;
  like : AreLike bare l.initial.nodes l.nodes;
  on : IsClimb l.nodes l.next;
}

abbrev pub decreases-loop-next : goal.decreases-loop-next
decreases-loop-next l = left_up l.nodes l.next
