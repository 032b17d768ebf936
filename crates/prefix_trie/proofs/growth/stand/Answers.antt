use Rattle.std.proofs.Common.{Some, Option, List, refl, sym, subst}
use Rattle.std.specs.Prelude.{slice_set}
use Rattle.prefix_trie.specs.declared.node.Node.{Node}
use Rattle.prefix_trie.specs.Nodes.{links, bare, with_entry}
use Rattle.prefix_trie.specs.Trie.{IsTrie, HaveTopsPast, AreLike}
use Rattle.prefix_trie.proofs.Ways.{one_node}
use Rattle.prefix_trie.proofs.Likes.{set-like, trie-like, within}
use Rattle.prefix_trie.proofs.Climbs.{entry-past}
use Rattle.prefix_trie.proofs.growth.stand.Goals as goal

pub set_node-requires : goal.set_node-requires
set_node-requires c = within c.args.nodes.now c.args.at c.node_at-node.result c.node_at-node.ensures

pub climb-requires-clause-trie : goal.climb-requires-clause-trie
climb-requires-clause-trie c =
    subst IsTrie (sym c.set_node.ensures)
    (trie-like c.args.nodes.now (slice_set c.args.nodes.now c.args.at (Some (with_entry c.node_at-node.result c.args.id c.args.slot))) (set-like links c.args.nodes.now c.args.at c.node_at-node.result (with_entry c.node_at-node.result c.args.id c.args.slot) c.node_at-node.ensures refl) c.requires.trie)

pub climb-requires-clause-past : goal.climb-requires-clause-past
climb-requires-clause-past c =
    subst (λ (ns : List (Option Node)). HaveTopsPast ns c.args.at) (sym c.set_node.ensures)
    (entry-past c.args.nodes.now c.requires.trie c.requires.tops c.args.at c.node_at-node.result c.args.id c.args.slot c.node_at-node.ensures)

pub returns-clause-like : goal.returns-clause-like
returns-clause-like c x x_is =
    let read = one_node c.args.nodes.now c.args.at c.node_at-node.result x c.node_at-node.ensures x_is in
    subst (λ (n : Node). AreLike bare (slice_set c.args.nodes.now c.args.at (Some (with_entry n c.args.id c.args.slot))) c.climb.new.nodes) read
    (subst (λ (ns : List (Option Node)). AreLike bare ns c.climb.new.nodes) c.set_node.ensures c.climb.ensures.like)
