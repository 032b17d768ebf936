use Rattle.std.proofs.Common.{sym, subst, ◌∙◌}
use Rattle.prefix_trie.specs.declared.node.Node.{Node}
use Rattle.prefix_trie.specs.Trie.{IsTopInside}
use Rattle.prefix_trie.proofs.Ways.{one_node}
use Rattle.prefix_trie.proofs.Tops.{tops_inside}
use Rattle.prefix_trie.proofs.search.last_inside.Goals as goal

pub returns : goal.returns
returns c x x_is =
    let read = one_node c.args.nodes.now c.args.at c.node_at.result x c.node_at.ensures x_is in
    subst (λ (n : Node). IsTopInside c.args.nodes.now n.prefix c.get.result) read
    (subst (IsTopInside c.args.nodes.now c.node_at.result.prefix) (sym (c.get.ensures ∙ c.top_below.ensures))
    (tops_inside c.args.nodes.now c.requires.trie c.args.at c.node_at.result (λ at node is longer. c.requires.tops at node is) c.node_at.ensures))
