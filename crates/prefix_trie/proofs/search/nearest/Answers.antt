use Rattle.std.proofs.Common.{◌≡◌, Some, None, arith, sym, ◌∙◌, ap}
use Rattle.std.specs.Prelude.{is_some}
use Rattle.prefix_trie.specs.declared.node.Node.{Node}
use Rattle.prefix_trie.specs.Sought.{part_of}
use Rattle.prefix_trie.proofs.Ways.{one_node, len_is, parent_half, way-past, next_found, way-ended}
use Rattle.prefix_trie.proofs.search.nearest.Goals as goal

pub node_at-node-requires : goal.node_at-node-requires
node_at-node-requires c = ap is_some (c.requires.trie.parents c.loop-next.at c.in-Some.next c.node_at.result c.node_at.ensures (sym c.get.ensures ∙ c.in-Some.is)).is

pub loop-next-smaller : goal.loop-next-smaller
loop-next-smaller c =
    let half = parent_half c.args.nodes.now c.requires.trie c.loop-next.at c.in-Some.next c.node_at.result c.node_at-node.result c.node_at.ensures (sym c.get.ensures ∙ c.in-Some.is) c.node_at-node.ensures in
    let old = len_is c.args.nodes.now c.loop-next.at c.node_at.result c.node_at.ensures in
    let new = len_is c.args.nodes.now c.in-Some.next c.node_at-node.result c.node_at-node.ensures in
    let longer = half.longer in
    omega arith

pub returns : goal.returns
returns c x x_is =
    let way = c.loop-next.invariant in
    let read = one_node c.args.nodes.now c.loop-next.at c.node_at.result way.node c.node_at.ensures way.is in
    let parent : way.node.parent ≡ None = sym (ap (λ (n : Node). n.parent) read) ∙ (sym c.get.ensures ∙ c.in_default.is) in
    way-ended (part_of c.args.sought) c.args.nodes.now c.requires.trie c.args.from c.loop-next.at x way parent x_is

pub returns-in-Some-get : goal.returns-in-Some-get
returns-in-Some-get c x x_is =
    let way = c.loop-next.invariant in
    let read = one_node c.args.nodes.now c.loop-next.at c.node_at.result way.node c.node_at.ensures way.is in
    let parent : way.node.parent ≡ Some c.in-Some.next = sym (ap (λ (n : Node). n.parent) read) ∙ (sym c.get.ensures ∙ c.in-Some.is) in
    let has : part_of c.args.sought c.node_at-node.result ≡ Some c.in-Some-get.found = sym c.part.ensures ∙ (sym c.get-in-Some.ensures ∙ c.in-Some-get.is) in
    next_found (part_of c.args.sought) c.args.nodes.now c.requires.trie c.args.from c.loop-next.at c.in-Some.next c.node_at-node.result x way c.in-Some-get.found parent c.node_at-node.ensures x_is has

pub loop-next-preserved : goal.loop-next-preserved
loop-next-preserved c =
    let way = c.loop-next.invariant in
    let read = one_node c.args.nodes.now c.loop-next.at c.node_at.result way.node c.node_at.ensures way.is in
    let parent : way.node.parent ≡ Some c.in-Some.next = sym (ap (λ (n : Node). n.parent) read) ∙ (sym c.get.ensures ∙ c.in-Some.is) in
    let lacks : part_of c.args.sought c.node_at-node.result ≡ None = sym c.part.ensures ∙ (sym c.get-in-Some.ensures ∙ c.in_default-get.is) in
    way-past (part_of c.args.sought) c.args.nodes.now c.requires.trie c.args.from c.loop-next.at c.in-Some.next c.node_at-node.result way parent c.node_at-node.ensures lacks
