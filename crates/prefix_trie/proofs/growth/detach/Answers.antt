use Rattle.std.proofs.Common.{◌≡◌, ℕ, Some, None, true, length, arith, sym, subst, ◌∙◌, ap}
use Rattle.std.specs.Prelude.{is_some}
use Rattle.std.proofs.lemmas.List.{length-set}
use Rattle.prefix_trie.specs.Blocks.{bit_at}
use Rattle.prefix_trie.specs.Nodes.{node_at, turned}
use Rattle.prefix_trie.proofs.Ways.{parent_half}
use Rattle.prefix_trie.proofs.Likes.{within}
use Rattle.prefix_trie.proofs.Pruned.{IsPruned, pruned}
use Rattle.prefix_trie.proofs.Writes.{written, length-adopted}
use Rattle.prefix_trie.proofs.growth.detach.Goals as goal

pub node_at-up-requires : goal.node_at-up-requires
node_at-up-requires c = ap is_some (c.requires.trie.parents c.args.at c.in-Some-get.parent c.node_at-node.result c.node_at-node.ensures (sym c.get.ensures ∙ c.in-Some-get.is)).is

pub bit_at-bit-requires : goal.bit_at-bit-requires
bit_at-bit-requires c =
    let half = parent_half c.args.nodes.now c.requires.trie c.args.at c.in-Some-get.parent c.node_at-node.result c.node_at-up.result c.node_at-node.ensures (sym c.get.ensures ∙ c.in-Some-get.is) c.node_at-up.ensures in
    let longer = half.longer in
    let most = (c.requires.trie.blocks c.args.at c.node_at-node.result c.node_at-node.ensures).length in
    omega arith

pub adopt-requires-clause-fits : goal.adopt-requires-clause-fits
adopt-requires-clause-fits c = let fits = within c.args.nodes.now c.in-Some-get.parent c.node_at-up.result c.node_at-up.ensures in omega arith

pub adopt-requires-clause-here : goal.adopt-requires-clause-here
adopt-requires-clause-here c place some =
    let on = c.in-Some.ensures.on place some in
    ap is_some (c.requires.trie.children c.args.at place on.0 c.node_at-node.result c.node_at-node.ensures on.1).is

pub set_node-requires : goal.set_node-requires
set_node-requires c =
    let fits = within c.args.nodes.now c.in-Some-get.parent c.node_at-up.result c.node_at-up.ensures in
    let size = ap length c.adopt.ensures ∙ length-adopted c.args.nodes.now c.in-Some.child c.in-Some-get.parent in
    omega arith

pub clear-requires : goal.clear-requires
clear-requires c =
    let fits = within c.args.nodes.now c.args.at c.node_at-node.result c.node_at-node.ensures in
    let size = ap length c.adopt.ensures ∙ length-adopted c.args.nodes.now c.in-Some.child c.in-Some-get.parent in
    let more = ap length c.set_node.ensures ∙ length-set c.adopt.new.nodes c.in-Some-get.parent (Some c.turned.result) in
    omega arith

all_done : (c : goal.After-nodes-3-1) → IsPruned c.args.nodes.now c.clear.new.nodes c.in-Some-get.parent (turned c.node_at-up.result c.bit_at-bit.result c.in-Some.child)
all_done c =
    let new_is : c.clear.new.nodes ≡ written c.args.nodes.now c.in-Some.child c.in-Some-get.parent c.in-Some-get.parent (Some (turned c.node_at-up.result c.bit_at-bit.result c.in-Some.child)) c.args.at None = cc in
    let bit_is : c.bit_at-bit.result ≡ bit_at c.node_at-node.result.prefix.addr c.node_at-up.result.prefix.len = cc in
    pruned c.args.nodes.now c.clear.new.nodes c.args.at c.in-Some-get.parent c.bit_at-bit.result c.in-Some.child c.node_at-node.result c.node_at-up.result c.requires.trie c.node_at-node.ensures c.node_at-up.ensures
    (sym c.get.ensures ∙ c.in-Some-get.is) bit_is c.in-Some.ensures new_is c.requires.tops c.requires.bare

pub returns-clause-trie : goal.returns-clause-trie
returns-clause-trie c = (all_done c).trie

pub returns-clause-tops : goal.returns-clause-tops
returns-clause-tops c = (all_done c).tops

pub returns-clause-entries : goal.returns-clause-entries
returns-clause-entries c = (all_done c).entries

pub returns-clause-parent : goal.returns-clause-parent
returns-clause-parent c x same =
    let at_x : c.in-Some-get.parent ≡ x = cc in
    subst (λ (n : ℕ). is_some (node_at c.clear.new.nodes n) ≡ true) at_x (ap is_some (all_done c).above)
