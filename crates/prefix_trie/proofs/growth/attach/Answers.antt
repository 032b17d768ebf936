use Rattle.std.proofs.Common.{◌≡◌, ℕ, Some, Option, length, arith, sym, subst, ◌∙◌, ap}
use Rattle.std.specs.Prelude.{is_some}
use Rattle.std.proofs.lemmas.List.{length-set}
use Rattle.prefix_trie.specs.declared.node.Node.{Node}
use Rattle.prefix_trie.specs.Nodes.{child_of, turned, top_at}
use Rattle.prefix_trie.specs.Trie.{IsAttached, IsFresh}
use Rattle.prefix_trie.proofs.Ways.{one_node}
use Rattle.prefix_trie.proofs.Likes.{within}
use Rattle.prefix_trie.proofs.Made.{IsGrown, grown}
use Rattle.prefix_trie.proofs.Writes.{written, length-adopted}
use Rattle.prefix_trie.proofs.growth.attach.Goals as goal

pub node_at-here-requires : goal.node_at-here-requires
node_at-here-requires c = ap is_some c.requires.gap.is

pub fresh-new-requires-clause-fits : goal.fresh-new-requires-clause-fits
fresh-new-requires-clause-fits c = let fits = within c.args.nodes.now c.args.at c.node_at-here.result c.node_at-here.ensures in omega arith

pub fresh-new-requires-clause-here : goal.fresh-new-requires-clause-here
fresh-new-requires-clause-here c place some =
    let below = c.requires.trie.children c.args.at place c.args.bit c.node_at-here.result c.node_at-here.ensures (sym c.child-child.ensures ∙ some) in
    ap is_some below.is

pub fresh-new-requires-clause-longer : goal.fresh-new-requires-clause-longer
fresh-new-requires-clause-longer c place some below below_is =
    let gap = c.requires.gap in
    let same = one_node c.args.nodes.now c.args.at c.node_at-here.result gap.node c.node_at-here.ensures gap.is in
    let link : child_of gap.node c.args.bit ≡ Some place = ap (λ (n : Node). child_of n c.args.bit) (sym same) ∙ (sym c.child-child.ensures ∙ some) in
    (gap.inner place below link below_is).longer

pub adopt-requires-clause-fits : goal.adopt-requires-clause-fits
adopt-requires-clause-fits c = let fits = c.requires.room.fits in omega arith

pub adopt-requires-clause-here : goal.adopt-requires-clause-here
adopt-requires-clause-here c place some =
    let below = c.requires.trie.children c.args.at place c.args.bit c.node_at-here.result c.node_at-here.ensures (sym c.child-child.ensures ∙ some) in
    ap is_some below.is

pub some-requires : goal.some-requires
some-requires c = let fits = c.requires.room.fits in omega arith

pub set_node-requires : goal.set_node-requires
set_node-requires c =
    let fits = within c.args.nodes.now c.args.at c.node_at-here.result c.node_at-here.ensures in
    let size = ap length c.adopt.ensures ∙ length-adopted c.args.nodes.now c.child-child.result c.args.place in
    omega arith

pub set_node-requires-2 : goal.set_node-requires-2
set_node-requires-2 c =
    let fits = c.requires.room.fits in
    let size = ap length c.adopt.ensures ∙ length-adopted c.args.nodes.now c.child-child.result c.args.place in
    let more = ap length c.set_node.ensures ∙ length-set c.adopt.new.nodes c.args.at (Some c.turned.result) in
    omega arith

all_done : (c : goal.After-nodes-3-1) → IsGrown c.args.nodes.now c.set_node-2.new.nodes c.args.at c.args.place c.args.bit c.args.block.now c.node_at-here.result
all_done c =
    let new_is : c.set_node-2.new.nodes ≡ written c.args.nodes.now (child_of c.node_at-here.result c.args.bit) c.args.place c.args.at (Some (turned c.node_at-here.result c.args.bit (Some c.args.place))) c.args.place (Some c.fresh-new.result) = cc in
    grown c.args.nodes.now c.set_node-2.new.nodes c.args.at c.args.place c.args.bit c.args.block.now c.node_at-here.result c.fresh-new.result c.requires.trie c.requires.tops c.addr-addr.ensures.block c.requires.room c.requires.gap c.node_at-here.ensures new_is
    (subst (λ (child : Option ℕ). IsFresh c.args.nodes.now c.args.block.now c.args.at child c.fresh-new.result) c.child-child.ensures c.fresh-new.ensures.fresh)
    (c.fresh-new.ensures.top ∙ ap (top_at c.args.nodes.now) c.child-child.ensures)

pub returns-clause-trie : goal.returns-clause-trie
returns-clause-trie c = (all_done c).trie

pub returns-clause-tops : goal.returns-clause-tops
returns-clause-tops c = (all_done c).tops

pub returns-clause-entries : goal.returns-clause-entries
returns-clause-entries c = (all_done c).entries

pub returns-clause-attached : goal.returns-clause-attached
returns-clause-attached c x x_is =
    subst (IsAttached c.args.nodes.now c.set_node-2.new.nodes c.args.at c.args.place c.args.bit c.args.block.now) (one_node c.args.nodes.now c.args.at c.node_at-here.result x c.node_at-here.ensures x_is) (all_done c).attached
