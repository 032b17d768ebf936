use Rattle.std.proofs.Common.{◌≡◌, Some, None, Bool, arith, sym, subst, ◌∙◌, ap}
use Rattle.std.specs.Prelude.{is_some}
use Rattle.prefix_trie.specs.declared.node.Node.{Node}
use Rattle.prefix_trie.specs.Blocks.{IsInside, bit_at}
use Rattle.prefix_trie.specs.Nodes.{child_of}
use Rattle.prefix_trie.specs.Trie.{HasGap}
use Rattle.prefix_trie.proofs.Ways.{one_node}
use Rattle.prefix_trie.proofs.Made.{entries-trans, entries-self, made_here, made_there, gap_leaf, gap_fork, made_fork, gap_second, room_second}
use Rattle.prefix_trie.proofs.growth.make.Goals as goal

pub node_at-here-requires : goal.node_at-here-requires
node_at-here-requires c = ap is_some c.requires.deep.is

pub returns-then-len-clause-entries : goal.returns-then-len-clause-entries
returns-then-len-clause-entries c = entries-self c.args.nodes.now

pub returns-then-len-clause-made : goal.returns-then-len-clause-made
returns-then-len-clause-made c =
    let test = c.if-len.true in
    let a = c.len.ensures.value in
    let b = c.len-2.ensures.value in
    made_here c.args.nodes.now c.args.at c.node_at-here.result c.args.prefix.now c.requires.trie c.requires.deep c.node_at-here.ensures c.addr-addr.ensures.block (omega arith)

pub attach-requires-clause-gap : goal.attach-requires-clause-gap
attach-requires-clause-gap c =
    let bit : c.bit_at-bit.result ≡ bit_at c.args.prefix.now.addr c.node_at-here.result.prefix.len = cc in
    let none : child_of c.node_at-here.result (bit_at c.args.prefix.now.addr c.node_at-here.result.prefix.len) ≡ None = ap (child_of c.node_at-here.result) (sym bit) ∙ (sym c.child.ensures ∙ (sym c.get.ensures ∙ c.in_default.is)) in
    subst (λ (b : Bool). HasGap c.args.nodes.now c.args.at b c.args.prefix.now) (sym bit)
    (gap_leaf c.args.nodes.now c.args.at c.node_at-here.result c.args.prefix.now c.requires.trie c.requires.deep c.node_at-here.ensures (λ same. c.if-len.false (cc)) none)

pub returns-in_default-clause-made : goal.returns-in_default-clause-made
returns-in_default-clause-made c =
    made_there c.args.nodes.now c.attach.new.nodes c.args.at c.args.first c.bit_at-bit.result c.args.prefix.now c.node_at-here.result (c.attach.ensures.attached c.node_at-here.result c.node_at-here.ensures)

pub node_at-requires : goal.node_at-requires
node_at-requires c =
    ap is_some (c.requires.trie.children c.args.at c.in-Some.child c.bit_at-bit.result c.node_at-here.result c.node_at-here.ensures (sym c.child.ensures ∙ (sym c.get.ensures ∙ c.in-Some.is))).is

pub attach-requires-2-clause-gap : goal.attach-requires-2-clause-gap
attach-requires-2-clause-gap c =
    let bit : c.bit_at-bit.result ≡ bit_at c.args.prefix.now.addr c.node_at-here.result.prefix.len = cc in
    let link : child_of c.node_at-here.result (bit_at c.args.prefix.now.addr c.node_at-here.result.prefix.len) ≡ Some c.in-Some.child = ap (child_of c.node_at-here.result) (sym bit) ∙ (sym c.child.ensures ∙ (sym c.get.ensures ∙ c.in-Some.is)) in
    subst (λ (b : Bool). HasGap c.args.nodes.now c.args.at b c.meet-fork.result) (sym bit)
    (gap_fork c.args.nodes.now c.args.at c.node_at-here.result c.args.prefix.now c.requires.trie c.requires.deep c.node_at-here.ensures (λ same. c.if-len.false (cc)) c.in-Some.child c.node_at.result c.meet-fork.result c.addr-addr.ensures.block link c.node_at.ensures c.meet-fork.ensures)

pub returns-then-len-2-clause-made : goal.returns-then-len-2-clause-made
returns-then-len-2-clause-made c =
    let same : c.meet-fork.result.len ≡ c.args.prefix.now.len = cc in
    made_fork c.args.nodes.now c.attach-2.new.nodes c.args.at c.args.first c.bit_at-bit.result c.args.prefix.now c.node_at.result.prefix c.meet-fork.result c.node_at-here.result (c.attach-2.ensures.attached c.node_at-here.result c.node_at-here.ensures)
    c.meet-fork.ensures c.addr-addr.ensures.block same

pub attach-requires-3-clause-few : goal.attach-requires-3-clause-few
attach-requires-3-clause-few c = let size = c.attach-2.auto.nodes in let few = c.requires.few in omega arith

pub attach-requires-3-clause-room : goal.attach-requires-3-clause-room
attach-requires-3-clause-room c =
    room_second c.args.nodes.now c.attach-2.new.nodes c.args.at c.args.first c.args.second c.bit_at-bit.result c.meet-fork.result c.node_at-here.result c.attach-2.ensures.trie (c.attach-2.ensures.attached c.node_at-here.result c.node_at-here.ensures) c.requires.second c.attach-2.auto.nodes

pub attach-requires-3-clause-gap : goal.attach-requires-3-clause-gap
attach-requires-3-clause-gap c =
    let bit : c.bit_at-bit.result ≡ bit_at c.args.prefix.now.addr c.node_at-here.result.prefix.len = cc in
    let second : c.bit_at.result ≡ bit_at c.args.prefix.now.addr c.meet-fork.result.len = cc in
    let link_at : child_of c.node_at-here.result c.bit_at-bit.result ≡ Some c.in-Some.child = sym c.child.ensures ∙ (sym c.get.ensures ∙ c.in-Some.is) in
    let link : child_of c.node_at-here.result (bit_at c.args.prefix.now.addr c.node_at-here.result.prefix.len) ≡ Some c.in-Some.child = ap (child_of c.node_at-here.result) (sym bit) ∙ link_at in
    let gap = gap_fork c.args.nodes.now c.args.at c.node_at-here.result c.args.prefix.now c.requires.trie c.requires.deep c.node_at-here.ensures (λ same. c.if-len.false (cc)) c.in-Some.child c.node_at.result c.meet-fork.result c.addr-addr.ensures.block link c.node_at.ensures c.meet-fork.ensures in
    let gap_here = one_node c.args.nodes.now c.args.at c.node_at-here.result gap.node c.node_at-here.ensures gap.is in
    let inner : IsInside c.meet-fork.result c.node_at.result.prefix = gap.inner c.in-Some.child c.node_at.result (ap (λ (n : Node). child_of n (bit_at c.args.prefix.now.addr c.node_at-here.result.prefix.len)) (sym gap_here) ∙ link) c.node_at.ensures in
    subst (λ (b : Bool). HasGap c.attach-2.new.nodes c.args.first b c.args.prefix.now) (sym second)
    (gap_second c.args.nodes.now c.attach-2.new.nodes c.args.at c.args.first c.in-Some.child c.bit_at-bit.result c.args.prefix.now c.meet-fork.result c.node_at-here.result c.node_at.result c.addr-addr.ensures.block
    (c.attach-2.ensures.attached c.node_at-here.result c.node_at-here.ensures) link_at c.node_at.ensures c.meet-fork.ensures inner (λ same. c.if-len-2.false (cc)))

pub returns-clause-entries : goal.returns-clause-entries
returns-clause-entries c = entries-trans c.args.nodes.now c.attach-2.new.nodes c.attach-3.new.nodes c.attach-2.ensures.entries c.attach-3.ensures.entries

pub returns-clause-made : goal.returns-clause-made
returns-clause-made c =
    let here = (c.attach-2.ensures.attached c.node_at-here.result c.node_at-here.ensures) in
    made_there c.attach-2.new.nodes c.attach-3.new.nodes c.args.first c.args.second c.bit_at.result c.args.prefix.now here.fresh (c.attach-3.ensures.attached here.fresh here.fresh_is)
