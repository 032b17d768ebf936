use Rattle.std.proofs.Common.{◌≡◌, ◌≤◌, Some, None, arith, sym, subst, ◌∙◌, ap}
use Rattle.std.specs.Prelude.{is_some}
use Rattle.prefix_trie.specs.declared.node.Node.{Node}
use Rattle.prefix_trie.specs.Nested.{IsNextTo}
use Rattle.prefix_trie.proofs.Nexts.{leaf_passed, up_short, up_right, up_past, up_ended}
use Rattle.prefix_trie.proofs.Walked.{some_node}
use Rattle.prefix_trie.proofs.Ways.{one_node, len_is}
use Rattle.prefix_trie.proofs.nested.next_up.Goals as goal

pub loop-parent-init : goal.loop-parent-init
loop-parent-init c =
    let there = some_node c.args.nodes.now c.args.from c.requires.some in
    let leaf = c.requires.here there.0 there.1 in
    leaf_passed c.args.nodes.now c.requires.trie c.args.block.now c.args.from there.0 there.1 leaf.0 leaf.1 leaf.2

pub loop-parent-smaller : goal.loop-parent-smaller
loop-parent-smaller c =
    let way = c.loop-parent.invariant in
    let parent : way.node.parent ≡ Some c.in-Some.parent = sym (c.parent_at.ensures way.node way.is) ∙ (sym c.get.ensures ∙ c.in-Some.is) in
    let up = c.requires.trie.parents c.loop-parent.at c.in-Some.parent way.node way.is parent in
    let old = len_is c.args.nodes.now c.loop-parent.at way.node way.is in
    let new = len_is c.args.nodes.now c.in-Some.parent up.node up.is in
    let longer = up.half.longer in
    omega arith

pub parent_at-requires : goal.parent_at-requires
parent_at-requires c = ap is_some c.loop-parent.invariant.is

pub len_at-requires : goal.len_at-requires
len_at-requires c =
    let way = c.loop-parent.invariant in
    let parent : way.node.parent ≡ Some c.in-Some.parent = sym (c.parent_at.ensures way.node way.is) ∙ (sym c.get.ensures ∙ c.in-Some.is) in
    ap is_some (c.requires.trie.parents c.loop-parent.at c.in-Some.parent way.node way.is parent).is

pub beside-requires : goal.beside-requires
beside-requires c =
    let way = c.loop-parent.invariant in
    let parent : way.node.parent ≡ Some c.in-Some.parent = sym (c.parent_at.ensures way.node way.is) ∙ (sym c.get.ensures ∙ c.in-Some.is) in
    ap is_some (c.requires.trie.parents c.loop-parent.at c.in-Some.parent way.node way.is parent).is

pub returns-then-len_at-len : goal.returns-then-len_at-len
returns-then-len_at-len c x x_is =
    let way = c.loop-parent.invariant in
    let parent : way.node.parent ≡ Some c.in-Some.parent = sym (c.parent_at.ensures way.node way.is) ∙ (sym c.get.ensures ∙ c.in-Some.is) in
    let up = c.requires.trie.parents c.loop-parent.at c.in-Some.parent way.node way.is parent in
    let len_a = c.len_at.ensures up.node up.is in
    let len_b = c.len.ensures.value in
    let less = c.if-len_at-len.true in
    subst (λ (n : Node). IsNextTo c.args.nodes.now c.args.block.now n.prefix None) (one_node c.args.nodes.now c.args.from way.start x way.start_is x_is)
    (up_short c.args.nodes.now c.requires.trie c.args.block.now c.args.from c.loop-parent.at c.in-Some.parent way up.node parent up.is (omega arith))

pub returns-in-Some-beside : goal.returns-in-Some-beside
returns-in-Some-beside c x x_is =
    let way = c.loop-parent.invariant in
    let parent : way.node.parent ≡ Some c.in-Some.parent = sym (c.parent_at.ensures way.node way.is) ∙ (sym c.get.ensures ∙ c.in-Some.is) in
    let up = c.requires.trie.parents c.loop-parent.at c.in-Some.parent way.node way.is parent in
    let len_a = c.len_at.ensures up.node up.is in
    let len_b = c.len.ensures.value in
    let more = c.if-len_at-len.false in
    let le : c.args.block.now.len ≤ up.node.prefix.len = omega arith in
    subst (λ (n : Node). IsNextTo c.args.nodes.now c.args.block.now n.prefix (Some c.in-Some-beside.right)) (one_node c.args.nodes.now c.args.from way.start x way.start_is x_is)
    (up_right c.args.nodes.now c.requires.trie c.args.block.now c.args.from c.loop-parent.at c.in-Some.parent way up.node parent up.is le c.in-Some-beside.right
    (c.in-Some-beside.ensures.some up.node up.is).0 (c.in-Some-beside.ensures.some up.node up.is).1)

pub loop-parent-preserved : goal.loop-parent-preserved
loop-parent-preserved c =
    let way = c.loop-parent.invariant in
    let parent : way.node.parent ≡ Some c.in-Some.parent = sym (c.parent_at.ensures way.node way.is) ∙ (sym c.get.ensures ∙ c.in-Some.is) in
    let up = c.requires.trie.parents c.loop-parent.at c.in-Some.parent way.node way.is parent in
    let len_a = c.len_at.ensures up.node up.is in
    let len_b = c.len.ensures.value in
    let more = c.if-len_at-len.false in
    let le : c.args.block.now.len ≤ up.node.prefix.len = omega arith in
    up_past c.args.nodes.now c.requires.trie c.args.block.now c.args.from c.loop-parent.at c.in-Some.parent way up.node parent up.is le (c.beside.ensures.none up.node up.is c.in_default-beside.is)

pub returns : goal.returns
returns c x x_is =
    let way = c.loop-parent.invariant in
    let parent : way.node.parent ≡ None = sym (c.parent_at.ensures way.node way.is) ∙ (sym c.get.ensures ∙ c.in_default.is) in
    subst (λ (n : Node). IsNextTo c.args.nodes.now c.args.block.now n.prefix None) (one_node c.args.nodes.now c.args.from way.start x way.start_is x_is)
    (up_ended c.args.nodes.now c.requires.trie c.args.block.now c.args.from c.loop-parent.at way parent)
