use Rattle.std.proofs.Common.{◌≡◌, ◌<◌, ◌≤◌, true, false, inl, inr, arith, subst, ap}
use Rattle.std.specs.Prelude.{is_some}
use Rattle.prefix_trie.specs.declared.node.Node.{Node}
use Rattle.prefix_trie.specs.Nested.{AreNested}
use Rattle.prefix_trie.proofs.Nexts.{child_next, nested-in, nested-short}
use Rattle.prefix_trie.proofs.Ways.{one_node}
use Rattle.prefix_trie.proofs.nested.next_nested.Goals as goal

pub len_at-requires : goal.len_at-requires
len_at-requires c = ap is_some c.requires.here.is

pub next_toward-requires-clause-here : goal.next_toward-requires-clause-here
next_toward-requires-clause-here c =
    let here = c.requires.here in
    let len_a = c.len_at.ensures here.node here.is in
    let len_b = c.len.ensures.value in
    let less = c.if-len_at-len.true in
    let short : here.node.prefix.len < c.args.block.now.len = omega arith in
    (here.node, here.is, nested-short c.args.block.now here.node.prefix here.nested short, short)

pub first_child-requires : goal.first_child-requires
first_child-requires c = ap is_some c.requires.here.is

pub returns-in-Some : goal.returns-in-Some
returns-in-Some c x x_is =
    let here = c.requires.here in
    let same = one_node c.args.nodes.now c.args.at here.node x here.is x_is in
    let len_a = c.len_at.ensures x x_is in
    let len_b = c.len.ensures.value in
    let near : AreNested c.args.block.now x.prefix = subst (λ (n : Node). AreNested c.args.block.now n.prefix) same here.nested in
    let more = c.if-len_at-len.false in
    let le : c.args.block.now.len ≤ x.prefix.len = omega arith in
    let inside = nested-in c.args.block.now x.prefix near le in
    elim (c.in-Some.ensures.some x x_is) [
      | inl zero ↦ child_next c.args.nodes.now c.requires.trie c.args.block.now c.args.at x x_is inside false c.in-Some.child zero (λ (on : false ≡ true). absurd (cc on))
      | inr one ↦ child_next c.args.nodes.now c.requires.trie c.args.block.now c.args.at x x_is inside true c.in-Some.child one.1 (λ on. one.0)
    ]
