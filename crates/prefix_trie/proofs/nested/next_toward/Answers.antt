use Rattle.std.proofs.Common.{Some, None, subst, sym, ◌∙◌, ap}
use Rattle.std.specs.Prelude.{is_some}
use Rattle.prefix_trie.specs.declared.node.Node.{Node}
use Rattle.prefix_trie.specs.Blocks.{bit_at}
use Rattle.prefix_trie.specs.Nested.{IsNextTo}
use Rattle.prefix_trie.proofs.Nexts.{nested-parts, nested-none, toward_none, toward_far, toward_next}
use Rattle.prefix_trie.proofs.Ways.{one_node}
use Rattle.prefix_trie.proofs.nested.next_toward.Goals as goal

pub returns-in_default : goal.returns-in_default
returns-in_default c x x_is =
    let here = c.requires.here in
    let link = sym (c.toward.ensures here.0 here.1) ∙ (sym c.get.ensures ∙ c.in_default.is) in
    subst (λ (n : Node). IsNextTo c.args.nodes.now c.args.block.now n.prefix None) (one_node c.args.nodes.now c.args.at here.0 x here.1 x_is)
    (toward_none c.args.nodes.now c.requires.trie c.args.block.now c.args.at here.0 here.1 here.2 here.3 link)

pub is_nested_at-requires : goal.is_nested_at-requires
is_nested_at-requires c =
    let here = c.requires.here in
    let link = sym (c.toward.ensures here.0 here.1) ∙ (sym c.get.ensures ∙ c.in-Some.is) in
    ap is_some (c.requires.trie.children c.args.at c.in-Some.child (bit_at c.args.block.now.addr here.0.prefix.len) here.0 here.1 link).is

pub returns-then-is_nested_at : goal.returns-then-is_nested_at
returns-then-is_nested_at c x x_is =
    let here = c.requires.here in
    let link = sym (c.toward.ensures here.0 here.1) ∙ (sym c.get.ensures ∙ c.in-Some.is) in
    let below = c.requires.trie.children c.args.at c.in-Some.child (bit_at c.args.block.now.addr here.0.prefix.len) here.0 here.1 link in
    subst (λ (n : Node). IsNextTo c.args.nodes.now c.args.block.now n.prefix (Some c.in-Some.child)) (one_node c.args.nodes.now c.args.at here.0 x here.1 x_is)
    (toward_next c.args.nodes.now c.requires.trie c.args.block.now c.args.at here.0 here.1 here.2 here.3 c.in-Some.child below.node link below.is
    (nested-parts c.args.block.now below.node.prefix (sym (c.is_nested_at.ensures below.node below.is) ∙ c.if-is_nested_at.true)))

pub returns-else-is_nested_at : goal.returns-else-is_nested_at
returns-else-is_nested_at c x x_is =
    let here = c.requires.here in
    let link = sym (c.toward.ensures here.0 here.1) ∙ (sym c.get.ensures ∙ c.in-Some.is) in
    let below = c.requires.trie.children c.args.at c.in-Some.child (bit_at c.args.block.now.addr here.0.prefix.len) here.0 here.1 link in
    subst (λ (n : Node). IsNextTo c.args.nodes.now c.args.block.now n.prefix None) (one_node c.args.nodes.now c.args.at here.0 x here.1 x_is)
    (toward_far c.args.nodes.now c.requires.trie c.args.block.now c.args.at here.0 here.1 here.2 here.3 c.in-Some.child below.node link below.is
    (nested-none c.args.block.now below.node.prefix (sym (c.is_nested_at.ensures below.node below.is) ∙ c.if-is_nested_at.false)))
