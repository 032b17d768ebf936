use Rattle.std.proofs.Common.{◌*◌, ◌^◌, sym, subst, ◌∙◌, ap}
use Rattle.prefix_trie.specs.Nested.{AreFoundBefore, IsWalked, with_id}
use Rattle.prefix_trie.proofs.Walked.{walk_begun, walk_on, walk_ended}
use Rattle.prefix_trie.proofs.nested.nested.Goals as goal

pub loop-left-init : goal.loop-left-init
loop-left-init c =
    subst (IsWalked c.args.nodes.now c.args.block.now 0) (sym c.new-ids.ensures.items) (walk_begun c.args.nodes.now c.requires.trie c.requires.once c.args.block.now c.addr-addr.ensures.block)

pub returns-in_default : goal.returns-in_default
returns-in_default c =
    let way = c.loop-left.invariant in
    let items = c.in_ok-push_id.ensures ∙ ap (with_id c.loop-left.ids.items) (c.id_at.ensures way.node way.is) in
    subst (AreFoundBefore c.args.nodes.now c.args.block.now (2 ^ 128 * 256)) (sym items)
    (walk_ended c.args.nodes.now c.requires.trie c.requires.once c.args.block.now c.loop-left.at way.node way.is way.nested c.loop-left.ids.items way.found (c.in_default.ensures way.node way.is))

pub loop-left-preserved : goal.loop-left-preserved
loop-left-preserved c =
    let way = c.loop-left.invariant in
    let items = c.in_ok-push_id.ensures ∙ ap (with_id c.loop-left.ids.items) (c.id_at.ensures way.node way.is) in
    subst (IsWalked c.args.nodes.now c.args.block.now c.in-Some.next) (sym items)
    (walk_on c.args.nodes.now c.requires.trie c.requires.once c.args.block.now c.loop-left.at c.in-Some.next way.node way.is way.nested c.loop-left.ids.items way.found (c.in-Some.ensures way.node way.is))
