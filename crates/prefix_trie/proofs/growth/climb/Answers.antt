use Rattle.std.proofs.Common.{◌<◌, ℕ, Some, Option, List, sym, refl, subst, ◌∙◌, ap}
use Rattle.std.specs.Prelude.{slice_set}
use Rattle.prefix_trie.specs.declared.node.Node.{Node}
use Rattle.prefix_trie.specs.Greatest.{greater}
use Rattle.prefix_trie.specs.Nodes.{bare, with_top, left_up}
use Rattle.prefix_trie.specs.Trie.{IsTrie, AreLike, IsClimb, HaveTopsPast}
use Rattle.prefix_trie.proofs.Likes.{set-like, trie-like, links-like, like-trans, like-self, within}
use Rattle.prefix_trie.proofs.Climbs.{climb-read, climb-less, settled-read}
use Rattle.prefix_trie.proofs.growth.climb.Goals as goal

pub loop-next-init : goal.loop-next-init
loop-next-init c = record { trie = c.requires.trie; like = like-self bare c.args.nodes.now; on = c.requires.past }

pub set_node-requires : goal.set_node-requires
set_node-requires c = within c.loop-next.nodes c.in-Some.at c.node_at-node.result c.node_at-node.ensures

pub returns-then-same-clause-tops : goal.returns-then-same-clause-tops
returns-then-same-clause-tops c =
    let past : HaveTopsPast c.loop-next.nodes c.in-Some.at = subst (IsClimb c.loop-next.nodes) c.in-Some.is c.loop-next.invariant.on in
    let same = c.same.ensures.0 c.if-same.true in
    settled-read c.loop-next.nodes c.loop-next.invariant.trie c.in-Some.at past c.node_at-node.result c.node_at-node.ensures
    (sym same ∙ (c.greater-top.ensures ∙ ap (greater c.node_at-node.result.slot) c.top_below.ensures))

pub loop-next-preserved : goal.loop-next-preserved
loop-next-preserved c =
    let past : HaveTopsPast c.loop-next.nodes c.in-Some.at = subst (IsClimb c.loop-next.nodes) c.in-Some.is c.loop-next.invariant.on in
    let like = set-like bare c.loop-next.nodes c.in-Some.at c.node_at-node.result (with_top c.node_at-node.result c.greater-top.result) c.node_at-node.ensures refl in
    let made : IsClimb (slice_set c.loop-next.nodes c.in-Some.at (Some (with_top c.node_at-node.result c.greater-top.result))) c.get-next.result =
    climb-read c.loop-next.nodes c.loop-next.invariant.trie c.in-Some.at past c.node_at-node.result c.node_at-node.ensures c.greater-top.result
    (c.greater-top.ensures ∙ ap (greater c.node_at-node.result.slot) c.top_below.ensures) c.get-next.result (sym c.get-next.ensures) in
    record {
      trie = subst IsTrie (sym c.set_node.ensures) (trie-like c.loop-next.nodes (slice_set c.loop-next.nodes c.in-Some.at (Some (with_top c.node_at-node.result c.greater-top.result))) (links-like c.loop-next.nodes (slice_set c.loop-next.nodes c.in-Some.at (Some (with_top c.node_at-node.result c.greater-top.result))) like) c.loop-next.invariant.trie);
      like = subst (AreLike bare c.args.nodes.now) (sym c.set_node.ensures) (like-trans bare c.args.nodes.now c.loop-next.nodes (slice_set c.loop-next.nodes c.in-Some.at (Some (with_top c.node_at-node.result c.greater-top.result))) c.loop-next.invariant.like like);
      on = subst (λ (ns : List (Option Node)). IsClimb ns c.get-next.result) (sym c.set_node.ensures) made;
    }

pub loop-next-smaller : goal.loop-next-smaller
loop-next-smaller c =
    subst (λ (ns : List (Option Node)). left_up ns c.get-next.result < left_up c.loop-next.nodes c.loop-next.next) (sym c.set_node.ensures)
    (subst (λ (next : Option ℕ). left_up (slice_set c.loop-next.nodes c.in-Some.at (Some (with_top c.node_at-node.result c.greater-top.result))) c.get-next.result < left_up c.loop-next.nodes next) (sym c.in-Some.is)
    (climb-less c.loop-next.nodes c.loop-next.invariant.trie c.in-Some.at c.node_at-node.result c.node_at-node.ensures c.greater-top.result c.get-next.result (sym c.get-next.ensures)))
