use Rattle.std.proofs.Common.{arith, inl, inr, Contains, ◌≡◌, get_or, subst, sym, take_all}
use Rattle.std.proofs.lemmas.List.Elements.{Contains-get_or}
use Rattle.overlap_index.specs.Linked.{HaveMore}
use Rattle.order_chains.proofs.Seen.{linked_room}
use Rattle.overlap_index.proofs.Places.{linked_more}
use Rattle.overlap_index.proofs.Taken.{below_more, not_taken}
use Rattle.overlap_index.proofs.links.link_below.Goals as goal

pub link-requires-clause-ids : goal.link-requires-clause-ids
link-requires-clause-ids c =
    let k = c.loop-lower.lower-index in
    let below = c.args.below.now in
    let w = c.requires.others (get_or below k 0) (Contains-get_or below k 0 (omega arith)) in
    let l = w.0 in
    (omega arith, omega arith, λ e. w.1 (sym e))

pub link-requires-clause-absent : goal.link-requires-clause-absent
link-requires-clause-absent c h =
    let k = c.loop-lower.lower-index in
    let below = c.args.below.now in
    elim ((c.loop-lower.invariant.linked c.args.id (get_or below k 0)).0 h) [
      | inl old ↦ c.requires.absent (get_or below k 0) (Contains-get_or below k 0 (omega arith)) old
      | inr more ↦ not_taken below k c.requires.once (omega arith) more.1
    ]

pub loop-lower-preserved : goal.loop-lower-preserved
loop-lower-preserved c =
    let room = linked_room c.loop-lower.edges c.link.new.self _ c.link.ensures.linked in
    record {
      linked = linked_more c.args.edges.now c.loop-lower.edges c.link.new.self _ _ _ c.loop-lower.invariant.linked c.link.ensures.linked
          (below_more c.args.below.now c.loop-lower.lower-index c.args.id (omega arith));
      room = omega arith;
      ids = omega arith;
    }

pub returns-clause-linked : goal.returns-clause-linked
returns-clause-linked c =
    subst (λ xs. HaveMore c.args.edges.now c.loop-lower.edges (λ upper lower. (upper ≡ c.args.id) × Contains xs lower))
    (take_all c.loop-lower.lower-index c.args.below.now (omega arith)) c.loop-lower.invariant.linked
