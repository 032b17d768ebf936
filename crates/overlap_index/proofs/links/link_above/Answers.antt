use Rattle.std.proofs.Common.{arith, inl, inr, Contains, ◌≡◌, get_or, subst, take_all}
use Rattle.std.proofs.lemmas.List.Elements.{Contains-get_or}
use Rattle.overlap_index.specs.Linked.{HaveMore}
use Rattle.order_chains.proofs.Seen.{linked_room}
use Rattle.overlap_index.proofs.Places.{linked_more}
use Rattle.overlap_index.proofs.Taken.{above_more, not_taken}
use Rattle.overlap_index.proofs.links.link_above.Goals as goal

pub link-requires-clause-ids : goal.link-requires-clause-ids
link-requires-clause-ids c =
    let k = c.loop-upper.upper-index in
    let above = c.args.above.now in
    let w = c.requires.others (get_or above k 0) (Contains-get_or above k 0 (omega arith)) in
    let l = w.0 in
    (omega arith, omega arith, w.1)

pub link-requires-clause-absent : goal.link-requires-clause-absent
link-requires-clause-absent c h =
    let k = c.loop-upper.upper-index in
    let above = c.args.above.now in
    elim ((c.loop-upper.invariant.linked (get_or above k 0) c.args.id).0 h) [
      | inl old ↦ c.requires.absent (get_or above k 0) (Contains-get_or above k 0 (omega arith)) old
      | inr more ↦ not_taken above k c.requires.once (omega arith) more.0
    ]

pub loop-upper-preserved : goal.loop-upper-preserved
loop-upper-preserved c =
    let room = linked_room c.loop-upper.edges c.link.new.self _ c.link.ensures.linked in
    record {
      linked = linked_more c.args.edges.now c.loop-upper.edges c.link.new.self _ _ _ c.loop-upper.invariant.linked c.link.ensures.linked
          (above_more c.args.above.now c.loop-upper.upper-index c.args.id (omega arith));
      room = omega arith;
      ids = omega arith;
    }

pub returns-clause-linked : goal.returns-clause-linked
returns-clause-linked c =
    subst (λ xs. HaveMore c.args.edges.now c.loop-upper.edges (λ upper lower. Contains xs upper × (lower ≡ c.args.id)))
    (take_all c.loop-upper.upper-index c.args.above.now (omega arith)) c.loop-upper.invariant.linked
