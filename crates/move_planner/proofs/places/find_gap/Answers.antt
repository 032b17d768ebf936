use Rattle.std.proofs.Common.{◌≡◌, ◌≤◌, ◌∙◌, arith, ap, length}
use Rattle.placement.specs.Live.{is_above, rank_in}
use Rattle.placement.specs.Placement.{next_slot, gap_start}
use Rattle.placement.proofs.Readied.{start_inside}
use Rattle.move_planner.proofs.Placed.{end_is, start_is}
use Rattle.placement.proofs.Orders.{ranked}
use Rattle.move_planner.proofs.Told.{straight}
use Rattle.move_planner.proofs.places.find_gap.Goals as goal

pub returns-clause-start : goal.returns-clause-start
returns-clause-start c =
    start_is (is_above c.args.index.now.live) c.args.slots.now c.args.id c.next_slot-start.result c.last_upper-upper.result c.last_upper-upper.ensures.last c.next_slot-start.ensures

pub returns-clause-end : goal.returns-clause-end
returns-clause-end c =
    end_is (is_above c.args.index.now.live) c.args.slots.now c.args.id c.slots.result c.unwrap_or-end.result c.first_lower-lower.result c.first_lower-lower.ensures.first c.slots.ensures.number c.unwrap_or-end.ensures

pub next_slot-start-requires : goal.next_slot-start-requires
next_slot-start-requires c =
    let same : next_slot c.last_upper-upper.result ≡ gap_start (is_above c.args.index.now.live) c.args.slots.now c.args.id = ap next_slot c.last_upper-upper.ensures.last in
    let inside : gap_start (is_above c.args.index.now.live) c.args.slots.now c.args.id ≤ length c.args.slots.now = start_inside (is_above c.args.index.now.live) c.args.slots.now c.args.id in
    let few = c.requires.few in
    omega arith

pub returns-clause-straight : goal.returns-clause-straight
returns-clause-straight c told =
    let above = is_above c.args.index.now.live in
    let start = start_is above c.args.slots.now c.args.id c.next_slot-start.result c.last_upper-upper.result c.last_upper-upper.ensures.last c.next_slot-start.ensures in
    let end = end_is above c.args.slots.now c.args.id c.slots.result c.unwrap_or-end.result c.first_lower-lower.result c.first_lower-lower.ensures.first c.slots.ensures.number c.unwrap_or-end.ensures in
    let le = straight above (rank_in c.args.index.now.live) c.args.slots.now c.args.id (ranked c.args.index.now c.is_told-told.ensures.apart) c.requires.order (c.is_told-told.ensures.nested (c.is_told-told.ensures.told ∙ told)) in
    omega arith
