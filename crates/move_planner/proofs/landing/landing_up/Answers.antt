use Rattle.std.proofs.Common.{◌≡◌, ◌≤◌, ℕ, Option, Some, arith, sym, ◌∙◌, subst, ap, length}
use Rattle.slot_order.specs.Order.{slot}
use Rattle.placement.specs.Live.{is_above, rank_in}
use Rattle.placement.specs.Placement.{next_slot, gap_start, last_upper, upper_of_held, share_of_held, wished_by, landing_in}
use Rattle.placement.proofs.Readied.{start_inside}
use Rattle.move_planner.proofs.landing.landing_up.Goals as goal

pub next_slot-start-requires : goal.next_slot-start-requires
next_slot-start-requires c =
    let above = is_above c.args.index.now.live in
    let same : next_slot c.last_upper.result ≡ gap_start above c.args.slots.now c.in-Some.id = ap next_slot c.last_upper.ensures.last in
    let inside : gap_start above c.args.slots.now c.in-Some.id ≤ length c.args.slots.now = start_inside above c.args.slots.now c.in-Some.id in
    let few = c.requires.few in
    omega arith

pub nearest_free-requires-clause-from : goal.nearest_free-requires-clause-from
nearest_free-requires-clause-from c =
    let above = is_above c.args.index.now.live in
    let same : next_slot c.last_upper.result ≡ gap_start above c.args.slots.now c.in-Some.id = ap next_slot c.last_upper.ensures.last in
    let inside : gap_start above c.args.slots.now c.in-Some.id ≤ length c.args.slots.now = start_inside above c.args.slots.now c.in-Some.id in
    let is = c.next_slot-start.ensures in
    omega arith

pub returns-in-None : goal.returns-in-None
returns-in-None c =
    let above = is_above c.args.index.now.live in
    let rank = rank_in c.args.index.now.live in
    let slots = c.args.slots.now in
    let last = c.args.last in
    let free = c.args.free in
    let is : c.next_slot-start.result ≡ next_slot (last_upper above slots c.in-Some.id) = c.next_slot-start.ensures ∙ ap next_slot c.last_upper.ensures.last in
    let held : slot slots last ≡ Some c.in-Some.id = sym c.at.ensures ∙ c.in-Some.is in
    let none : free ≡ landing_in slots c.next_slot-start.result last free (wished_by c.args.aim (share_of_held rank c.args.coming.now slots (Some c.in-Some.id)) c.next_slot-start.result) =
    ap (landing_in slots c.next_slot-start.result last free) (sym c.in-None.is) ∙ c.wish.ensures free in
    subst (λ (h : Option ℕ). free ≡ landing_in slots (next_slot (upper_of_held above slots h)) last free
    (wished_by c.args.aim (share_of_held rank c.args.coming.now slots h) (next_slot (upper_of_held above slots h)))) (sym held)
    (subst (λ (n : ℕ). free ≡ landing_in slots n last free (wished_by c.args.aim (share_of_held rank c.args.coming.now slots (Some c.in-Some.id)) n)) is none)
