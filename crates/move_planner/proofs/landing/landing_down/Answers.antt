use Rattle.std.proofs.Common.{◌≡◌, ◌+◌, ◌-◌, ℕ, Option, Some, length, arith, sym, ◌∙◌, subst, ap}
use Rattle.std.specs.Option.{unwrap_or}
use Rattle.slot_order.specs.Order.{slot}
use Rattle.placement.specs.Live.{is_above, rank_in}
use Rattle.placement.specs.Placement.{lower_of_held, share_of_held, wished_by, landing_in}
use Rattle.placement.proofs.Readied.{end_inside}
use Rattle.move_planner.proofs.Placed.{end_is}
use Rattle.move_planner.proofs.landing.landing_down.Goals as goal

pub wish-requires-clause-inside : goal.wish-requires-clause-inside
wish-requires-clause-inside c =
    let above = is_above c.args.index.now.live in
    let is = end_is above c.args.slots.now c.in-Some.id c.slots.result c.unwrap_or-end.result c.first_lower.result c.first_lower.ensures.first c.slots.ensures.number c.unwrap_or-end.ensures in
    let inside = end_inside above c.args.slots.now c.in-Some.id in
    omega arith

pub nearest_free-requires-clause-to : goal.nearest_free-requires-clause-to
nearest_free-requires-clause-to c =
    let above = is_above c.args.index.now.live in
    let is = end_is above c.args.slots.now c.in-Some.id c.slots.result c.unwrap_or-end.result c.first_lower.result c.first_lower.ensures.first c.slots.ensures.number c.unwrap_or-end.ensures in
    let inside = end_inside above c.args.slots.now c.in-Some.id in
    omega arith

pub returns-in-None : goal.returns-in-None
returns-in-None c =
    let above = is_above c.args.index.now.live in
    let rank = rank_in c.args.index.now.live in
    let slots = c.args.slots.now in
    let last = c.args.last in
    let free = c.args.free in
    let is = end_is above slots c.in-Some.id c.slots.result c.unwrap_or-end.result c.first_lower.result c.first_lower.ensures.first c.slots.ensures.number c.unwrap_or-end.ensures in
    let held : slot slots last ≡ Some c.in-Some.id = sym c.at.ensures ∙ c.in-Some.is in
    let far : c.saturating_sub.result ≡ c.unwrap_or-end.result - 1 = c.saturating_sub.ensures in
    let none : free ≡ landing_in slots (last + 1) c.unwrap_or-end.result free (wished_by c.args.aim (share_of_held rank c.args.coming.now slots (Some c.in-Some.id)) (c.unwrap_or-end.result - 1)) =
    ap (landing_in slots (last + 1) c.unwrap_or-end.result free) (sym c.in-None.is) ∙ (c.wish.ensures free
    ∙ ap (λ (n : ℕ). landing_in slots (last + 1) c.unwrap_or-end.result free (wished_by c.args.aim (share_of_held rank c.args.coming.now slots (Some c.in-Some.id)) n)) far) in
    subst (λ (h : Option ℕ). free ≡ landing_in slots (last + 1) (unwrap_or (lower_of_held above slots h) (length slots)) free
    (wished_by c.args.aim (share_of_held rank c.args.coming.now slots h) (unwrap_or (lower_of_held above slots h) (length slots) - 1))) (sym held)
    (subst (λ (n : ℕ). free ≡ landing_in slots (last + 1) n free (wished_by c.args.aim (share_of_held rank c.args.coming.now slots (Some c.in-Some.id)) (n - 1))) is none)
