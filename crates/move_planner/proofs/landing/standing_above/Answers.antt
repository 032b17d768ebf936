use Rattle.std.proofs.Common.{◌≡◌, ◌+◌, ℕ, Option, None, take, arith, ap, ◌∙◌}
use Rattle.std.specs.Prelude.{cond, count_by, nat_lt}
use Rattle.std.proofs.lemmas.List.{take_all}
use Rattle.std.proofs.lemmas.List.Sums.{sum_by_more}
use Rattle.slot_order.specs.Order.{slot}
use Rattle.slot_moves.specs.Cuts.{holds}
use Rattle.placement.specs.Live.{rank_in}
use Rattle.move_planner.specs.Boundary.{one}
use Rattle.move_planner.proofs.Landings.{one_small, some_taken}
use Rattle.move_planner.proofs.landing.standing_above.Goals as goal

pub loop-slot-preserved : goal.loop-slot-preserved
loop-slot-preserved c =
    let slots = c.args.slots.now in
    let at = c.loop-slot.slot in
    let is = c.loop-slot.invariant.is in let few = c.loop-slot.invariant.few in
    let more : count_by (λ (held : Option ℕ). holds (λ id. nat_lt c.args.rank (rank_in c.args.index.now.live id)) held) (take (at + 1) slots)
    ≡ count_by (λ (held : Option ℕ). holds (λ id. nat_lt c.args.rank (rank_in c.args.index.now.live id)) held) (take at slots) + one (holds (λ id. nat_lt c.args.rank (rank_in c.args.index.now.live id)) (slot slots at)) =
    sum_by_more (λ (held : Option ℕ). cond (holds (λ id. nat_lt c.args.rank (rank_in c.args.index.now.live id)) held) 1 0) slots at None (omega arith) in
    let here : c.one_if-count.result ≡ one (holds (λ id. nat_lt c.args.rank (rank_in c.args.index.now.live id)) (slot slots at)) = c.one_if-count.ensures ∙ ap one c.stands_above.ensures in
    let small = one_small (holds (λ id. nat_lt c.args.rank (rank_in c.args.index.now.live id)) (slot slots at)) in
    record { is = omega arith; few = omega arith }

pub returns-clause-count : goal.returns-clause-count
returns-clause-count c =
    let size = c.slots-slot-end.ensures.number in
    let past = c.loop-slot-test.false in
    c.loop-slot.invariant.is
    ∙ ap (count_by (λ (held : Option ℕ). holds (λ id. nat_lt c.args.rank (rank_in c.args.index.now.live id)) held)) (take_all c.loop-slot.slot c.args.slots.now (omega arith))

pub returns-clause-taken : goal.returns-clause-taken
returns-clause-taken c =
    let slots = c.args.slots.now in
    let size = c.slots-slot-end.ensures.number in
    let past = c.loop-slot-test.false in
    let count = c.loop-slot.invariant.is
    ∙ ap (count_by (λ (held : Option ℕ). holds (λ id. nat_lt c.args.rank (rank_in c.args.index.now.live id)) held)) (take_all c.loop-slot.slot slots (omega arith)) in
    let all = some_taken (λ id. nat_lt c.args.rank (rank_in c.args.index.now.live id)) slots in
    omega arith
