use Rattle.std.proofs.Common.{◌≡◌, ℕ, Bool, List, Option, None, Some, arith, refl, subst}
use Rattle.placement.specs.Live.{LivePieces, is_above}
use Rattle.slot_pool.specs.Arrangement.{Slots}
use Rattle.placement.specs.declared.Move.{Move}
use Rattle.move_planner.specs.Made.{moves_made}
use Rattle.move_planner.specs.declared.sides.Sides.{Sides}
use Rattle.move_planner.specs.declared.crossings.Cut.{Cut}
use Rattle.move_planner.specs.Steps.{MayPass, OnePassed, NonePasses, AreFoundSides}
use Rattle.move_planner.proofs.Noted.{noted_none, noted_then}
use Rattle.move_planner.proofs.Outcomes.{on_err}
use Rattle.placement.proofs.Readied.{start_inside}
use Rattle.placement.proofs.Reach.{is_behind, is_before}
use Rattle.move_planner.proofs.Begun.{IsBegun, some_boundary}
use Rattle.move_planner.proofs.Uncrossing.{uncrossing_none, uncrossing_more, uncrossed_all, made_uncrossing}
use Rattle.move_planner.proofs.crossings.uncross.Goals as goal

pub best_boundary-boundary-requires-clause-inside : goal.best_boundary-boundary-requires-clause-inside
best_boundary-boundary-requires-clause-inside c =
    let f : AreFoundSides (is_above c.args.index.now.live) c.args.slots.now c.args.id c.find_sides.new.sides = c.in_ok-find_sides.ensures in
    let e = f.end_is in
    let k = start_inside (is_above c.args.index.now.live) c.args.slots.now c.args.id in omega arith

pub best_boundary-boundary-requires-clause-some : goal.best_boundary-boundary-requires-clause-some
best_boundary-boundary-requires-clause-some c =
    some_boundary c.args.index.now c.args.id c.args.slots.now c.find_sides.new.sides (record { ready = c.requires.ready; found = c.in_ok-find_sides.ensures; crossed = c.requires.crossed })

pub loop-next-init : goal.loop-next-init
loop-next-init c =
    let w : IsBegun c.args.index.now c.args.id c.args.slots.now c.find_sides.new.sides = record { ready = c.requires.ready; found = c.in_ok-find_sides.ensures; crossed = c.requires.crossed } in
    record {
      begun = w;
      best = c.best_boundary-boundary.ensures;
      turns = uncrossing_none c.args.index.now c.args.id c.args.slots.now c.args.plan.now c.find_sides.new.sides c.best_boundary-boundary.result w c.best_boundary-boundary.ensures;
      noted = noted_none c.args.slots.now c.args.plan.now c.args.undo.now;
    }

pub returns-in_err-next-clause-made : goal.returns-in_err-next-clause-made
returns-in_err-next-clause-made c =
    on_err _ c.from_residual-in_err-next.result
    (made_uncrossing c.args.index.now c.args.id c.args.slots.now c.loop-next.slots c.pass_one.new.slots c.args.plan.now c.loop-next.plan c.pass_one.new.plan c.find_sides.new.sides c.best_boundary-boundary.result
    c.loop-next.cut c.loop-next.invariant.turns c.in_err-next.ensures.made)

pub loop-next-preserved : goal.loop-next-preserved
loop-next-preserved c =
    let b = is_behind (is_above c.args.index.now.live) c.args.slots.now c.args.id in
    let f = is_before (is_above c.args.index.now.live) c.args.slots.now c.args.id in
    let m = c.in_ok-next.ensures.passed c.args.id b f c.loop-next.invariant.turns.underway in
    let one : OnePassed c.args.index.now c.args.id b f (moves_made c.loop-next.slots c.loop-next.plan) (moves_made c.pass_one.new.slots c.pass_one.new.plan) c.find_sides.new.sides c.loop-next.cut c.in-Some.next =
    subst (MayPass c.args.index.now c.args.id b f (moves_made c.loop-next.slots c.loop-next.plan) (moves_made c.pass_one.new.slots c.pass_one.new.plan) c.find_sides.new.sides c.loop-next.cut) c.in-Some.is m in
    record {
      begun = c.loop-next.invariant.begun;
      best = c.loop-next.invariant.best;
      turns = uncrossing_more c.args.index.now c.args.id c.args.slots.now c.loop-next.slots c.pass_one.new.slots c.args.plan.now c.loop-next.plan c.pass_one.new.plan c.find_sides.new.sides
          c.best_boundary-boundary.result c.loop-next.cut c.in-Some.next c.loop-next.invariant.turns one;
      noted = noted_then c.args.slots.now c.loop-next.slots c.pass_one.new.slots c.args.plan.now c.loop-next.plan c.pass_one.new.plan c.args.undo.now c.loop-next.undo c.pass_one.new.undo c.loop-next.invariant.noted c.pass_one.ensures.noted;
    }

-- none passed
none_passed : (index : LivePieces) (id : ℕ) (b f : ℕ → Bool) (slots slots' : Slots) (plan plan' : List Move) (sides : Sides) (cut : Cut) (found : Option Cut) → ((next : Cut) → found ≡ Some next → ⊥)
    → MayPass index id b f (moves_made slots plan) (moves_made slots' plan') sides cut found → NonePasses b f (moves_made slots plan) (moves_made slots' plan') cut
none_passed index id b f slots slots' plan plan' sides cut None none w = w
none_passed index id b f slots slots' plan plan' sides cut (Some next) none w = absurd (none next refl)

pub returns-clause-uncrossed : goal.returns-clause-uncrossed
returns-clause-uncrossed c =
    let b = is_behind (is_above c.args.index.now.live) c.args.slots.now c.args.id in
    let f = is_before (is_above c.args.index.now.live) c.args.slots.now c.args.id in
    let m = c.in_ok-next.ensures.passed c.args.id b f c.loop-next.invariant.turns.underway in
    uncrossed_all c.args.index.now c.args.id c.args.slots.now c.loop-next.slots c.pass_one.new.slots c.args.plan.now c.loop-next.plan c.pass_one.new.plan c.find_sides.new.sides
    c.best_boundary-boundary.result c.loop-next.cut c.loop-next.invariant.begun c.loop-next.invariant.best c.loop-next.invariant.turns
    (none_passed c.args.index.now c.args.id b f c.loop-next.slots c.pass_one.new.slots c.loop-next.plan c.pass_one.new.plan c.find_sides.new.sides c.loop-next.cut c.in_ok-next.field-0 c.in_default.not-Some m)

pub returns-in_err-find_sides-clause-noted : goal.returns-in_err-find_sides-clause-noted
returns-in_err-find_sides-clause-noted c = noted_none c.args.slots.now c.args.plan.now c.args.undo.now

pub returns-in_err-next-clause-noted : goal.returns-in_err-next-clause-noted
returns-in_err-next-clause-noted c =
    noted_then c.args.slots.now c.loop-next.slots c.pass_one.new.slots c.args.plan.now c.loop-next.plan c.pass_one.new.plan c.args.undo.now c.loop-next.undo c.pass_one.new.undo c.loop-next.invariant.noted c.pass_one.ensures.noted

pub returns-clause-noted : goal.returns-clause-noted
returns-clause-noted c =
    noted_then c.args.slots.now c.loop-next.slots c.pass_one.new.slots c.args.plan.now c.loop-next.plan c.pass_one.new.plan c.args.undo.now c.loop-next.undo c.pass_one.new.undo c.loop-next.invariant.noted c.pass_one.ensures.noted
