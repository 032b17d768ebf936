use Rattle.std.proofs.Common.{◌≡◌, ◌+◌, le_refl, sym, subst, arith}
use Rattle.move_planner.specs.Boundary.{IsBestTo, IsChosenTo, IsTallied, with_better}
use Rattle.move_planner.proofs.Tallied.{IsChosenBefore, tally_small, tallied_on, tallied_within, chosen_before, chosen_more}
use Rattle.move_planner.proofs.boundary.best_boundary.Goals as goal

pub better-choice-requires-clause-before : goal.better-choice-requires-clause-before
better-choice-requires-clause-before c =
    let few = c.requires.few in let inside = c.requires.inside in let a = c.requires.behind in let b = c.requires.before in
    (tally_small c.args.slots.now c.args.sides.now c.loop-cut.tally c.loop-cut.cut c.loop-cut.invariant.tallied few (omega arith) (omega arith)).2

pub better-choice-requires-clause-behind : goal.better-choice-requires-clause-behind
better-choice-requires-clause-behind c =
    let few = c.requires.few in let inside = c.requires.inside in let a = c.requires.behind in let b = c.requires.before in
    (tally_small c.args.slots.now c.args.sides.now c.loop-cut.tally c.loop-cut.cut c.loop-cut.invariant.tallied few (omega arith) (omega arith)).3

pub better-requires-clause-before : goal.better-requires-clause-before
better-requires-clause-before c =
    let few = c.requires.few in let inside = c.requires.inside in let a = c.requires.behind in let b = c.requires.before in
    (tally_small c.args.slots.now c.args.sides.now c.loop-cut.tally c.loop-cut.cut c.loop-cut.invariant.tallied few (omega arith) (omega arith)).2

pub tally_past-tally-requires-clause-tallied : goal.tally_past-tally-requires-clause-tallied
tally_past-tally-requires-clause-tallied c =
    let high = c.next_change-slot.ensures.high in
    tallied_on c.args.slots.now c.args.sides.now c.loop-cut.tally c.loop-cut.cut c.next_change-slot.result c.loop-cut.invariant.tallied c.loop-cut.invariant.low c.next_change-slot.ensures.low
    (omega arith) c.requires.inside c.requires.behind c.requires.before c.next_change-slot.ensures.quiet

pub loop-cut-preserved : goal.loop-cut-preserved
loop-cut-preserved c =
    let slots = c.args.slots.now in
    let sides = c.args.sides.now in
    let tally = c.loop-cut.tally in
    let choice = c.loop-cut.choice in
    let cut = c.loop-cut.cut in
    let slot = c.next_change-slot.result in
    let begun = c.loop-cut.invariant.low in
    let low = c.next_change-slot.ensures.low in let high = c.next_change-slot.ensures.high in
    record {
      low = omega arith;
      high = omega arith;
      tallied = c.tally_past-tally.ensures;
      chosen = subst (IsChosenBefore slots sides (slot + 1)) (sym c.better-choice.ensures)
          (chosen_before slots sides slot (with_better choice tally slot)
          (chosen_more slots sides tally choice cut slot
          (λ other a b. tallied_within slots sides tally cut slot other c.loop-cut.invariant.tallied begun a b (omega arith) c.requires.inside c.requires.behind c.requires.before c.next_change-slot.ensures.quiet)
          low (omega arith) c.loop-cut.invariant.chosen));
    }

pub returns : goal.returns
returns c =
    let slots = c.args.slots.now in
    let sides = c.args.sides.now in
    let tally = c.loop-cut.tally in
    let cut = c.loop-cut.cut in
    let high = c.loop-cut.invariant.high in
    let chosen : IsChosenTo slots sides cut c.better.result =
    subst (IsChosenTo slots sides cut) (sym c.better.ensures)
    (chosen_more slots sides tally c.loop-cut.choice cut cut
    (λ other a b. subst (IsTallied slots sides tally) (let z : cut ≡ other = omega arith in z) c.loop-cut.invariant.tallied)
    (le_refl cut) c.loop-cut.invariant.low c.loop-cut.invariant.chosen) in
    let made = subst (IsChosenTo slots sides cut) c.in-Some.is chosen in
    subst (λ to. IsBestTo slots sides to c.in-Some.choice.boundary) (let z : cut ≡ sides.end = omega arith in z) made.best
