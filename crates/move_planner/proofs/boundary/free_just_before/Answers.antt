use Rattle.std.proofs.Common.{◌+◌, ◌∙◌, ap, arith, sym}
use Rattle.slot_pool.proofs.Scan.{last_free_is}
use Rattle.move_planner.specs.Boundary.{one}
use Rattle.move_planner.proofs.Near.{none_before, two_before}
use Rattle.move_planner.proofs.boundary.free_just_before.Goals as goal

pub last_free_below-requires-in-Some : goal.last_free_below-requires-in-Some
last_free_below-requires-in-Some c = let f = last_free_is c.args.slots.now c.args.start c.in-Some.last (sym c.in-Some.ensures) in f.1.inside

pub returns-in-None : goal.returns-in-None
returns-in-None c = let a = none_before c.args.slots.now c.args.start (omega arith) (sym c.in-None.ensures) in omega arith

pub returns-in-Some : goal.returns-in-Some
returns-in-Some c =
    ap (λ n. 1 + n) (c.one_if.ensures ∙ ap one c.is_some.ensures)
    ∙ two_before c.args.slots.now c.args.start c.in-Some.last _ (omega arith) (sym c.in-Some.ensures) (sym c.last_free_below-in-Some.ensures)
