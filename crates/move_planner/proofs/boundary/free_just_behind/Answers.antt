use Rattle.std.proofs.Common.{◌+◌, ◌-◌, ◌∙◌, ap, arith, sym}
use Rattle.slot_pool.proofs.Scan.{next_free_is}
use Rattle.move_planner.specs.Boundary.{one}
use Rattle.move_planner.proofs.Near.{none_behind, two_behind}
use Rattle.move_planner.proofs.boundary.free_just_behind.Goals as goal

pub next_free_above-requires-in-Some : goal.next_free_above-requires-in-Some
next_free_above-requires-in-Some c = let f = next_free_is c.args.slots.now (c.args.end - 1) c.in-Some.next (sym c.in-Some.ensures) in f.1.inside

pub returns-in-None : goal.returns-in-None
returns-in-None c =
    let a = none_behind c.args.slots.now c.args.end (c.args.end - 1) (omega arith) (omega arith) (sym c.in-None.ensures) in omega arith

pub returns-in-Some : goal.returns-in-Some
returns-in-Some c =
    ap (λ n. 1 + n) (c.one_if.ensures ∙ ap one c.is_some.ensures)
    ∙ two_behind c.args.slots.now c.args.end (c.args.end - 1) c.in-Some.next _ (omega arith) (sym c.in-Some.ensures) (sym c.next_free_above-in-Some.ensures)
