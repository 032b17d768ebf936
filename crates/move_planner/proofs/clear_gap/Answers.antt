use Rattle.std.proofs.Common.{◌≡◌, ◌<◌, ◌≤◌, ℕ, Option, Some, None, true, arith, refl}
use Rattle.std.specs.Prelude.{is_some}
use Rattle.placement.specs.Live.{Homes}
use Rattle.move_planner.proofs.Inserted.{uncrossed_none}
use Rattle.move_planner.proofs.Noted.{noted_none}
use Rattle.move_planner.proofs.Told.{untold}
use Rattle.move_planner.proofs.clear_gap.Goals as goal

pub returns-then-gap-clause-clear : goal.returns-then-gap-clause-clear
returns-then-gap-clause-clear c =
    let s = c.requires.start in let e = c.requires.end in let l = c.if-gap.true in
    uncrossed_none c.args.index.now c.args.id c.args.slots.now c.args.plan.now c.requires.ready (omega arith)

pub returns-then-gap-clause-noted : goal.returns-then-gap-clause-noted
returns-then-gap-clause-noted c = noted_none c.args.slots.now c.args.plan.now c.args.undo.now

-- where it is told where ids stand nothing crosses
not_told : (told : Option Homes) → (start end : ℕ) → (is_some told ≡ true → start ≤ end) → end < start → told ≡ None
not_told None start end straight crossed = refl
not_told (Some homes) start end straight crossed = absurd (let le = straight refl in omega arith)

pub uncross-requires-clause-untold : goal.uncross-requires-clause-untold
uncross-requires-clause-untold c = not_told c.args.index.now.told c.args.gap.start c.args.gap.end c.requires.straight (let past = c.if-gap.false in omega arith)

pub find_gap-requires-clause-told : goal.find_gap-requires-clause-told
find_gap-requires-clause-told c = untold c.args.index.now c.uncross.new.slots (not_told c.args.index.now.told c.args.gap.start c.args.gap.end c.requires.straight (let past = c.if-gap.false in omega arith))

pub returns-clause-told : goal.returns-clause-told
returns-clause-told c = untold c.args.index.now c.uncross.new.slots (not_told c.args.index.now.told c.args.gap.start c.args.gap.end c.requires.straight (let past = c.if-gap.false in omega arith))
