use Rattle.std.proofs.Common.{ℕ, Bool, Option, None, Some, sym, ◌≡◌, ◌⊎◌, refl, subst}
use Rattle.placement.specs.Live.{is_above}
use Rattle.slot_pool.specs.Arrangement.{Slots}
use Rattle.move_planner.specs.Made.{moves_made}
use Rattle.move_planner.specs.declared.chains.Chain.{Chain}
use Rattle.move_planner.specs.declared.sides.Sides.{Sides}
use Rattle.move_planner.specs.declared.crossings.Cut.{Cut}
use Rattle.placement.specs.Placement.{Above}
use Rattle.move_planner.specs.Steps.{FindsPasser, EarlyPasses, LatePasses, NonePass, OnePassed}
use Rattle.move_planner.proofs.Noted.{noted_none}
use Rattle.move_planner.proofs.Underway.{passer_shifts, passer_passed}
use Rattle.move_planner.proofs.crossings.pass_one.Goals as goal

-- the one that passes
passes : (above : Above) (behind before : ℕ → Bool) (slots : Slots) (sides : Sides) (cut : Cut) (found : Option Chain) (chain : Chain) → found ≡ Some chain → FindsPasser above behind before slots sides cut found
    → EarlyPasses above behind before slots sides cut chain ⊎ LatePasses above behind before slots sides cut chain
passes above behind before slots sides cut found chain is w = subst (FindsPasser above behind before slots sides cut) is w

none : (above : Above) (behind before : ℕ → Bool) (slots : Slots) (sides : Sides) (cut : Cut) (found : Option Chain) → ((chain : Chain) → found ≡ Some chain → ⊥) → FindsPasser above behind before slots sides cut found
    → NonePass behind before slots cut
none above behind before slots sides cut None not w = w
none above behind before slots sides cut (Some chain) not w = absurd (not chain refl)

pub turn-requires : goal.turn-requires
turn-requires c =
    let u = c.requires.underway in
    passer_shifts c.args.index.now u.0 u.1 u.2 c.args.slots.now c.args.sides.now c.args.cut u.3 c.in-Some.chain
    (passes (is_above c.args.index.now.live) u.1 u.2 c.args.slots.now c.args.sides.now c.args.cut c.in_ok-chain.field-0 c.in-Some.chain c.in-Some.is (c.in_ok-chain.ensures u.0 u.1 u.2 u.3))

pub returns-clause-passed : goal.returns-clause-passed
returns-clause-passed c = λ id behind before w.
    subst (OnePassed c.args.index.now id behind before (moves_made c.args.slots.now c.args.plan.now) (moves_made c.turn.new.slots c.turn.new.plan) c.args.sides.now c.args.cut) (sym c.cleared.ensures)
    (passer_passed c.args.index.now id behind before c.args.slots.now c.args.sides.now c.args.cut w c.turn.new.slots c.args.plan.now c.turn.new.plan c.in-Some.chain c.first.result
    (passes (is_above c.args.index.now.live) behind before c.args.slots.now c.args.sides.now c.args.cut c.in_ok-chain.field-0 c.in-Some.chain c.in-Some.is (c.in_ok-chain.ensures id behind before w))
    c.first.ensures c.in_ok-turn.ensures.turned)

pub returns-in_err-chain-clause-noted : goal.returns-in_err-chain-clause-noted
returns-in_err-chain-clause-noted c = noted_none c.args.slots.now c.args.plan.now c.args.undo.now

pub returns-in_default-clause-noted : goal.returns-in_default-clause-noted
returns-in_default-clause-noted c = noted_none c.args.slots.now c.args.plan.now c.args.undo.now
