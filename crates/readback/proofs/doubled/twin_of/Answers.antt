use Rattle.std.proofs.Common.{◌∙◌, refl, sym, subst, ◌+◌}
use Rattle.readback.proofs.Pairs.{IsWalked, walked_on, walked_all, too_many, other_result, first_twin}
use Rattle.readback.proofs.doubled.twin_of.Goals as goal
use Rattle.readback.proofs.doubled.twin_of.Goals.{then-is_some-via-then-is_some, then-is_some-via-else-is_some+then-not-same_result, in-Some+else-is_some+else-not-same_result, in_default}

pub returns-then-is_some-clause-more : goal.returns-then-is_some-clause-more
returns-then-is_some-clause-more c = elim c.then-is_some.branch [
  | then-is_some-via-then-is_some w ↦ too_many c.args.held.now c.loop-at.at c.in-Some.lesser c.loop-at.twin c.loop-at.invariant (sym c.is_some.ensures ∙ w.if-is_some.true) c.in-Some.ensures.some
  | then-is_some-via-else-is_some+then-not-same_result w ↦ other_result c.args.held.now c.loop-at.at c.in-Some.lesser c.in-Some.ensures.some w.same_result.result (w.same_result.ensures c.in-Some.ensures.some) w.if-not-same_result.true
]

pub loop-at-preserved : goal.loop-at-preserved
loop-at-preserved c = elim c.match-partner_of.branch [
  | in-Some+else-is_some+else-not-same_result w ↦
      subst (λ twin. IsWalked c.args.held.now (c.loop-at.at + 1) twin) (sym w.twin-is)
      (first_twin c.args.held.now c.loop-at.at w.in-Some.lesser c.loop-at.twin w.in-Some.ensures.some w.same_result.result c.loop-at.invariant (sym w.is_some.ensures ∙ w.if-is_some.false) (w.same_result.ensures w.in-Some.ensures.some) w.if-not-same_result.false)
  | in_default w ↦ subst (λ twin. IsWalked c.args.held.now (c.loop-at.at + 1) twin) (sym w.twin-is) (walked_on c.args.held.now c.loop-at.at c.loop-at.twin c.loop-at.invariant (w.in_default.ensures.none refl))
]

pub returns-clause-twin : goal.returns-clause-twin
returns-clause-twin c = (walked_all c.args.held.now c.loop-at.at c.loop-at.twin c.loop-at-test.false c.loop-at.invariant).1

pub returns-clause-one : goal.returns-clause-one
returns-clause-one c = (walked_all c.args.held.now c.loop-at.at c.loop-at.twin c.loop-at-test.false c.loop-at.invariant).0
