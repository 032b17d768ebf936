use Rattle.std.proofs.Common.{◌<◌, ◌≤◌, ◌+◌, ◌*◌, length, arith, sym}
use Rattle.lane_lookup.proofs.Eights.{eight_found, eight_passed}
use Rattle.lane_lookup.proofs.columns.Columns.first.Goals as goal

pub returns-then-tried-lt8 : goal.returns-then-tried-lt8
returns-then-tried-lt8 c =
    let slots = c.self.inside.slots.items in
    let start = c.loop-step.step * 8 in
    let len = c.len-eights.ensures in
    let below : start + c.try_eight-tried.result.before < length slots = omega arith in
    let told = rw (c.deref.ensures.value, c.deref-in-loop-step-2.ensures.value) at c.try_eight-tried.ensures in
    rw (← c.self.view_is)
    (sym (eight_found slots c.self.inside.lanes.items c.self.inside.vacant.items c.args.word.now start c.try_eight-tried.result.before c.self.invariant.0
    below c.loop-step.invariant.passed told.before (told.hit c.if-tried-lt8.true)))

pub loop-step-preserved : goal.loop-step-preserved
loop-step-preserved c =
    let slots = c.self.inside.slots.items in
    let start = c.loop-step.step * 8 in
    let len = c.len-eights.ensures in
    let told = rw (c.deref.ensures.value, c.deref-in-loop-step-2.ensures.value) at c.try_eight-tried.ensures in
    let bound = told.bound in
    let room : start + c.try_eight-tried.result.before ≤ length slots = omega arith in record {
      passed = λ k l.
          eight_passed slots c.self.inside.lanes.items c.self.inside.vacant.items c.args.word.now start c.try_eight-tried.result.before c.self.invariant.0
          room c.loop-step.invariant.passed told.before k (omega arith);
      last = c.try_eight-tried.ensures.lane;
    }
