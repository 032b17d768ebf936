use Rattle.std.proofs.Common.{◌∷◌, [], length, inl, inr, arith, refl, sym, ◌∙◌, ap, length-append}
use Rattle.placement.specs.Live.{is_above}
use Rattle.move_planner.proofs.Walked.{walked_down_none, walked_down_on, walked_down_end, walked_down_least, walked_up_none, walked_up_on, walked_up_end, walked_up_least}
use Rattle.move_planner.proofs.shorter.first_to_end.Goals as goal

pub loop-lower-init : goal.loop-lower-init
loop-lower-init c =
    let above = is_above c.args.index.now.live in
    record {
      down = walked_down_none above c.args.slots.now c.args.down _ _ c.requires.down c.in_ok-downwards.ensures.last c.in_ok-downwards.ensures.members;
      up = walked_up_none above c.args.slots.now c.args.up _ _ c.requires.up c.in_ok-upwards.ensures.last c.in_ok-upwards.ensures.members;
      level = ap length c.in_ok-downwards.ensures.members ∙ sym (ap length c.in_ok-upwards.ensures.members);
    }

pub returns : goal.returns
returns c =
    let above = is_above c.args.index.now.live in
    let i = c.loop-lower.invariant in
    let w = walked_down_end above c.args.slots.now c.args.down _ _ i.down c.step_down.result c.in_default.not-Some c.step_down.ensures in
    inl (record {
      ends = c.args.down;
      begins = refl;
      goes = record { rest = w.rest; to = refl; members = w.are; follows = w.follows };
      shortest = λ other is rest chain.
          let least = walked_up_least above c.args.slots.now c.args.up other _ _ i.up is rest chain in
          let size = ap length w.are in let level = i.level in omega arith;
    })

pub step_up-requires-clause-inside : goal.step_up-requires-clause-inside
step_up-requires-clause-inside c = c.loop-lower.invariant.up.inside

pub returns-in_default-step_up : goal.returns-in_default-step_up
returns-in_default-step_up c =
    let above = is_above c.args.index.now.live in
    let i = c.loop-lower.invariant in
    let w = walked_up_end above c.args.slots.now c.args.up _ _ i.up c.step_up.result c.in_default-step_up.not-Some c.step_up.ensures in
    let on = walked_down_on above c.args.slots.now c.args.down _ c.in-Some.lower _ _ _ i.down c.in-Some.ensures refl refl in
    inr (record {
      ends = c.args.up;
      begins = refl;
      goes = record { rest = w.rest; to = refl; members = w.are; follows = w.follows };
      shortest = λ other is rest chain.
          let least = walked_down_least above c.args.slots.now c.args.down other _ _ on is rest chain in
          let more = length-append c.loop-lower.downwards.members.items (c.in-Some.lower ∷ []) in
          let size = ap length w.are in let level = i.level in omega arith;
    })

pub loop-lower-smaller : goal.loop-lower-smaller
loop-lower-smaller c =
    let a = c.loop-lower.invariant.down.before in
    let s = c.in-Some.ensures in let less = s.1 in let before = s.2 in
    let is = c.in_ok-push.ensures.last in
    omega arith

pub loop-lower-preserved : goal.loop-lower-preserved
loop-lower-preserved c =
    let above = is_above c.args.index.now.live in
    let i = c.loop-lower.invariant in
    record {
      down = walked_down_on above c.args.slots.now c.args.down _ _ _ _ _ i.down c.in-Some.ensures c.in_ok-push.ensures.last c.in_ok-push.ensures.members;
      up = walked_up_on above c.args.slots.now c.args.up _ _ _ _ _ i.up c.in-Some-step_up.ensures c.in_ok-push-2.ensures.last c.in_ok-push-2.ensures.members;
      level =
          let a = ap length c.in_ok-push.ensures.members in let b = ap length c.in_ok-push-2.ensures.members in
          let d = length-append c.loop-lower.downwards.members.items (c.in-Some.lower ∷ []) in
          let e = length-append c.loop-lower.upwards.members.items (c.in-Some-step_up.upper ∷ []) in
          let level = i.level in omega arith;
    }
