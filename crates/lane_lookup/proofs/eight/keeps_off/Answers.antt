use Rattle.std.proofs.Common.{◌≡◌, ◌+◌, arith, length}
use Rattle.std.proofs.lemmas.Bool.{eqb-true}
use Rattle.lane_lookup.proofs.Used.{one_keeps}
use Rattle.lane_lookup.proofs.eight.keeps_off.Goals as goal

pub returns : goal.returns
returns c all k l =
    let count = c.requires.count in
    let width : length c.args.word.now.lane ≡ 11 = omega arith in
    let none : c.first_zero.result ≡ 8 = eqb-true _ _ all in
    one_keeps c.args.lanes.now c.args.word.now.lane (c.args.at + k) c.args.lane _ _ _ _ (omega arith) (omega arith) c.index-lanes-lane.is (c.off.ensures.lanes k l)
    (rw (← c.eight.ensures.lanes k l) (c.either-kept.ensures.zeros k l)) (c.first_zero.ensures.before k (omega arith))
