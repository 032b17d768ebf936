use Rattle.std.proofs.Common.{◌≡◌, ◌+◌, arith, length, ◌∙◌, refl}
use Rattle.std.proofs.lemmas.Bool.{and_left}
use Rattle.lane_lookup.proofs.Used.{all_agree, used_size, used_step, used_within}
use Rattle.lane_lookup.proofs.eight.first_of_eight.Goals as goal

pub loop-lane-init : goal.loop-lane-init
loop-lane-init c = record {
  len = c.eight-off.ensures.len;
  same = λ k l.
      let width : length c.args.word.now.lane ≡ 11 = omega arith in
      let count = c.requires.count in
      rw (c.eight-off.ensures.lanes k l, all_agree c.args.lanes.now c.args.word.now.lane c.args.used.now (c.args.at + k) c.requires.listed (omega arith) c.requires.zeros) refl;
}

pub offset_bounds-lanes-lane : goal.offset_bounds-lanes-lane
offset_bounds-lanes-lane c =
    let within = used_within c.args.lanes.now c.args.used.now c.loop-lane.lane-index c.requires.listed (omega arith) in
    let count = c.requires.count in omega arith

pub bounds-lanes-lane : goal.bounds-lanes-lane
bounds-lanes-lane c = used_within c.args.lanes.now c.args.used.now c.loop-lane.lane-index c.requires.listed (omega arith)

pub offset_bounds-word-lane : goal.offset_bounds-word-lane
offset_bounds-word-lane c =
    let within = used_within c.args.lanes.now c.args.used.now c.loop-lane.lane-index c.requires.listed (omega arith) in
    let count = c.requires.count in omega arith

pub bounds-word-lane : goal.bounds-word-lane
bounds-word-lane c =
    let within = used_within c.args.lanes.now c.args.used.now c.loop-lane.lane-index c.requires.listed (omega arith) in
    let count = c.requires.count in omega arith

pub off-requires-clause-values : goal.off-requires-clause-values
off-requires-clause-values c =
    let size = used_size c.args.lanes.now c.args.used.now c.loop-lane.lane-index _ _ c.requires.listed (omega arith) c.requires.sizes c.index-lanes-lane.is in
    let values : length c.index-lanes-lane.result.values ≡ length c.args.vacant.now = size.0 in omega arith

pub off-requires-clause-masks : goal.off-requires-clause-masks
off-requires-clause-masks c =
    let size = used_size c.args.lanes.now c.args.used.now c.loop-lane.lane-index _ _ c.requires.listed (omega arith) c.requires.sizes c.index-lanes-lane.is in
    let masks : length c.index-lanes-lane.result.masks ≡ length c.args.vacant.now = size.1 in omega arith

pub returns-then-first_zero-eq8-clause-before : goal.returns-then-first_zero-eq8-clause-before
returns-then-first_zero-eq8-clause-before c k l =
    used_step c.args.used.now c.args.lanes.now c.args.word.now.lane (c.args.at + k) c.loop-lane.lane-index _ _ _ _ _ c.requires.listed (omega arith)
    c.index-lanes-lane.is (c.off.ensures.lanes k l) (c.either-off.ensures.zeros k l) (c.loop-lane.invariant.same k l)
    ∙ and_left _ _ (c.first_zero.ensures.before k (omega arith))

pub returns-then-first_zero-eq8-clause-lane : goal.returns-then-first_zero-eq8-clause-lane
returns-then-first_zero-eq8-clause-lane c =
    let within = used_within c.args.lanes.now c.args.used.now c.loop-lane.lane-index c.requires.listed (omega arith) in
    let count = c.requires.count in omega arith

pub loop-lane-preserved : goal.loop-lane-preserved
loop-lane-preserved c = record {
  len = c.either-off.ensures.len;
  same = λ k l.
      used_step c.args.used.now c.args.lanes.now c.args.word.now.lane (c.args.at + k) c.loop-lane.lane-index _ _ _ _ _ c.requires.listed (omega arith)
      c.index-lanes-lane.is (c.off.ensures.lanes k l) (c.either-off.ensures.zeros k l) (c.loop-lane.invariant.same k l);
}
