use Rattle.std.proofs.Common.{IsTrue, refl, arith}
use Rattle.rule_model.specs.declared.Key.{Key}
use Rattle.rule_model.specs.Key.{IsKey}
use Rattle.word_cubes.specs.Cube.{LaneAgrees, cube_holds}
use Rattle.leak_search.specs.Found.{key_word}
use Rattle.leak_search.proofs.KnownWords.{lane_known, part_has, part_none}
use Rattle.leak_search.proofs.tables.refined.Goals as goal

near : (c : goal.After-with_lane) (key : Key) → IsKey key → IsTrue (cube_holds c.args.cube.now (key_word c.args.tables.now.src c.args.tables.now.dst key))
    → LaneAgrees (key_word c.args.tables.now.src c.args.tables.now.dst key) 10 c.pair-value.result c.pair-mask.result
near c key valid within =
    lane_known c.args.tables.now.src c.args.tables.now.dst c.are_words.ensures _ _ _ _ _ _ c.known-src.result c.known-dst.result _ _
    c.upper-src_value.ensures c.upper-src_mask.ensures c.lower-dst_value.ensures c.lower-dst_mask.ensures c.known-src.ensures c.known-dst.ensures
    (omega arith) (omega arith) c.pair-value.ensures c.pair-mask.ensures key valid
    (c.lane_of-ports.ensures (key_word c.args.tables.now.src c.args.tables.now.dst key) refl within)

pub returns-clause-some : goal.returns-clause-some
returns-clause-some c =
    part_has c.args.tables.now.src c.args.tables.now.dst c.args.cube.now c.pair-value.result c.pair-mask.result (near c) c.with_lane.result c.with_lane.ensures.some

pub returns-clause-none : goal.returns-clause-none
returns-clause-none c =
    part_none c.args.tables.now.src c.args.tables.now.dst c.args.cube.now c.pair-value.result c.pair-mask.result (near c) c.with_lane.result c.with_lane.ensures.none
