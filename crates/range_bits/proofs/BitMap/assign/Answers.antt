use Rattle.std.proofs.Common.{Some, set, ap, ◌∙◌, arith}
use Rattle.range_bits.specs.LiveRanges.{LiveRanges, bit_of}
use Rattle.range_bits.specs.FieldMap.{live_count}
use Rattle.range_bits.proofs.FieldMaps.{live_count-given, IsFieldMap-given, least_free, not_full, is_full}
use Rattle.range_bits.proofs.BitMap.assign.Goals as goal

pub invariant_of-self : goal.invariant_of-self
invariant_of-self c =
    IsFieldMap-given c.self.inside.ranges c.in-Some.bit c.args.range c.self.invariant c.right_range.ensures
    (ap (λ (l : LiveRanges). bit_of l c.args.range) c.self.view_is ∙ c.requires)
    (least_free c.args.self.now c.in-Some.bit c.in-Some.ensures.map c.in-Some.ensures.bit).small

pub returns-in-Some-clause-map : goal.returns-in-Some-clause-map
returns-in-Some-clause-map c = invariant_of-self c

pub returns-in-Some-clause-more : goal.returns-in-Some-clause-more
returns-in-Some-clause-more c =
    let least = least_free c.args.self.now c.in-Some.bit c.in-Some.ensures.map c.in-Some.ensures.bit in
    let small = least.small in
    let size = c.in-Some.ensures.map.places in
    ap (λ (l : LiveRanges). live_count (set l c.in-Some.bit (Some c.args.range))) c.self.view_is
    ∙ live_count-given c.args.self.now c.in-Some.bit c.args.range least.free (omega arith)

pub returns-in-Some-clause-free : goal.returns-in-Some-clause-free
returns-in-Some-clause-free c = (least_free c.args.self.now c.in-Some.bit c.in-Some.ensures.map c.in-Some.ensures.bit).free

pub returns-in-Some-clause-least : goal.returns-in-Some-clause-least
returns-in-Some-clause-least c = (least_free c.args.self.now c.in-Some.bit c.in-Some.ensures.map c.in-Some.ensures.bit).least

pub returns-in-Some-clause-full : goal.returns-in-Some-clause-full
returns-in-Some-clause-full c = (λ no. absurd (cc), λ count. absurd (not_full c.args.self.now c.in-Some.bit c.in-Some.ensures.map c.in-Some.ensures.bit count))

pub returns-in-None-clause-full : goal.returns-in-None-clause-full
returns-in-None-clause-full c = (λ yes. is_full c.args.self.now c.in-None.ensures.map c.in-None.ensures.bit, λ count. cc)
