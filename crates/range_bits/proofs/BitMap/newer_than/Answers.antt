use Rattle.std.proofs.Common.{◌≡◌, length, sym, ap, ◌∙◌, subst, arith}
use Rattle.range_bits.specs.LiveRanges.{LiveRanges, newly_live}
use Rattle.range_bits.specs.FieldMap.{IsFieldMap}
use Rattle.range_bits.proofs.Newer.{all_newer, newly_live-parts, IsFieldMap-newly_live}
use Rattle.range_bits.proofs.BitMap.newer_than.Goals as goal

pub invariant_of-result : goal.invariant_of-result
invariant_of-result c =
    let was = c.before-2.invariant.places in
    let now = c.self.invariant.places in
    subst IsFieldMap (sym (all_newer c.before-2.inside.ranges c.self.inside.ranges c.loop-place.newer c.loop-place.place was now (omega arith) c.loop-place.invariant))
    (IsFieldMap-newly_live c.before-2.inside.ranges c.self.inside.ranges (was ∙ sym now) c.self.invariant)

pub returns-clause-newer : goal.returns-clause-newer
returns-clause-newer c =
    let was = c.before-2.invariant.places in
    let now = c.self.invariant.places in
    all_newer c.before-2.inside.ranges c.self.inside.ranges c.loop-place.newer c.loop-place.place was now (omega arith) c.loop-place.invariant
    ∙ ap (λ (l : LiveRanges). newly_live l c.self.inside.ranges) c.before-2.view_is
    ∙ ap (λ (l : LiveRanges). newly_live c.args.before.now l) c.self.view_is

pub returns-clause-live : goal.returns-clause-live
returns-clause-live c bit range =
    let was : length c.args.before.now ≡ 16 = subst (λ (l : LiveRanges). length l ≡ 16) c.before-2.view_is c.before-2.invariant.places in
    let now : length c.args.self.now ≡ 16 = subst (λ (l : LiveRanges). length l ≡ 16) c.self.view_is c.self.invariant.places in
    let parts = newly_live-parts c.args.before.now c.args.self.now bit range (was ∙ sym now) in
    rw (returns-clause-newer c) parts
