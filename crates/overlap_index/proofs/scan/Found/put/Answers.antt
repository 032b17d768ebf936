use Rattle.std.proofs.Common.{◌≡◌, Some, ap, sym, ◌∙◌}
use Rattle.overlap_index.specs.declared.scan.Side.TheVariants.{Above, Below}
use Rattle.overlap_index.specs.Sides.{side_of}
use Rattle.overlap_index.proofs.Sides.{on_above, on_below, on_none, put_on, put_off}
use Rattle.overlap_index.proofs.scan.Found.put.Goals as goal

pub returns-in_ok-push-in-Some-Above-clause-above : goal.returns-in_ok-push-in-Some-Above-clause-above
returns-in_ok-push-in-Some-Above-clause-above c =
    let side : side_of c.args.other.now c.args.of.now ≡ Some Above = sym c.side_of.ensures ∙ c.in-Some-Above.is ∙ ap Some c.in-Some-Above.field-0-is in
    put_on Above c.args.other.now c.args.of.now c.args.self.now.above.items _ (on_above c.args.other.now c.args.of.now side).0 c.in_ok-push-in-Some-Above.ensures.items

pub returns-in_ok-push-in-Some-Above-clause-below : goal.returns-in_ok-push-in-Some-Above-clause-below
returns-in_ok-push-in-Some-Above-clause-below c =
    let side : side_of c.args.other.now c.args.of.now ≡ Some Above = sym c.side_of.ensures ∙ c.in-Some-Above.is ∙ ap Some c.in-Some-Above.field-0-is in
    put_off Below c.args.other.now c.args.of.now c.args.self.now.below.items (on_above c.args.other.now c.args.of.now side).1

pub returns-in_ok-push-in-Some-Below-clause-above : goal.returns-in_ok-push-in-Some-Below-clause-above
returns-in_ok-push-in-Some-Below-clause-above c =
    let side : side_of c.args.other.now c.args.of.now ≡ Some Below = sym c.side_of.ensures ∙ c.in-Some-Below.is ∙ ap Some c.in-Some-Below.field-0-is in
    put_off Above c.args.other.now c.args.of.now c.args.self.now.above.items (on_below c.args.other.now c.args.of.now side).0

pub returns-in_ok-push-in-Some-Below-clause-below : goal.returns-in_ok-push-in-Some-Below-clause-below
returns-in_ok-push-in-Some-Below-clause-below c =
    let side : side_of c.args.other.now c.args.of.now ≡ Some Below = sym c.side_of.ensures ∙ c.in-Some-Below.is ∙ ap Some c.in-Some-Below.field-0-is in
    put_on Below c.args.other.now c.args.of.now c.args.self.now.below.items _ (on_below c.args.other.now c.args.of.now side).1 c.in_ok-push-in-Some-Below.ensures.items

pub returns-in-None-clause-above : goal.returns-in-None-clause-above
returns-in-None-clause-above c = put_off Above c.args.other.now c.args.of.now c.args.self.now.above.items (on_none c.args.other.now c.args.of.now (sym c.side_of.ensures ∙ c.in-None.is)).0

pub returns-in-None-clause-below : goal.returns-in-None-clause-below
returns-in-None-clause-below c = put_off Below c.args.other.now c.args.of.now c.args.self.now.below.items (on_none c.args.other.now c.args.of.now (sym c.side_of.ensures ∙ c.in-None.is)).1
