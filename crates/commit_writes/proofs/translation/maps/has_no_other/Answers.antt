use Rattle.std.proofs.Common.{◌≡◌, true, false, inl, inr, refl, ap, sym, ◌∙◌, arith}
use Rattle.std.proofs.lemmas.Bool.{both_ways, cases_eq}
use Rattle.range_bits.specs.LiveRanges.{range_at}
use Rattle.range_bits.proofs.FieldMaps.{live_inside}
use Rattle.commit_writes.proofs.translation.maps.has_no_other.Goals as goal

pub loop-bit-preserved : goal.loop-bit-preserved
loop-bit-preserved c = record {
  right = λ bit within range held. elim (cases_eq bit c.loop-bit.bit) [
    | inl same ↦ c.is_one_of.ensures.0 c.if-not-is_one_of.false range (c.range_of.ensures.range ∙ ap (range_at c.args.live.now) (sym same) ∙ held)
    | inr other ↦ c.loop-bit.invariant.right bit (omega arith) range held
  ];
  places = λ more. c.range_of.ensures.map.places;
}

pub returns-then-not-is_one_of : goal.returns-then-not-is_one_of
returns-then-not-is_one_of c = (
  λ yes. absurd (let no : false ≡ true = yes in cc),
  λ each. absurd (both_ways c.is_one_of.result c.if-not-is_one_of.true (c.is_one_of.ensures.1 (λ range held. each c.loop-bit.bit range (sym c.range_of.ensures.range ∙ held)))),
)

pub returns : goal.returns
returns c = (
  λ yes bit range held.
      let inside = live_inside c.args.live.now bit range held in
      let places = c.loop-bit.invariant.places (omega arith) in
      c.loop-bit.invariant.right bit (omega arith) range held,
  λ each. refl,
)
