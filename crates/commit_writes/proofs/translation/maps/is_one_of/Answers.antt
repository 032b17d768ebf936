use Rattle.std.proofs.Common.{◌≡◌, Some, None, Contains, refl, sym, ◌∙◌, subst}
use Rattle.slot_order.proofs.Lists.{any_from}
use Rattle.rule_model.specs.PortRange.{same_range}
use Rattle.rule_store.specs.Verdict.{coded_ranges}
use Rattle.range_bits.proofs.FieldMaps.{same_range-self}
use Rattle.commit_writes.proofs.SetRanges.{is_one}
use Rattle.commit_writes.proofs.translation.maps.is_one_of.Goals as goal

pub returns-in-None : goal.returns-in-None
returns-in-None c = (
  λ yes range held. absurd (let one : None ≡ Some range = sym c.in-None.is ∙ held in cc),
  λ each. refl,
)

pub returns-in-Some : goal.returns-in-Some
returns-in-Some c =
    let ranges = coded_ranges c.args.field c.args.rules.now.rules in
    let one = c.in-Some.range in (
      λ has range held. subst (Contains ranges) (let same : Some one ≡ Some range = sym c.in-Some.is ∙ held in cc) (is_one ranges one (sym c.has_range.ensures ∙ has)),
      λ each. c.has_range.ensures ∙ any_from (same_range one) ranges one (each one c.in-Some.is) (same_range-self one),
    )
