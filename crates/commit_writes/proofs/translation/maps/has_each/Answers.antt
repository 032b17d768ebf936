use Rattle.std.proofs.Common.{◌≡◌, Bool, ◌||◌, true, false, is_some, List, Contains, take, inl, inr, refl, ap, sym, ◌∙◌, subst, arith}
use Rattle.std.proofs.lemmas.List.{take_all}
use Rattle.rule_model.specs.declared.Rule.{Rule}
use Rattle.rule_model.specs.PortRange.{PortRange, is_block}
use Rattle.rule_store.specs.Verdict.{coded_ranges}
use Rattle.rule_store.proofs.Sums.{slice_get-read, slice_get-within, take-read}
use Rattle.range_bits.specs.LiveRanges.{bit_of}
use Rattle.commit_writes.proofs.SetRanges.{one_misses}
use Rattle.commit_writes.proofs.Used.{one_rule}
use Rattle.commit_writes.proofs.translation.maps.has_each.Goals as goal

pub loop-place-preserved : goal.loop-place-preserved
loop-place-preserved c range member =
    let field = c.args.field in
    let rules = c.args.rules.now.rules in
    let place = c.loop-place.place in
    let rule = c.at.result.now in
    let live = c.args.live.now in
    let among = subst (λ (some : List Rule). Contains (coded_ranges field some) range) (take-read rules place rule c.at.ensures) member in
    elim ((one_rule field (take place rules) rule range).0 among) [
      | inl before ↦ c.loop-place.invariant range before
      | inr here ↦
          let same = c.range_of.ensures ∙ here.0 in
          let has = sym (ap (λ (r : PortRange). is_block r || is_some (bit_of live r)) same) ∙ sym c.has_bit.ensures ∙ c.if-not-has_bit.false in
          sym (ap (λ (b : Bool). b || is_some (bit_of live range)) here.1) ∙ has
    ]

pub returns-then-not-has_bit : goal.returns-then-not-has_bit
returns-then-not-has_bit c = (
  λ yes. absurd (let no : false ≡ true = yes in cc),
  λ each.
      let rules = c.args.rules.now.rules in
      let place = c.loop-place.place in
      let rule = c.at.result.now in
      let live = c.args.live.now in
      absurd (one_misses live c.args.field rules rule (place, slice_get-within rules place rule c.at.ensures, slice_get-read rules place rule c.at.ensures)
      (sym (ap (λ (r : PortRange). is_block r || is_some (bit_of live r)) c.range_of.ensures) ∙ sym c.has_bit.ensures ∙ c.if-not-has_bit.true) each),
)

pub returns : goal.returns
returns c = (
  λ yes range member.
      c.loop-place.invariant range (subst (λ (some : List Rule). Contains (coded_ranges c.args.field some) range) (sym (take_all c.loop-place.place c.args.rules.now.rules (omega arith))) member),
  λ each. refl,
)
