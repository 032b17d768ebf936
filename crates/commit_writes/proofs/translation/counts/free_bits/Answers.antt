use Rattle.std.proofs.Common.{◌≡◌, ℕ, ◌+◌, true, false, Option, Some, None, is_some, take, inl, inr, refl, ap, sym, ◌∙◌, subst, arith}
use Rattle.std.proofs.lemmas.List.{take_all}
use Rattle.slot_order.proofs.Lists.{contains_take}
use Rattle.rule_model.specs.PortRange.{PortRange, is_block}
use Rattle.rule_model.specs.Rule.{range_of}
use Rattle.rule_store.proofs.Sums.{slice_get-read, slice_get-within}
use Rattle.range_bits.specs.LiveRanges.{bit_of}
use Rattle.range_bits.specs.FieldMap.{live_count}
use Rattle.commit_writes.proofs.RulesBits.{live_count-coded}
use Rattle.commit_writes.proofs.Used.{AreGiven, given_still, given_more, too_many}
use Rattle.commit_writes.proofs.translation.counts.free_bits.Goals as goal
use Rattle.commit_writes.proofs.translation.counts.free_bits.Goals.{then-block-via-then-block, then-block-via-else-block+then-is_some}

pub loop-place-preserved-then-block : goal.loop-place-preserved-then-block
loop-place-preserved-then-block c =
    let still = given_still c.args.field c.loop-place.live c.args.rules.now.rules c.loop-place.place c.at.result.now c.at.ensures c.loop-place.invariant in
    elim c.then-block.branch [
      | then-block-via-then-block w ↦ still (inl (ap is_block (sym c.range_of-range.ensures) ∙ sym c.block.ensures ∙ w.if-block.true))
      | then-block-via-else-block+then-is_some w ↦
          still (inr (ap (λ (range : PortRange). is_some (bit_of c.loop-place.live range)) (sym c.range_of-range.ensures) ∙ ap is_some (sym w.bit_of.ensures.bit) ∙ sym w.is_some.ensures ∙ w.if-is_some.true))
    ]

nothing : (bit : Option ℕ) → is_some bit ≡ false → bit ≡ None
nothing None none = refl
nothing (Some bit) none = absurd (let e : true ≡ false = none in cc)

pub returns-in_default-clause-none : goal.returns-in_default-clause-none
returns-in_default-clause-none c none =
    let rules = c.args.rules.now.rules in
    let rule = c.at.result.now in
    let place = c.loop-place.place in
    let coded : is_block (range_of c.args.field rule) ≡ false = ap is_block (sym c.range_of-range.ensures) ∙ sym c.block.ensures ∙ c.if-block.false in
    let free : bit_of c.loop-place.live (range_of c.args.field rule) ≡ None =
    ap (bit_of c.loop-place.live) (sym c.range_of-range.ensures) ∙ sym c.bit_of.ensures.bit ∙ nothing c.bit_of.result (sym c.is_some.ensures ∙ c.if-is_some.false) in
    let all : live_count c.loop-place.live ≡ 16 = c.in_default.ensures.full.0 refl in
    let more = too_many c.args.field c.loop-place.live rules (take place rules) rule c.loop-place.invariant
    (λ one member. let w = contains_take place rules one member in (w.0, w.2, w.3))
    (place, slice_get-within rules place rule c.at.ensures, slice_get-read rules place rule c.at.ensures) coded free in
    omega arith

pub loop-place-preserved : goal.loop-place-preserved
loop-place-preserved c =
    let coded : is_block (range_of c.args.field c.at.result.now) ≡ false = ap is_block (sym c.range_of-range.ensures) ∙ sym c.block.ensures ∙ c.if-block.false in
    given_more c.args.field c.loop-place.live c.args.rules.now.rules c.loop-place.place c.at.result.now c.at.ensures c.loop-place.invariant
    c.assign.new.self _ coded c.assign.ensures.map c.in-Ok.ensures.free (c.in-Ok.ensures.live ∙ ap Some c.range_of-range.ensures) c.in-Ok.ensures.others

pub returns-clause-free : goal.returns-clause-free
returns-clause-free c =
    let given = subst (AreGiven c.args.field c.loop-place.live) (take_all c.loop-place.place c.args.rules.now.rules (omega arith)) c.loop-place.invariant in
    let count = live_count-coded c.loop-place.live c.args.field c.args.rules.now.rules given.is_map given.are in
    omega arith
