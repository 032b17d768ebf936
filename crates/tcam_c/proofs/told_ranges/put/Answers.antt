use Rattle.std.proofs.Common.{◌≡◌, None, not, refl, ap, sym, ◌∙◌}
use Rattle.range_bits.proofs.FieldMaps.{not_live}
use Rattle.tcam_c.proofs.Placed.{found_apart, none_is, not_free, put_told, some_is, unassigned}
use Rattle.tcam_c.proofs.told_ranges.put.Goals as goal

pub returns-then-is_some-clause-put : goal.returns-then-is_some-clause-put
returns-then-is_some-clause-put c = (
  refl,
  found_apart c.args.untold.now c.args.given.now c.args.bit c.args.range c.bit_of.result c.live-untold.ensures.map c.live-live.ensures.map c.requires.placed
      (λ same. c.if-lo-hi.false (c.lo.ensures.value ∙ same ∙ sym c.hi.ensures.value)) c.bit_of.ensures.live (sym c.is_some.ensures ∙ c.if-is_some.true),
)

pub returns-then-is_none-clause-put : goal.returns-then-is_none-clause-put
returns-then-is_none-clause-put c = (
  refl,
  not_free c.args.untold.now c.args.given.now c.args.bit c.args.range c.live-untold.ensures.map c.live-live.ensures.map c.requires.placed c.requires.below
      (sym c.range_of.ensures.range ∙ none_is c.range_of.result (c.is_none.ensures ∙ ap not c.if-is_none.true)),
)

pub assign-bit-requires : goal.assign-bit-requires
assign-bit-requires c =
    let none : c.bit_of.result ≡ None = none_is c.bit_of.result (sym c.is_some.ensures ∙ c.if-is_some.false) in
    unassigned c.args.given.now c.release.new.self c.args.bit c.args.range c.live-live.ensures.map c.requires.below c.release.ensures.change
    (not_live c.args.given.now c.args.range (sym c.bit_of.ensures.bit ∙ none))

pub returns-clause-put : goal.returns-clause-put
returns-clause-put c =
    let none : c.bit_of.result ≡ None = none_is c.bit_of.result (sym c.is_some.ensures ∙ c.if-is_some.false) in
    let some = some_is c.range_of.result (c.is_none.ensures ∙ ap not c.if-is_none.false) in
    (put_told c.args.untold.now c.args.given.now c.release.new.self c.assign-bit.new.self c.release-2.new.self c.args.bit c.args.range
    c.live-untold.ensures.map c.live-live.ensures.map c.release.ensures.map c.requires.placed c.requires.below
    (rw (c.range_of.ensures.range) at some) (not_live c.args.given.now c.args.range (sym c.bit_of.ensures.bit ∙ none))
    (λ same. c.if-lo-hi.false (c.lo.ensures.value ∙ same ∙ sym c.hi.ensures.value))
    c.release.ensures.change c.release.ensures.fewer c.assign-bit.ensures.next c.release-2.ensures.change).1
