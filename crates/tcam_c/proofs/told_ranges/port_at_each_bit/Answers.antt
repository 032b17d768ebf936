use Rattle.std.proofs.Common.{◌≡◌, ap, arith}
use Rattle.rule_model.specs.PortRange.{PortRange}
use Rattle.range_bits.proofs.FieldMaps.{bit_of-none}
use Rattle.tcam_c.proofs.told_ranges.port_at_each_bit.Goals as goal

pub assign-bit-requires : goal.assign-bit-requires
assign-bit-requires c =
    bit_of-none c.loop-port.map c.in-Some.range (λ bit held.
    let below = (c.loop-port.invariant.port bit c.in-Some.range held).1 in
    let last : c.in-Some.range.hi ≡ c.loop-port.port = ap (λ (range : PortRange). range.hi) c.in-Some.ensures.range in
    omega arith)
