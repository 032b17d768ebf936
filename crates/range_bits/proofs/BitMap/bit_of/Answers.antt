use Rattle.std.proofs.Common.{None, subst, arith}
use Rattle.std.proofs.lemmas.Grind.{common_steps}
use Rattle.range_bits.specs.LiveRanges.{is_range}
use Rattle.range_bits.specs.FieldMap.{IsFieldMap}
use Rattle.range_bits.proofs.Places.{found_none}
use Rattle.range_bits.proofs.FieldMaps.{found_range}
use Rattle.range_bits.proofs.BitMap.bit_of.Goals as goal

pub returns-then-eq-clause-live : goal.returns-then-eq-clause-live
returns-then-eq-clause-live c = grind (arith, common_steps)

pub returns-then-eq-clause-bit : goal.returns-then-eq-clause-bit
returns-then-eq-clause-bit c =
    let size = c.self.invariant.places in
    found_range c.self.inside.ranges c.args.self.now c.loop-bit.bit c.args.range c.self.view_is (omega arith) c.loop-bit.invariant (returns-then-eq-clause-live c)

pub returns-then-eq-clause-one : goal.returns-then-eq-clause-one
returns-then-eq-clause-one c other held =
    (subst IsFieldMap c.self.view_is c.self.invariant).one_bit other c.loop-bit.bit c.args.range held (returns-then-eq-clause-live c)

pub returns-clause-bit : goal.returns-clause-bit
returns-clause-bit c =
    let size = c.self.invariant.places in
    found_none (is_range c.args.range) c.self.inside.ranges c.args.self.now c.loop-bit.bit None c.self.view_is (omega arith) c.loop-bit.invariant
