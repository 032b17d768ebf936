use Rattle.std.proofs.Common.{None, is_none, not, ap, ◌∙◌, arith}
use Rattle.range_bits.proofs.Places.{found_first, found_none}
use Rattle.range_bits.proofs.BitMap.free_bit.Goals as goal

pub returns-then-is_none-clause-bit : goal.returns-then-is_none-clause-bit
returns-then-is_none-clause-bit c =
    let size = c.self.invariant.places in
    found_first is_none c.self.inside.ranges c.args.self.now c.loop-least.least c.index-ranges-least.result None c.self.view_is (omega arith)
    c.loop-least.invariant c.index-ranges-least.is
    (ap is_none c.index-ranges-least.is ∙ ap not c.is_none.ensures ∙ ap (λ b. not (not b)) c.if-is_none.true)

pub returns-clause-bit : goal.returns-clause-bit
returns-clause-bit c =
    let size = c.self.invariant.places in
    found_none is_none c.self.inside.ranges c.args.self.now c.loop-least.least None c.self.view_is (omega arith) c.loop-least.invariant
