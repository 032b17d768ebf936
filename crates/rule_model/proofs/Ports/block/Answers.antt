use Rattle.std.proofs.Common.{◌+◌, ◌-◌, ap, arith, subst}
use Rattle.rule_model.specs.PortRange.{PortRange, IsPortRange}
use Rattle.rule_model.proofs.PortRanges.{is_block-power, is_block-no_power}
use Rattle.rule_model.proofs.Ports.block.Goals as goal

pub returns-then-is_power_of_two : goal.returns-then-is_power_of_two
returns-then-is_power_of_two c =
    let right = subst IsPortRange c.self.view_is c.self.invariant in
    let low = ap (λ (r : PortRange). r.lo) c.self.view_is in
    let high = ap (λ (r : PortRange). r.hi) c.self.view_is in
    is_block-power c.args.self.now c.from-first.result (c.from.result - c.from-first.result + 1) c.is_power_of_two.result
    right (omega arith) (omega (arith, right.ordered)) c.is_power_of_two.ensures c.if-is_power_of_two.true

pub returns-else-is_power_of_two : goal.returns-else-is_power_of_two
returns-else-is_power_of_two c =
    let right = subst IsPortRange c.self.view_is c.self.invariant in
    let low = ap (λ (r : PortRange). r.lo) c.self.view_is in
    let high = ap (λ (r : PortRange). r.hi) c.self.view_is in
    is_block-no_power c.args.self.now (c.from.result - c.from-first.result + 1) c.is_power_of_two.result
    right (omega (arith, right.ordered)) c.is_power_of_two.ensures c.if-is_power_of_two.false
