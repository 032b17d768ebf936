use Rattle.std.proofs.Common.{◌≡◌, not, nat_le, rules, subst}
use Rattle.std.proofs.lemmas.Bool.Decides.{Decides-at}
use Rattle.rule_model.specs.PortRange.{IsPortRange, is_disjoint}
use Rattle.rule_model.proofs.PortRanges.{ranges_meet-is}
use Rattle.rule_model.proofs.Ports.meets.Goals as goal

pub returns-then-self-other-clause-exact : goal.returns-then-self-other-clause-exact
returns-then-self-other-clause-exact c =
    let here = subst IsPortRange c.self.view_is c.self.invariant in
    let there = subst IsPortRange c.other.view_is c.other.invariant in
    let test : nat_le c.other.inside.lo c.self.inside.hi ≡ not (is_disjoint c.args.self.now c.args.other.now) = search rules in
    Decides-at _ _ test (ranges_meet-is c.args.self.now c.args.other.now here there)
