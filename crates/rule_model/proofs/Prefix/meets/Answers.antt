use Rattle.std.proofs.Common.{◌≡◌, rules, subst}
use Rattle.std.proofs.lemmas.Bool.Decides.{Decides-at}
use Rattle.rule_model.specs.AddressBlock.{IsAddressBlock}
use Rattle.rule_model.specs.Rule.{blocks_meet}
use Rattle.rule_model.proofs.Prefixes.{blocks_meet-is}
use Rattle.rule_model.proofs.Prefix.meets.Goals as goal

pub returns-then-self-other-clause-exact : goal.returns-then-self-other-clause-exact
returns-then-self-other-clause-exact c =
    let here = subst IsAddressBlock c.self.view_is c.self.invariant in
    let there = subst IsAddressBlock c.other.view_is c.other.invariant in
    let test : c.holds.result ≡ blocks_meet c.args.self.now c.args.other.now = search rules in
    Decides-at _ _ test (blocks_meet-is c.args.self.now c.args.other.now here there)

pub returns-else-self-other-clause-exact : goal.returns-else-self-other-clause-exact
returns-else-self-other-clause-exact c =
    let here = subst IsAddressBlock c.self.view_is c.self.invariant in
    let there = subst IsAddressBlock c.other.view_is c.other.invariant in
    let test : c.holds-else-self-other.result ≡ blocks_meet c.args.self.now c.args.other.now = search rules in
    Decides-at _ _ test (blocks_meet-is c.args.self.now c.args.other.now here there)
