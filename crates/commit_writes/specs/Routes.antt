-- Routes of either version of IP: of one version, since a run has one.
use Rattle.std.specs.Prelude.{ℕ}
use Rattle.rule_model.specs.declared.IpVersion.{IpVersion}
use Rattle.rule_model.specs.declared.IpVersion.TheVariants.{V4, V6}
use Rattle.rule_model.specs.declared.Rule.{Rule}
use Rattle.rule_model.specs.Routes.{IsIpv4Route}
use Rattle.rule_model.specs.Routes6.{IsIpv6Route}

-- the rule is a route of a prefix of this version
abbrev pub IsRoute : IpVersion → Rule → Type 0
IsRoute V4 rule = IsIpv4Route rule
IsRoute V6 rule = IsIpv6Route rule

-- how many lengths a prefix may have
abbrev pub prefix_lengths : IpVersion → ℕ
prefix_lengths V4 = 33
prefix_lengths V6 = 129
