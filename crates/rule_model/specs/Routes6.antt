-- IPv6 routes: of two that overlap, one lies in the other.
use Rattle.std.specs.Prelude.{◌≡◌, ◌<◌}
use Rattle.slot_order.specs.Chains.{BoundsMemberChains}
use Rattle.rule_model.specs.declared.Rule.{Rule}
use Rattle.rule_model.specs.AddressBlock.{IsAddressBlock}
use Rattle.rule_model.specs.Rank.{ipv6_route_rank}
use Rattle.rule_model.specs.Rule.{Overlap, route_rule}
use Rattle.rule_model.specs.Routes.{IsNested}

-- the rule is a route of an IPv6 prefix
pub record IsIpv6Route (rule : Rule) : Type 0 where
  pub block : IsAddressBlock rule.dst
  pub route : rule ≡ route_rule (ipv6_route_rank rule.dst) rule.dst rule.result

-- of two IPv6 routes that overlap, the one of greater priority is longer and lies in the other
abbrev pub Ipv6RoutesAreNested : Type 0
Ipv6RoutesAreNested = (upper lower : Rule) → IsIpv6Route upper → IsIpv6Route lower → Overlap upper lower → lower.priority < upper.priority → IsNested lower upper

-- a chain of overlapping IPv6 routes has a member for each of the 129 lengths at most
abbrev pub Ipv6ChainsAreShort : Type 0
Ipv6ChainsAreShort = BoundsMemberChains Overlap (λ rule. rule.priority) IsIpv6Route 129
