-- IPv4 routes: of two that overlap, one lies in the other.
use Rattle.std.specs.Prelude.{◌≡◌, ℕ, ◌<◌, IsTrue}
use Rattle.slot_order.specs.Chains.{BoundsMemberChains}
use Rattle.rule_model.specs.declared.Rule.{Rule}
use Rattle.rule_model.specs.AddressBlock.{IsAddressBlock, IsIpv4Block, block_holds}
use Rattle.rule_model.specs.Rank.{ipv4_route_rank}
use Rattle.rule_model.specs.Rule.{Overlap, route_rule}

-- the rule is a route of an IPv4 prefix
pub record IsIpv4Route (rule : Rule) : Type 0 where
  pub block : IsAddressBlock rule.dst
  pub ipv4 : IsIpv4Block rule.dst
  pub route : rule ≡ route_rule (ipv4_route_rank rule.dst) rule.dst rule.result

-- the longer block is a part of the shorter one
pub record IsNested (short long : Rule) : Type 0 where
  pub longer : short.dst.len < long.dst.len
  pub within : (address : ℕ) → IsTrue (block_holds long.dst address) → IsTrue (block_holds short.dst address)

-- of two IPv4 routes that overlap, the one of greater priority is longer and lies in the other
abbrev pub Ipv4RoutesAreNested : Type 0
Ipv4RoutesAreNested = (upper lower : Rule) → IsIpv4Route upper → IsIpv4Route lower → Overlap upper lower → lower.priority < upper.priority → IsNested lower upper

-- a chain of overlapping IPv4 routes has a member for each length at most
abbrev pub Ipv4ChainsAreShort : Type 0
Ipv4ChainsAreShort = BoundsMemberChains Overlap (λ rule. rule.priority) IsIpv4Route 33
