-- What the routes of a script are, by the version of IP.
use Rattle.std.specs.Prelude.{ℕ}
use Rattle.rule_model.specs.declared.IpVersion.{IpVersion}
use Rattle.rule_model.specs.declared.IpVersion.TheVariants.{V4, V6}
use Rattle.rule_model.specs.AddressBlock.{AddressBlock, IsIpv4Block}
use Rattle.rule_model.specs.Rank.{ipv4_route_rank, ipv6_route_rank}
use Rattle.route_reader.specs.declared.RouteCommand.{RouteCommand}
use Rattle.route_reader.specs.declared.RouteCommand.TheVariants.{Add, Set, Del, Put, Drop, All, Common}

-- the priority of a route of a version of IP, by its prefix
abbrev pub route_rank : IpVersion → AddressBlock → ℕ
route_rank V4 block = ipv4_route_rank block
route_rank V6 block = ipv6_route_rank block

-- the prefix is one of this version of IP
abbrev pub IsBlockOf : IpVersion → AddressBlock → Type 0
IsBlockOf V4 block = IsIpv4Block block
IsBlockOf V6 block = Unit {0}

-- what a command of a route script adds or puts is a route of its version
abbrev pub IsCommandOf : IpVersion → RouteCommand → Type 0
IsCommandOf version (Add block answer) = IsBlockOf version block
IsCommandOf version (Set block answer) = Unit {0}
IsCommandOf version (Del block) = Unit {0}
IsCommandOf version (Put block answer) = IsBlockOf version block
IsCommandOf version (Drop block) = Unit {0}
IsCommandOf version All = Unit {0}
IsCommandOf version (Common command) = Unit {0}
