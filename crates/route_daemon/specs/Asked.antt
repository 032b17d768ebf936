-- The routes that a daemon is asked for, as rules.
use Rattle.std.specs.Prelude.{◌≡◌, ℕ, ◌≤◌, ◌-◌, ◌%◌, ◌^◌, List, length}
use Rattle.rule_store.specs.Batch.{most_pending}
use Rattle.rule_model.specs.declared.Rule.{Rule}
use Rattle.rule_model.specs.AddressBlock.{AddressBlock, ipv4_block}
use Rattle.rule_model.specs.Rank.{ipv4_route_rank, ipv6_route_rank}
use Rattle.rule_model.specs.Rule.{route_rule}
use Rattle.rule_store.specs.declared.Command.{Command}
use Rattle.route_daemon.specs.declared.networks.Network.{Network}
use Rattle.route_daemon.specs.declared.networks.Network.TheVariants.{V4, V6}

-- a network's address and length, and how long one of its version may be
abbrev pub address_in : Network → ℕ
address_in (V4 address len) = address
address_in (V6 address len) = address

abbrev pub length_in : Network → ℕ
length_in (V4 address len) = len
length_in (V6 address len) = len

abbrev pub longest_in : Network → ℕ
longest_in (V4 address len) = 32
longest_in (V6 address len) = 128

-- a prefix: no bit of the address past the length is set
abbrev pub IsNetwork : Network → Type 0
IsNetwork network =
    (length_in network ≤ longest_in network) × (address_in network % 2 ^ (longest_in network - length_in network) ≡ 0)

-- the batch takes no command more
abbrev pub TakesNoMore : List Command → Type 0
TakesNoMore batch = most_pending ≤ length batch

-- the block of a network
abbrev pub network_block : Network → AddressBlock
network_block (V4 address len) = ipv4_block address len
network_block (V6 address len) = record { addr = address; len = len }

-- the priority of the route of a network
abbrev pub route_priority : Network → ℕ
route_priority (V4 address len) = ipv4_route_rank (ipv4_block address len)
route_priority (V6 address len) = ipv6_route_rank (record { addr = address; len = len })

-- the route of a network to a port
abbrev pub route_to : Network → ℕ → Rule
route_to network port = route_rule (route_priority network) (network_block network) port
