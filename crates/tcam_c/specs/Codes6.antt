-- What plain numbers of IPv6 stand for, as those of IPv4 do in Codes.
use Rattle.std.specs.Prelude.{◌≡◌, ◌≢◌, ℕ, ◌-◌, ◌%◌, ◌^◌, ◌<◌, ◌≤◌, ◌⊎◌, Result, Ok, Err}
use Rattle.rule_model.specs.declared.Rule.{Rule}
use Rattle.rule_model.specs.AddressBlock.{AddressBlock}
use Rattle.rule_model.specs.Rank.{ipv6_route_rank, list_rank}
use Rattle.rule_model.specs.Rule.{route_rule}
use Rattle.rule_store.specs.declared.Command.{Command}
use Rattle.rule_store.specs.declared.Command.TheVariants.{Add, Set, Del}
use Rattle.tcam_c.specs.Codes.{protocol_of_code}
use Rattle.tcam_c.specs.Plain.{address_number}
use Rattle.tcam_c.specs.declared.plain.TcamAddress.{TcamAddress}
use Rattle.tcam_c.specs.declared.plain.TcamRule6.{TcamRule6}

-- a prefix of IPv6: no bit of the address past the length is set
abbrev pub IsIpv6Prefix : TcamAddress → ℕ → Type 0
IsIpv6Prefix address len = (len ≤ 128) × (address_number address % 2 ^ (128 - len) ≡ 0)

abbrev pub ipv6_block : TcamAddress → ℕ → AddressBlock
ipv6_block address len = record { addr = address_number address; len = len }

-- the code of an address and a length that are none
abbrev pub IsPrefix6Fault : TcamAddress → ℕ → ℕ → Type 0
IsPrefix6Fault address len code =
    ((code ≡ 6) × (128 < len)) ⊎ ((code ≡ 7) × (len ≤ 128) × (address_number address % 2 ^ (128 - len) ≢ 0))

abbrev pub IsPrefix6Or : TcamAddress → ℕ → Result AddressBlock ℕ → Type 0
IsPrefix6Or address len (Ok block) = IsIpv6Prefix address len × (block ≡ ipv6_block address len)
IsPrefix6Or address len (Err code) = IsPrefix6Fault address len code

-- the priority of the route of a prefix
abbrev pub route6_priority : TcamAddress → ℕ → ℕ
route6_priority address len = ipv6_route_rank (ipv6_block address len)

-- a route is added, changed or removed: the command, or the code of a prefix that is none
abbrev pub AddsRoute6 : TcamAddress → ℕ → ℕ → Result Command ℕ → Type 0
AddsRoute6 address len given (Ok command) = IsIpv6Prefix address len × (command ≡ Add (route_rule (route6_priority address len) (ipv6_block address len) given))
AddsRoute6 address len given (Err code) = IsPrefix6Fault address len code

abbrev pub SetsRoute6 : TcamAddress → ℕ → ℕ → Result Command ℕ → Type 0
SetsRoute6 address len given (Ok command) = IsIpv6Prefix address len × (command ≡ Set (route6_priority address len) given)
SetsRoute6 address len given (Err code) = IsPrefix6Fault address len code

abbrev pub DelsRoute6 : TcamAddress → ℕ → Result Command ℕ → Type 0
DelsRoute6 address len (Ok command) = IsIpv6Prefix address len × (command ≡ Del (route6_priority address len))
DelsRoute6 address len (Err code) = IsPrefix6Fault address len code

-- a rule of an access list as plain numbers that are right
pub record IsRule6 (rule : TcamRule6) : Type 0 where
  pub number : rule.number ≢ 0
  pub source : IsIpv6Prefix rule.source rule.source_length
  pub destination : IsIpv6Prefix rule.destination rule.destination_length
  pub source_ports : rule.source_port_first ≤ rule.source_port_last
  pub destination_ports : rule.destination_port_first ≤ rule.destination_port_last
  pub protocol : rule.protocol ≤ 256

-- and as the rule
abbrev pub list_rule6 : TcamRule6 → Rule
list_rule6 rule =
    record {
      priority = list_rank rule.number;
      src = ipv6_block rule.source rule.source_length;
      dst = ipv6_block rule.destination rule.destination_length;
      proto = protocol_of_code rule.protocol;
      sport = record { lo = rule.source_port_first; hi = rule.source_port_last };
      dport = record { lo = rule.destination_port_first; hi = rule.destination_port_last };
      result = rule.result;
    }

-- its prefixes are right
abbrev pub HasPrefixes6 : TcamRule6 → Type 0
HasPrefixes6 rule = IsIpv6Prefix rule.source rule.source_length × IsIpv6Prefix rule.destination rule.destination_length

-- and its ranges of ports
abbrev pub HasPorts6 : TcamRule6 → Type 0
HasPorts6 rule = (rule.source_port_first ≤ rule.source_port_last) × (rule.destination_port_first ≤ rule.destination_port_last)

-- The code of what is wrong with plain numbers that are no rule, in the order that one of IPv4 has: the number, the source, the
-- destination, the ranges of ports, the protocol.
abbrev pub IsCondition6Fault : TcamRule6 → ℕ → Type 0
IsCondition6Fault rule code =
    IsPrefix6Fault rule.source rule.source_length code
    ⊎ ((IsIpv6Prefix rule.source rule.source_length × IsPrefix6Fault rule.destination rule.destination_length code)
    ⊎ ((HasPrefixes6 rule × (code ≡ 8) × (rule.source_port_last < rule.source_port_first))
    ⊎ ((HasPrefixes6 rule × (code ≡ 8) × (rule.destination_port_last < rule.destination_port_first))
    ⊎ (HasPrefixes6 rule × HasPorts6 rule × (code ≡ 9) × (256 < rule.protocol)))))

abbrev pub IsRule6Fault : TcamRule6 → ℕ → Type 0
IsRule6Fault rule code = ((code ≡ 25) × (rule.number ≡ 0)) ⊎ ((rule.number ≢ 0) × IsCondition6Fault rule code)

abbrev pub AddsRule6 : TcamRule6 → Result Command ℕ → Type 0
AddsRule6 rule (Ok command) = IsRule6 rule × (command ≡ Add (list_rule6 rule))
AddsRule6 rule (Err code) = IsRule6Fault rule code
