-- What plain numbers stand for: codes, and what is made of numbers that come from C.
use Rattle.std.specs.Prelude.{◌≡◌, ◌≢◌, ℕ, ◌-◌, ◌%◌, ◌^◌, ◌<◌, ◌≤◌, ◌⊎◌, Result, Ok, Err, Option, Some, None, nat_eq, if◌then◌else◌}
use Rattle.rule_model.specs.declared.Field.{Field}
use Rattle.rule_model.specs.declared.Field.TheVariants.{Src, Dst}
use Rattle.rule_model.specs.declared.Rule.{Rule}
use Rattle.rule_model.specs.AddressBlock.{AddressBlock, ipv4_block}
use Rattle.rule_model.specs.Rank.{ipv4_route_rank, list_rank}
use Rattle.rule_model.specs.Rule.{route_rule}
use Rattle.rule_store.specs.declared.Command.{Command}
use Rattle.rule_store.specs.declared.Command.TheVariants.{Add, Set, Del}
use Rattle.rule_store.specs.declared.Mode.{Mode}
use Rattle.rule_store.specs.declared.Mode.TheVariants as mode
use Rattle.rule_store.specs.declared.PushFault.{PushFault}
use Rattle.rule_store.specs.declared.PushFault.TheVariants as push
use Rattle.batch_order.specs.declared.Placement.{Placement}
use Rattle.batch_order.specs.declared.Placement.TheVariants as placement
use Rattle.rule_store.specs.declared.BatchFault.TheVariants.{Twice, Taken, Absent}
use Rattle.readback.specs.declared.Rejection.TheVariants.{Unsound, Bits, Slots}
use Rattle.batch_order.specs.declared.Refusal.{Refusal}
use Rattle.batch_order.specs.declared.Refusal.TheVariants.{Busy, Rejected, Memory}
use Rattle.tcam_c.specs.declared.plain.TcamRule.{TcamRule}

-- the code of a push
abbrev pub push_code : Result (Unit {0}) PushFault → ℕ
push_code (Ok done) = 0
push_code (Err push.Full) = 10
push_code (Err push.Memory) = 11

-- the code of a refusal
abbrev pub refusal_code : Refusal → ℕ
refusal_code (Busy left) = 12
refusal_code (Rejected (Unsound (Twice rank))) = 13
refusal_code (Rejected (Unsound (Taken rank))) = 14
refusal_code (Rejected (Unsound (Absent rank))) = 15
refusal_code (Rejected (Bits field needed free)) = 16
refusal_code (Rejected (Slots needed free)) = 17
refusal_code Memory = 11

-- a prefix of IPv4: no bit of the address past the length is set
abbrev pub IsIpv4Prefix : ℕ → ℕ → Type 0
IsIpv4Prefix address len = (len ≤ 32) × (address % 2 ^ (32 - len) ≡ 0)

-- the code of an address and a length that are none
abbrev pub IsPrefixFault : ℕ → ℕ → ℕ → Type 0
IsPrefixFault address len code =
    ((code ≡ 6) × (32 < len)) ⊎ ((code ≡ 7) × (len ≤ 32) × (address % 2 ^ (32 - len) ≢ 0))

abbrev pub IsPrefixOr : ℕ → ℕ → Result AddressBlock ℕ → Type 0
IsPrefixOr address len (Ok block) = IsIpv4Prefix address len × (block ≡ ipv4_block address len)
IsPrefixOr address len (Err code) = IsPrefixFault address len code

-- the priority of the route of a prefix
abbrev pub route_priority : ℕ → ℕ → ℕ
route_priority address len = ipv4_route_rank (ipv4_block address len)

-- a route is added, changed or removed: the command, or the code of a prefix that is none
abbrev pub AddsRoute : ℕ → ℕ → ℕ → Result Command ℕ → Type 0
AddsRoute address len given (Ok command) = IsIpv4Prefix address len × (command ≡ Add (route_rule (route_priority address len) (ipv4_block address len) given))
AddsRoute address len given (Err code) = IsPrefixFault address len code

abbrev pub SetsRoute : ℕ → ℕ → ℕ → Result Command ℕ → Type 0
SetsRoute address len given (Ok command) = IsIpv4Prefix address len × (command ≡ Set (route_priority address len) given)
SetsRoute address len given (Err code) = IsPrefixFault address len code

abbrev pub DelsRoute : ℕ → ℕ → Result Command ℕ → Type 0
DelsRoute address len (Ok command) = IsIpv4Prefix address len × (command ≡ Del (route_priority address len))
DelsRoute address len (Err code) = IsPrefixFault address len code

-- a protocol, of which 256 is any
abbrev pub protocol_of_code : ℕ → Option ℕ
protocol_of_code protocol = if nat_eq protocol 256 then None else Some protocol

-- a rule of an access list as plain numbers that are right
pub record IsRule (rule : TcamRule) : Type 0 where
  pub number : rule.number ≢ 0
  pub source : IsIpv4Prefix rule.source rule.source_length
  pub destination : IsIpv4Prefix rule.destination rule.destination_length
  pub source_ports : rule.source_port_first ≤ rule.source_port_last
  pub destination_ports : rule.destination_port_first ≤ rule.destination_port_last
  pub protocol : rule.protocol ≤ 256

-- and as the rule
abbrev pub list_rule : TcamRule → Rule
list_rule rule =
    record {
      priority = list_rank rule.number;
      src = ipv4_block rule.source rule.source_length;
      dst = ipv4_block rule.destination rule.destination_length;
      proto = protocol_of_code rule.protocol;
      sport = record { lo = rule.source_port_first; hi = rule.source_port_last };
      dport = record { lo = rule.destination_port_first; hi = rule.destination_port_last };
      result = rule.result;
    }

-- its prefixes are right
abbrev pub HasPrefixes : TcamRule → Type 0
HasPrefixes rule = IsIpv4Prefix rule.source rule.source_length × IsIpv4Prefix rule.destination rule.destination_length

-- and its ranges of ports
abbrev pub HasPorts : TcamRule → Type 0
HasPorts rule = (rule.source_port_first ≤ rule.source_port_last) × (rule.destination_port_first ≤ rule.destination_port_last)

-- The code of what is wrong with the conditions of a rule. Where several are wrong it is that of the first, in this order: the
-- source, the destination, the ranges of ports, the protocol.
abbrev pub IsConditionFault : TcamRule → ℕ → Type 0
IsConditionFault rule code =
    IsPrefixFault rule.source rule.source_length code
    ⊎ ((IsIpv4Prefix rule.source rule.source_length × IsPrefixFault rule.destination rule.destination_length code)
    ⊎ ((HasPrefixes rule × (code ≡ 8) × (rule.source_port_last < rule.source_port_first))
    ⊎ ((HasPrefixes rule × (code ≡ 8) × (rule.destination_port_last < rule.destination_port_first))
    ⊎ (HasPrefixes rule × HasPorts rule × (code ≡ 9) × (256 < rule.protocol)))))

-- And of plain numbers that are no rule: before all of these comes the rule's own number.
abbrev pub IsRuleFault : TcamRule → ℕ → Type 0
IsRuleFault rule code = ((code ≡ 25) × (rule.number ≡ 0)) ⊎ ((rule.number ≢ 0) × IsConditionFault rule code)

-- a rule is added, changed or removed: the command, or the code of what is wrong
abbrev pub AddsRule : TcamRule → Result Command ℕ → Type 0
AddsRule rule (Ok command) = IsRule rule × (command ≡ Add (list_rule rule))
AddsRule rule (Err code) = IsRuleFault rule code

abbrev pub SetsRule : ℕ → ℕ → Result Command ℕ → Type 0
SetsRule number given (Ok command) = (number ≢ 0) × (command ≡ Set (list_rank number) given)
SetsRule number given (Err code) = (code ≡ 25) × (number ≡ 0)

abbrev pub DelsRule : ℕ → Result Command ℕ → Type 0
DelsRule number (Ok command) = (number ≢ 0) × (command ≡ Del (list_rank number))
DelsRule number (Err code) = (code ≡ 25) × (number ≡ 0)

-- the mode and the placement of a number
abbrev pub mode_of_code : ℕ → Option Mode
mode_of_code number = if nat_eq number 0 then Some mode.Cover else (if nat_eq number 1 then Some mode.Bits else None)

abbrev pub placement_by : ℕ → Option Placement
placement_by number = if nat_eq number 0 then Some placement.Middle else (if nat_eq number 1 then Some placement.Rank else (if nat_eq number 2 then Some placement.Ends else None))

-- the field of a number
abbrev pub field_of_code : ℕ → Option Field
field_of_code number = if nat_eq number 0 then Some Src else (if nat_eq number 1 then Some Dst else None)
