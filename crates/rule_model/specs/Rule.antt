-- Which keys a rule matches.
use Rattle.std.specs.Prelude.{ℕ, Bool, true, not, ◌==◌, ◌&&◌, nat_le, if◌then◌else◌, IsTrue, Option, Some, None, IfSome, ◌<◌, ◌^◌}
use Rattle.rule_model.specs.declared.Key.{Key}
use Rattle.rule_model.specs.declared.Rule.{Rule}
use Rattle.rule_model.specs.declared.Field.{Field}
use Rattle.rule_model.specs.declared.Field.TheVariants.{Src, Dst}
use Rattle.rule_model.specs.AddressBlock.{AddressBlock, IsAddressBlock, block_holds, any_address}
use Rattle.rule_model.specs.PortRange.{PortRange, IsPortRange, range_holds, any_port, is_disjoint}
use Rattle.rule_model.specs.Key.{IsKey}

-- a protocol, or any
abbrev pub proto_holds : Option ℕ → ℕ → Bool
proto_holds None proto = true
proto_holds (Some wanted) proto = wanted == proto

-- the five conditions on a key
abbrev pub conditions_hold : AddressBlock → AddressBlock → Option ℕ → PortRange → PortRange → Key → Bool
conditions_hold src dst proto sport dport key =
    block_holds src key.src && block_holds dst key.dst && proto_holds proto key.proto
    && range_holds sport key.sport && range_holds dport key.dport

-- The blocks, the protocol and the ranges of five conditions are right.
pub record AreConditions (src dst : AddressBlock) (proto : Option ℕ) (sport dport : PortRange) : Type 0 where
  pub src_right : IsAddressBlock src
  pub dst_right : IsAddressBlock dst
  pub proto_right : IfSome proto (λ number. number < 2 ^ 8)
  pub sport_right : IsPortRange sport
  pub dport_right : IsPortRange dport

-- the five conditions of a rule are right
abbrev pub HasConditions : Rule → Type 0
HasConditions rule = AreConditions rule.src rule.dst rule.proto rule.sport rule.dport

-- the rule matches the key: all five conditions hold
abbrev pub rule_matches : Rule → Key → Bool
rule_matches rule key = conditions_hold rule.src rule.dst rule.proto rule.sport rule.dport key

-- two rules overlap: some key matches both
abbrev pub Overlap : Rule → Rule → Type 0
Overlap a b = (key : Key) × IsKey key × IsTrue (rule_matches a key) × IsTrue (rule_matches b key)

-- the range of one of the two ports
abbrev pub range_of : Field → Rule → PortRange
range_of Src rule = rule.sport
range_of Dst rule = rule.dport

-- a route: a rule on the destination address alone
abbrev pub route_rule : ℕ → AddressBlock → ℕ → Rule
route_rule rank block answer =
    record {
      priority = rank;
      src = any_address;
      dst = block;
      proto = None;
      sport = any_port;
      dport = any_port;
      result = answer;
    }

-- Two address blocks have an address in common: the longer one lies in the other.
abbrev pub blocks_meet : AddressBlock → AddressBlock → Bool
blocks_meet a b = if nat_le a.len b.len then block_holds a b.addr else block_holds b a.addr

-- some protocol is held by both
abbrev pub ProtosOverlap : Option ℕ → Option ℕ → Type 0
ProtosOverlap a b = (proto : ℕ) × (proto < 2 ^ 8) × IsTrue (proto_holds a proto) × IsTrue (proto_holds b proto)

-- a test for it
abbrev pub protos_meet : Option ℕ → Option ℕ → Bool
protos_meet None other = true
protos_meet (Some proto) other = proto_holds other proto

-- the conditions of a rule or of a piece
pub record Conditions : Type 0 where
  pub src : AddressBlock
  pub dst : AddressBlock
  pub proto : Option ℕ
  pub sport : PortRange
  pub dport : PortRange

-- some key is held by both of them
abbrev pub conditions_meet : Conditions → Conditions → Bool
conditions_meet a b =
    blocks_meet a.src b.src && blocks_meet a.dst b.dst && protos_meet a.proto b.proto && not (is_disjoint a.sport b.sport)
    && not (is_disjoint a.dport b.dport)

abbrev pub rule_conditions : Rule → Conditions
rule_conditions rule = record { src = rule.src; dst = rule.dst; proto = rule.proto; sport = rule.sport; dport = rule.dport }

-- A test for Overlap, of rules whose blocks and ranges are right.
abbrev pub rules_meet : Rule → Rule → Bool
rules_meet a b = conditions_meet (rule_conditions a) (rule_conditions b)
