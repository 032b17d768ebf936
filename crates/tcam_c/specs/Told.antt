-- What is told to a manager that is to be restarted: what another one left of itself, and what the memory holds.
use Rattle.std.specs.Prelude.{◌≡◌, ◌≢◌, ℕ, ◌<◌, ◌≤◌, ◌++◌, ◌∷◌, [], ◌⊎◌, Bool, true, false, Result, Ok, Err, Option, Some, None, IsTrue, IsFalse, List, length, slice_set}
use Rattle.slot_order.specs.Order.{most_slots}
use Rattle.rule_model.specs.declared.Field.{Field}
use Rattle.rule_model.specs.declared.Field.TheVariants.{Src, Dst}
use Rattle.rule_model.specs.declared.Rule.{Rule}
use Rattle.rule_model.specs.declared.words.Entry.{Entry}
use Rattle.rule_model.specs.PortRange.{PortRange}
use Rattle.rule_model.specs.RuleSet.{has_priority}
use Rattle.rule_store.specs.Batch.{with_rule}
use Rattle.rule_store.specs.declared.Mode.{Mode}
use Rattle.rule_store.specs.declared.Mode.TheVariants as modes
use Rattle.range_bits.specs.LiveRanges.{LiveRanges, range_at}
use Rattle.range_bits.specs.FieldMap.{live_count}
use Rattle.tcam_device.specs.declared.Action.{Action}
use Rattle.tcam_device.specs.declared.Action.TheVariants.{Written}
use Rattle.tcam_device.specs.declared.Write.TheVariants as writes
use Rattle.tcam_device.specs.State.{replay}
use Rattle.tcam_device.specs.Flight.{Flight, writes_in}
use Rattle.commit_writes.specs.Bits.{FieldBits, no_bits, ranges_in}
use Rattle.batch_order.specs.Managed.{HasBlankTables}
use Rattle.batch_order.specs.declared.Placement.{Placement}
use Rattle.tcam_c.specs.Codes.{field_of_code, protocol_of_code}
use Rattle.tcam_c.specs.Codes6.{IsIpv6Prefix, IsPrefix6Fault, ipv6_block}
use Rattle.tcam_c.specs.Plain.{tag_number}
use Rattle.tcam_c.specs.declared.plain.TcamStored.{TcamStored}
use Rattle.tcam_c.specs.declared.plain.TcamWrite.{TcamWrite}

-- The manager's own setting, the rules and their live ranges by their bits, and the writes that make a blank memory hold what the
-- caller's holds.
pub record Account : Type 0 where
  pub slots : ℕ
  pub mode : Mode
  pub placement : Placement
  pub rules : List Rule
  pub bits : FieldBits
  pub events : List Action

-- nothing was told yet
abbrev pub blank_account : ℕ → Mode → Placement → Account
blank_account slots mode placement =
    record { slots = slots; mode = mode; placement = placement; rules = []; bits = no_bits; events = [] }

-- what holds of it always: the slots are a manager's, no word is in flight, and by covers no word of a table has a bit
pub record IsAccount (slots : ℕ) (mode : Mode) (events : List Action) (flight : Flight) : Type 0 where
  pub least : 1 ≤ slots
  pub most : slots ≤ most_slots
  pub still : flight ≡ []
  pub plain : mode ≡ modes.Cover → HasBlankTables (replay slots (writes_in events))

-- A field's bits as they are told: each has a range in the one map, and those that were not told of have one port there, and in the
-- other map too.
pub record HavePlaces (untold given : LiveRanges) : Type 0 where
  pub full : live_count given ≡ 16
  pub port : (bit : ℕ) (range : PortRange) → range_at untold bit ≡ Some range → (range_at given bit ≡ Some range) × (range.lo ≡ range.hi)

-- a range may be told of a bit: neither was told, and the range isn't one port, which needs no bit
pub record MayHaveBit (live : LiveRanges) (bit : ℕ) (range : PortRange) : Type 0 where
  pub free : range_at live bit ≡ None
  pub apart : (other : ℕ) → range_at live other ≢ Some range
  pub ports : range.lo ≢ range.hi

-- it is told of the bit, or may not be
abbrev pub Places : ℕ → PortRange → Bool → LiveRanges → LiveRanges → Type 0
Places bit range true live live' = MayHaveBit live bit range × (live' ≡ slice_set live bit (Some range))
Places bit range false live live' = (live' ≡ live) × ¬ MayHaveBit live bit range

-- a field's ranges become these
abbrev pub with_field : Field → LiveRanges → FieldBits → FieldBits
with_field Src live bits = record bits { src = live }
with_field Dst live bits = record bits { dst = live }

-- a field has a table, by bits
abbrev pub IsTable : Mode → Option Field → Type 0
IsTable told_mode None = ⊥
IsTable told_mode (Some field) = told_mode ≡ modes.Bits

abbrev pub port_range : ℕ → ℕ → PortRange
port_range first last = record { lo = first; hi = last }

abbrev pub PutsRange : Option Field → ℕ → ℕ → ℕ → Account → Account → Type 0
PutsRange None bit first last told told' = ⊥
PutsRange (Some field) bit first last told told' =
    MayHaveBit (ranges_in field told.bits) bit (port_range first last)
    × (told' ≡ record told { bits = with_field field (slice_set (ranges_in field told.bits) bit (Some (port_range first last))) told.bits })

abbrev pub MayPut : Option Field → ℕ → ℕ → ℕ → Account → Type 0
MayPut None bit first last told = ⊥
MayPut (Some field) bit first last told = MayHaveBit (ranges_in field told.bits) bit (port_range first last)

-- A range is told of a field's bit. What is wrong is told in this order: there is no such bit, the range ends before it begins, or
-- it may not be told of the bit.
abbrev pub AddsRange : ℕ → ℕ → ℕ → ℕ → Account → Result (Unit {0}) ℕ → Account → Type 0
AddsRange field bit first last told (Ok done) told' =
    IsTable told.mode (field_of_code field) × (bit < 16) × (first ≤ last) × PutsRange (field_of_code field) bit first last told told'
AddsRange field bit first last told (Err code) told' =
    (told' ≡ told)
    × (((code ≡ 31) × (¬ IsTable told.mode (field_of_code field) ⊎ (16 ≤ bit)))
    ⊎ ((IsTable told.mode (field_of_code field) × (bit < 16) × (code ≡ 8) × (last < first))
    ⊎ (IsTable told.mode (field_of_code field) × (bit < 16) × (first ≤ last) × (code ≡ 32) × ¬ MayPut (field_of_code field) bit first last told)))

-- an entry as it is told
abbrev pub entry_told : TcamWrite → Entry
entry_told told =
    record {
      value = record { lane = told.value };
      mask = record { lane = told.mask };
      tag = tag_number told.tag;
      result = told.result;
    }

-- a slot holds an entry
abbrev pub AddsSlot : TcamWrite → Account → Result (Unit {0}) ℕ → Account → Type 0
AddsSlot entry told (Ok done) told' =
    (entry.slot < told.slots)
    × (told' ≡ record told { events = told.events ++ Written (writes.Slot entry.slot (Some (entry_told entry))) ∷ [] })
AddsSlot entry told (Err code) told' =
    (told' ≡ told) × (((code ≡ 33) × (told.slots ≤ entry.slot)) ⊎ ((code ≡ 11) × (entry.slot < told.slots)))

-- a table has a word at a port
abbrev pub WritesWord : Option Field → ℕ → ℕ → Account → Account → Type 0
WritesWord None port word told told' = ⊥
WritesWord (Some field) port word told told' =
    told' ≡ record told { events = told.events ++ Written (writes.Table field port word) ∷ [] }

abbrev pub AddsWord : ℕ → ℕ → ℕ → Account → Result (Unit {0}) ℕ → Account → Type 0
AddsWord field port word told (Ok done) told' =
    IsTable told.mode (field_of_code field) × WritesWord (field_of_code field) port word told told'
AddsWord field port word told (Err code) told' =
    (told' ≡ told) × (((code ≡ 31) × ¬ IsTable told.mode (field_of_code field)) ⊎ ((code ≡ 11) × IsTable told.mode (field_of_code field)))

-- a rule of the set as plain numbers that are right
pub record IsStoredRule (stored : TcamStored) : Type 0 where
  pub source : IsIpv6Prefix stored.source stored.source_length
  pub destination : IsIpv6Prefix stored.destination stored.destination_length
  pub source_ports : stored.source_port_first ≤ stored.source_port_last
  pub destination_ports : stored.destination_port_first ≤ stored.destination_port_last
  pub protocol : stored.protocol ≤ 256

-- and as the rule
abbrev pub rule_stored : TcamStored → Rule
rule_stored stored =
    record {
      priority = tag_number stored.tag;
      src = ipv6_block stored.source stored.source_length;
      dst = ipv6_block stored.destination stored.destination_length;
      proto = protocol_of_code stored.protocol;
      sport = record { lo = stored.source_port_first; hi = stored.source_port_last };
      dport = record { lo = stored.destination_port_first; hi = stored.destination_port_last };
      result = stored.result;
    }

abbrev pub HaveStoredPrefixes : TcamStored → Type 0
HaveStoredPrefixes stored =
    IsIpv6Prefix stored.source stored.source_length × IsIpv6Prefix stored.destination stored.destination_length

abbrev pub HaveStoredPorts : TcamStored → Type 0
HaveStoredPorts stored =
    (stored.source_port_first ≤ stored.source_port_last) × (stored.destination_port_first ≤ stored.destination_port_last)

-- The code of what is wrong with plain numbers that are none: of the source, then of the destination, the ranges of ports, the
-- protocol.
abbrev pub IsStoredFault : TcamStored → ℕ → Type 0
IsStoredFault stored code =
    IsPrefix6Fault stored.source stored.source_length code
    ⊎ ((IsIpv6Prefix stored.source stored.source_length × IsPrefix6Fault stored.destination stored.destination_length code)
    ⊎ ((HaveStoredPrefixes stored × (code ≡ 8) × (stored.source_port_last < stored.source_port_first))
    ⊎ ((HaveStoredPrefixes stored × (code ≡ 8) × (stored.destination_port_last < stored.destination_port_first))
    ⊎ (HaveStoredPrefixes stored × HaveStoredPorts stored × (code ≡ 9) × (256 < stored.protocol)))))

abbrev pub IsRuleOr : TcamStored → Result Rule ℕ → Type 0
IsRuleOr stored (Ok rule) = IsStoredRule stored × (rule ≡ rule_stored stored)
IsRuleOr stored (Err code) = IsStoredFault stored code

-- A rule joins the set. Behind what is wrong with its numbers: one of its priority was told, or there are as many as slots.
abbrev pub AddsStored : Rule → Account → Result (Unit {0}) ℕ → Account → Type 0
AddsStored rule told (Ok done) told' =
    IsFalse (has_priority told.rules rule.priority) × (length told.rules < told.slots)
    × (told' ≡ record told { rules = with_rule told.rules rule })
AddsStored rule told (Err code) told' =
    (told' ≡ told)
    × (((code ≡ 14) × IsTrue (has_priority told.rules rule.priority))
    ⊎ ((IsFalse (has_priority told.rules rule.priority) × (code ≡ 17) × (told.slots ≤ length told.rules))
    ⊎ (IsFalse (has_priority told.rules rule.priority) × (length told.rules < told.slots) × (code ≡ 11))))

abbrev pub AddsRuleOr : TcamStored → Result Rule ℕ → Account → Result (Unit {0}) ℕ → Account → Type 0
AddsRuleOr stored (Ok rule) told answer told' = IsStoredRule stored × (rule ≡ rule_stored stored) × AddsStored rule told answer told'
AddsRuleOr stored (Err fault) told answer told' = IsStoredFault stored fault × (answer ≡ Err fault) × (told' ≡ told)

abbrev pub TakesRule : TcamStored → Account → Result (Unit {0}) ℕ → Account → Type 0
TakesRule stored told answer told' = (read : Result Rule ℕ) × AddsRuleOr stored read told answer told'
