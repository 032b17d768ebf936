-- A value's tests hold a packet exactly where it has that value, or hasn't, behind `!`.
use Rattle.std.specs.Prelude.{◌≡◌, ℕ, ◌≤◌, Bool, false, not, ◌==◌, ◌&&◌, ◌||◌, nat_le, List, [], ◌∷◌, if◌then◌else◌}
use Rattle.rule_model.specs.declared.IpVersion.{IpVersion}
use Rattle.rule_model.specs.declared.Key.{Key}
use Rattle.rule_model.specs.Key.{IsKey}
use Rattle.rule_model.specs.AddressBlock.{AddressBlock, IsAddressBlock, block_holds}
use Rattle.rule_model.specs.PortRange.{PortRange, range_holds}
use Rattle.written_chains.specs.declared.meets.Tests.{Tests}
use Rattle.written_chains.specs.Meets.{tests_hold}
use Rattle.iptables.specs.declared.fields.Side.{Side}
use Rattle.iptables.specs.declared.fields.Side.TheVariants.{Src, Dst}
use Rattle.iptables.specs.declared.spans.Span.{Span}
use Rattle.iptables.specs.Faces.{names_face}
use Rattle.iptables.specs.Values.{bits_number, blocks_tests, either_tests, face_tests, last_number, met_with, protos_tests, ranges_tests, span_tests}

-- one of the tests holds a packet's key
abbrev pub any_holds : List Tests → Key → Bool
any_holds [] key = false
any_holds (tests ∷ more) key = tests_hold tests key || any_holds more key

-- the address of an end
abbrev pub address_at : Side → Key → ℕ
address_at Src key = key.src
address_at Dst key = key.dst

-- the contrary, behind `!`
abbrev pub unless : Bool → Bool → Bool
unless negated holds = if negated then not holds else holds

-- Two options hold a packet where both do.
abbrev pub MetHold : Type 0
MetHold = (tests others : List Tests) (key : Key) → any_holds (met_with tests others) key ≡ any_holds tests key && any_holds others key

-- A prefix.
abbrev pub BlocksHold : Type 0
BlocksHold = (side : Side) (negated : Bool) (block : AddressBlock) (key : Key) → IsAddressBlock block → IsKey key
    → any_holds (blocks_tests side negated block) key ≡ unless negated (block_holds block (address_at side key))

-- The addresses from one to another.
abbrev pub SpansHold : Type 0
SpansHold = (side : Side) (version : IpVersion) (negated : Bool) (span : Span) (key : Key) → span.first ≤ span.last → span.last ≤ last_number version → IsKey key
    → any_holds (span_tests side version negated span) key
    ≡ unless negated (nat_le span.first (bits_number version (address_at side key)) && nat_le (bits_number version (address_at side key)) span.last)

-- A protocol.
abbrev pub ProtosHold : Type 0
ProtosHold = (negated : Bool) (proto : ℕ) (key : Key) → IsKey key → any_holds (protos_tests negated proto) key ≡ unless negated (proto == key.proto)

-- the port of an end, and whether a range has it
abbrev pub port_at : Side → Key → ℕ
port_at Src key = key.sport
port_at Dst key = key.dport

abbrev pub any_range : List PortRange → ℕ → Bool
any_range [] port = false
any_range (range ∷ ranges) port = range_holds range port || any_range ranges port

-- Ports, of one range or several.
abbrev pub PortsHold : Type 0
PortsHold = (side : Side) (negated : Bool) (ranges : List PortRange) (key : Key) → IsKey key
    → any_holds (ranges_tests side negated ranges) key ≡ unless negated (any_range ranges (port_at side key))

-- Ports of either end: the sender's or the receiver's is one of them, and behind `!` neither is.
abbrev pub EitherHolds : Type 0
EitherHolds = (negated : Bool) (ranges : List PortRange) (key : Key) → IsKey key
    → any_holds (either_tests negated ranges) key ≡ unless negated (any_range ranges key.sport || any_range ranges key.dport)

-- An interface: a rule that names it holds all packets that come in by it, and any other rule none.
abbrev pub FacesHold : Type 0
FacesHold = (negated : Bool) (word name : List ℕ) (key : Key) → IsKey key
    → any_holds (face_tests negated (names_face word name)) key ≡ unless negated (names_face word name)
