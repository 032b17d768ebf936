-- What the value of an option says: the tests on one field, one of which holds a packet where the option does.
use Rattle.std.specs.Prelude.{ℕ, zero, suc, ◌+◌, ◌-◌, ◌*◌, ◌/◌, ◌%◌, ◌^◌, Bool, true, false, not, ◌==◌, ◌||◌, nat_le, Result, Ok, Err, Option, Some, None, List, [], ◌∷◌, ◌++◌, codes, take, drop, if◌then◌else◌}
use Rattle.std.specs.List.{position}
use Rattle.std.specs.Str.{bytes_eq}
use Rattle.rule_model.specs.declared.IpVersion.{IpVersion}
use Rattle.rule_model.specs.declared.IpVersion.TheVariants.{V4, V6}
use Rattle.rule_model.specs.AddressBlock.{AddressBlock, any_address}
use Rattle.rule_model.specs.PortRange.{PortRange, any_port}
use Rattle.line_words.specs.declared.WordFault.{WordFault}
use Rattle.line_words.specs.Kinds as kinds
use Rattle.line_words.specs.Notations.{notation_for}
use Rattle.written_chains.specs.Meets.{meet}
use Rattle.written_chains.specs.declared.meets.Tests.{Tests}
use Rattle.iptables.specs.declared.blocks.Which.{Which}
use Rattle.iptables.specs.declared.blocks.Which.TheVariants.{All, Above, Below}
use Rattle.iptables.specs.declared.fields.Ends.{Ends}
use Rattle.iptables.specs.declared.fields.Ends.TheVariants.{Of, Either}
use Rattle.iptables.specs.declared.fields.Side.{Side}
use Rattle.iptables.specs.declared.fields.Side.TheVariants.{Src, Dst}
use Rattle.iptables.specs.declared.spans.Span.{Span}
use Rattle.iptables.specs.declared.values.Field.{Field}
use Rattle.iptables.specs.declared.values.Field.TheVariants as field
use Rattle.iptables.specs.declared.why.Why.{Why}
use Rattle.iptables.specs.Faces.{names_face}
use Rattle.iptables.specs.declared.why.Why.TheVariants as why

-- tests that hold each packet
abbrev pub any_tests : Tests
any_tests = record { src = any_address; dst = any_address; proto = None; sport = any_port; dport = any_port }

-- and on one field alone
abbrev pub block_tests : Side → AddressBlock → Tests
block_tests Src block = record any_tests { src = block }
block_tests Dst block = record any_tests { dst = block }

abbrev pub proto_tests : ℕ → Tests
proto_tests proto = record any_tests { proto = Some proto }

abbrev pub port_tests : Side → PortRange → Tests
port_tests Src range = record any_tests { sport = range }
port_tests Dst range = record any_tests { dport = range }

-- ---- the tests that hold where one of these and one of those do

abbrev pub met_tests : Option Tests → List Tests
met_tests None = []
met_tests (Some tests) = tests ∷ []

abbrev pub met_each : Tests → List Tests → List Tests
met_each tests [] = []
met_each tests (other ∷ others) = met_tests (meet tests other) ++ met_each tests others

abbrev pub met_with : List Tests → List Tests → List Tests
met_with [] others = []
met_with (tests ∷ more) others = met_each tests others ++ met_with more others

-- ---- addresses

-- the number of the other half of what a block is one half of: of its leading bits the last one is turned
abbrev pub sibling : ℕ → ℕ
sibling number = if number % 2 == 0 then number + 1 else number - 1

-- the block of this length whose leading bits are this number
abbrev pub numbered_block : ℕ → ℕ → AddressBlock
numbered_block number len = record { addr = number * 2 ^ (128 - len); len = len }

-- its leading bits
abbrev pub number_of : AddressBlock → ℕ
number_of block = if block.len == 0 then 0 else block.addr / 2 ^ (128 - block.len)

-- all siblings, or those that stand above what they are beside, or below it
abbrev pub stands : Which → ℕ → Bool
stands All number = true
stands Above number = number % 2 == 0
stands Below number = not (number % 2 == 0)

abbrev pub sibling_tests : Side → Which → ℕ → ℕ → List Tests
sibling_tests side which number len =
    if stands which number then block_tests side (numbered_block (sibling number) len) ∷ [] else []

-- those of a block and of each one that it lies in: all addresses but those in it, or those above it, or below it
abbrev pub beside : Side → Which → ℕ → ℕ → List Tests
beside side which zero number = []
beside side which (suc len) number = sibling_tests side which number (suc len) ++ beside side which len (number / 2)

abbrev pub blocks_tests : Side → Bool → AddressBlock → List Tests
blocks_tests side false block = block_tests side block ∷ []
blocks_tests side true block = beside side All block.len (number_of block)

abbrev pub block_said : Side → Bool → Result AddressBlock WordFault → Result (List Tests) Why
block_said side negated (Ok block) = Ok (blocks_tests side negated block)
block_said side negated (Err fault) = Err why.Address

-- ---- addresses from one to another

-- how many bits an address of a version has, and the last one, as numbers of these bits
abbrev pub bits_of : IpVersion → ℕ
bits_of V4 = 32
bits_of V6 = 128

abbrev pub last_number : IpVersion → ℕ
last_number V4 = 4294967295
last_number V6 = 340282366920938463463374607431768211455

abbrev pub bits_number : IpVersion → ℕ → ℕ
bits_number V4 address = address / 2 ^ 96
bits_number V6 address = address

-- the first and the last number, with a dash between their addresses
abbrev pub span_from : ℕ → ℕ → Option Span
span_from first last = if nat_le first last then Some (record { first = first; last = last }) else None

abbrev pub span_of : IpVersion → Result ℕ WordFault → Result ℕ WordFault → Option Span
span_of version (Ok first) (Ok last) = span_from (bits_number version first) (bits_number version last)
span_of version (Ok first) (Err fault) = None
span_of version (Err fault) last = None

abbrev pub first_dash : List ℕ → Option ℕ
first_dash word = position (λ byte. byte == 45) word

abbrev pub span_at : IpVersion → List ℕ → Option ℕ → Option Span
span_at version word None = None
span_at version word (Some place) =
    span_of version (kinds.address_of (notation_for version) (take place word)) (kinds.address_of (notation_for version) (drop (place + 1) word))

abbrev pub word_span : IpVersion → List ℕ → Option Span
word_span version word = span_at version word (first_dash word)

-- the addresses from a number on, and those up to one
abbrev pub from_number : Side → IpVersion → ℕ → List Tests
from_number side version number = if number == 0 then any_tests ∷ [] else beside side Above (bits_of version) (number - 1)

abbrev pub up_to_number : Side → IpVersion → ℕ → List Tests
up_to_number side version number =
    if number == last_number version then any_tests ∷ [] else beside side Below (bits_of version) (number + 1)

-- those between two, and all others
abbrev pub span_tests : Side → IpVersion → Bool → Span → List Tests
span_tests side version false span = met_with (from_number side version span.first) (up_to_number side version span.last)
span_tests side version true span = beside side Below (bits_of version) span.first ++ beside side Above (bits_of version) span.last

abbrev pub span_said : Side → IpVersion → Bool → Option Span → Result (List Tests) Why
span_said side version negated (Some span) = Ok (span_tests side version negated span)
span_said side version negated None = Err why.Span

-- ---- protocols

-- a protocol by a name that scripts don't have, or by one that they have, or by its number; 0 stands for any
abbrev pub proto_named : List ℕ → Option ℕ
proto_named word =
    if bytes_eq word (codes "ipv6-icmp") || bytes_eq word (codes "icmpv6") then Some 58
    else if bytes_eq word (codes "igmp") then Some 2
    else if bytes_eq word (codes "gre") then Some 47
    else if bytes_eq word (codes "esp") then Some 50
    else if bytes_eq word (codes "ah") then Some 51
    else if bytes_eq word (codes "sctp") then Some 132
    else None

abbrev pub proto_numbered : Result ℕ WordFault → Option ℕ
proto_numbered (Ok proto) = if proto == 0 then None else Some proto
proto_numbered (Err fault) = None

abbrev pub or_numbered : Option ℕ → Option ℕ → Option ℕ
or_numbered (Some proto) other = Some proto
or_numbered None other = other

abbrev pub proto_of : List ℕ → Option ℕ
proto_of word = or_numbered (proto_named word) (proto_numbered (kinds.proto_of word))

-- a protocol, if it isn't this one
abbrev pub proto_but : ℕ → ℕ → List Tests
proto_but proto other = if proto == other then [] else proto_tests other ∷ []

-- all others of the last ones up to 255, of so many
abbrev pub other_protos : ℕ → ℕ → List Tests
other_protos proto zero = []
other_protos proto (suc left) = proto_but proto (255 - left) ++ other_protos proto left

abbrev pub protos_tests : Bool → ℕ → List Tests
protos_tests false proto = proto_tests proto ∷ []
protos_tests true proto = other_protos proto 256

abbrev pub proto_said : Bool → Option ℕ → Result (List Tests) Why
proto_said negated (Some proto) = Ok (protos_tests negated proto)
proto_said negated None = Err why.Protocol

-- ---- ports

-- ports, of a protocol that has them: one, or the first and the last with a colon between
abbrev pub has_ports : Option ℕ → Bool
has_ports None = false
has_ports (Some proto) = (proto == 6) || (proto == 17)

abbrev pub first_colon : List ℕ → Option ℕ
first_colon word = position (λ byte. byte == 58) word

abbrev pub range_from : ℕ → ℕ → Option PortRange
range_from lo hi = if nat_le lo hi then Some (record { lo = lo; hi = hi }) else None

abbrev pub pair_of : Result ℕ WordFault → Result ℕ WordFault → Option PortRange
pair_of (Ok lo) (Ok hi) = range_from lo hi
pair_of (Ok lo) (Err fault) = None
pair_of (Err fault) last = None

abbrev pub port_pair : List ℕ → List ℕ → Option PortRange
port_pair first last = pair_of (kinds.port_of first) (kinds.port_of last)

abbrev pub ports_at : List ℕ → Option ℕ → Option PortRange
ports_at word None = port_pair word word
ports_at word (Some place) = port_pair (take place word) (drop (place + 1) word)

abbrev pub colon_ports : List ℕ → Option PortRange
colon_ports word = ports_at word (first_colon word)

-- one range, or several with commas between, at most this many
abbrev pub one_range : Option PortRange → Option (List PortRange)
one_range None = None
one_range (Some range) = Some (range ∷ [])

abbrev pub first_comma : List ℕ → Option ℕ
first_comma word = position (λ byte. byte == 44) word

abbrev pub with_range : List PortRange → Option PortRange → Option (List PortRange)
with_range before None = None
with_range before (Some range) = Some (before ++ range ∷ [])

abbrev pub going_on : (List PortRange → Option (List PortRange)) → Option (List PortRange) → Option (List PortRange)
going_on behind None = None
going_on behind (Some ranges) = behind ranges

abbrev pub ranges_at : (List PortRange → List ℕ → Option (List PortRange)) → List PortRange → List ℕ → Option ℕ → Option (List PortRange)
ranges_at behind before word None = with_range before (colon_ports word)
ranges_at behind before word (Some place) =
    going_on (λ ranges. behind ranges (drop (place + 1) word)) (with_range before (colon_ports (take place word)))

abbrev pub range_list : ℕ → List PortRange → List ℕ → Option (List PortRange)
range_list zero before word = None
range_list (suc most) before word = ranges_at (λ ranges rest. range_list most ranges rest) before word (first_comma word)

-- each of them
abbrev pub each_range : Side → List PortRange → List Tests
each_range side [] = []
each_range side (range ∷ ranges) = port_tests side range ∷ each_range side ranges

abbrev pub range_tests : Side → Option PortRange → List Tests
range_tests side None = []
range_tests side (Some range) = port_tests side range ∷ []

-- the ports below a range, and those above it: all but those in it
abbrev pub below : Side → PortRange → List Tests
below side range = if range.lo == 0 then [] else port_tests side (record { lo = 0; hi = range.lo - 1 }) ∷ []

abbrev pub above : Side → PortRange → List Tests
above side range = if range.hi == 65535 then [] else port_tests side (record { lo = range.hi + 1; hi = 65535 }) ∷ []

abbrev pub around : Side → PortRange → List Tests
around side range = below side range ++ above side range

-- the tests of these that hold beside each of the ranges
abbrev pub apart : Side → List Tests → List PortRange → List Tests
apart side left [] = left
apart side left (range ∷ ranges) = apart side (met_with left (around side range)) ranges

abbrev pub ranges_tests : Side → Bool → List PortRange → List Tests
ranges_tests side false ranges = each_range side ranges
ranges_tests side true ranges = apart side (any_tests ∷ []) ranges

-- a port of either end that is one of these; behind `!` both ports, where neither is
abbrev pub either_tests : Bool → List PortRange → List Tests
either_tests false ranges = ranges_tests Src false ranges ++ ranges_tests Dst false ranges
either_tests true ranges = met_with (ranges_tests Src true ranges) (ranges_tests Dst true ranges)

abbrev pub ends_tests : Ends → Bool → List PortRange → List Tests
ends_tests (Of side) negated ranges = ranges_tests side negated ranges
ends_tests Either negated ranges = either_tests negated ranges

abbrev pub ports_by : Ends → Bool → Option (List PortRange) → Result (List Tests) Why
ports_by ends negated (Some ranges) = Ok (ends_tests ends negated ranges)
ports_by ends negated None = Err why.Ports

abbrev pub ports_said : Ends → Bool → Bool → Option (List PortRange) → Result (List Tests) Why
ports_said ends negated has ranges = if has then ports_by ends negated ranges else Err why.Ports

-- ---- an interface

-- the list is for the packets of one, so a rule of it holds all of them, and one of another holds none
abbrev pub face_tests : Bool → Bool → List Tests
face_tests false named = if named then any_tests ∷ [] else []
face_tests true named = if named then [] else any_tests ∷ []

-- ---- any of them

-- a list of ports has 15 members at most
abbrev pub ranges_of : Bool → List ℕ → Option (List PortRange)
ranges_of several word = if several then range_list 15 [] word else one_range (colon_ports word)

-- What a word says as the value of an option, behind `!` or not, where packets come in by this interface, and the rule is of this protocol.
abbrev pub value_said : IpVersion → List ℕ → Option ℕ → Field → Bool → List ℕ → Result (List Tests) Why
value_said version face proto (field.Block side) negated word = block_said side negated ((notation_for version).block word)
value_said version face proto (field.Span side) negated word = span_said side version negated (word_span version word)
value_said version face proto field.Proto negated word = proto_said negated (proto_of word)
value_said version face proto (field.Ports ends several) negated word = ports_said ends negated (has_ports proto) (ranges_of several word)
value_said version face proto field.Face negated word = Ok (face_tests negated (names_face word face))

-- and the protocol of which the rule is behind it
abbrev pub proto_behind : Option ℕ → Field → Bool → List ℕ → Option ℕ
proto_behind proto (field.Block side) negated word = proto
proto_behind proto (field.Span side) negated word = proto
proto_behind proto field.Proto negated word = if negated then None else proto_of word
proto_behind proto (field.Ports ends several) negated word = proto
proto_behind proto field.Face negated word = proto
