-- The tests that a comparison is: each one holds some of the packets, and each of those packets is held by one.
use Rattle.std.specs.Prelude.{◌≡◌, ℕ, ◌+◌, ◌-◌, ◌*◌, ◌^◌, Bool, true, false, not, ◌&&◌, ◌||◌, nat_le, Result, Ok, Err, Option, Some, None, is_some, List, [], ◌∷◌, ◌++◌, length, map, if◌then◌else◌}
use Rattle.std.specs.List.{list_all, range_with_len}
use Rattle.rule_model.specs.AddressBlock.{AddressBlock}
use Rattle.rule_model.specs.PortRange.{PortRange}
use Rattle.iptables.specs.Values.{any_tests, has_ports}
use Rattle.written_chains.specs.declared.meets.Tests.{Tests}
use Rattle.written_chains.specs.Meets.{meet}
use Rattle.nft_rulesets.specs.declared.fields.Field.{Field}
use Rattle.nft_rulesets.specs.declared.fields.Field.TheVariants as field
use Rattle.nft_rulesets.specs.declared.spans.Span.{Span}
use Rattle.nft_rulesets.specs.declared.why.Why.{Why}
use Rattle.nft_rulesets.specs.declared.why.Why.TheVariants as why
use Rattle.nft_rulesets.specs.Spans.{blocks, outside_up_to}

-- the greatest number that a field has
abbrev pub most_of : Field → ℕ
most_of field.Source = 2 ^ 128 - 1
most_of field.Receiver = 2 ^ 128 - 1
most_of field.Protocol = 255
most_of (field.SourcePort proto) = 65535
most_of (field.ReceiverPort proto) = 65535
most_of field.Version = 0
most_of field.Absent = 0

-- ---- of one span

abbrev pub source_test : AddressBlock → Tests
source_test block = record any_tests { src = block }

abbrev pub receiver_test : AddressBlock → Tests
receiver_test block = record any_tests { dst = block }

abbrev pub proto_test : ℕ → Tests
proto_test proto = record any_tests { proto = Some proto }

abbrev pub sport_test : Option ℕ → Span → Tests
sport_test proto span = record any_tests { proto = proto; sport = record { lo = span.lo; hi = span.hi } }

abbrev pub dport_test : Option ℕ → Span → Tests
dport_test proto span = record any_tests { proto = proto; dport = record { lo = span.lo; hi = span.hi } }

-- a span of a field's numbers
abbrev pub is_right : ℕ → Span → Bool
is_right most span = nat_le span.lo span.hi && nat_le span.hi most

abbrev pub proto_tests : Span → List Tests
proto_tests span = map proto_test (range_with_len span.lo (span.hi + 1 - span.lo))

abbrev pub span_tests : Field → Span → Option (List Tests)
span_tests field.Source span = Some (map source_test (blocks 128 0 span))
span_tests field.Receiver span = Some (map receiver_test (blocks 128 0 span))
span_tests field.Protocol span = if is_right 255 span then Some (proto_tests span) else None
span_tests (field.SourcePort proto) span = if is_right 65535 span then Some (sport_test proto span ∷ []) else None
span_tests (field.ReceiverPort proto) span = if is_right 65535 span then Some (dport_test proto span ∷ []) else None
span_tests field.Version span = None
span_tests field.Absent span = None

-- the same of ports
abbrev pub sports_test : Option ℕ → Option PortRange → Option (List Tests)
sports_test proto None = None
sports_test proto (Some ports) = Some (record any_tests { proto = proto; sport = ports } ∷ [])

abbrev pub dports_test : Option ℕ → Option PortRange → Option (List Tests)
dports_test proto None = None
dports_test proto (Some ports) = Some (record any_tests { proto = proto; dport = ports } ∷ [])

-- tests were put behind others, or there are none to put
abbrev pub IsPut : Bool → Option (List Tests) → List Tests → List Tests → Type 0
IsPut true found old new = (tests : List Tests) × (found ≡ Some tests) × (new ≡ old ++ tests)
IsPut false found old new = found ≡ None

-- ---- of several

abbrev pub before_tests : Option (List Tests) → Option (List Tests) → Option (List Tests)
before_tests None behind = None
before_tests (Some tests) None = None
before_tests (Some tests) (Some behind) = Some (tests ++ behind)

abbrev pub all_tests : Field → List Span → Option (List Tests)
all_tests tested [] = Some []
all_tests tested (span ∷ spans) = before_tests (span_tests tested span) (all_tests tested spans)

-- ---- with those that a rule has by then

abbrev pub met_tests : Option Tests → List Tests
met_tests None = []
met_tests (Some tests) = tests ∷ []

-- where both hold
abbrev pub meets_one : Tests → List Tests → List Tests
meets_one tests [] = []
meets_one tests (other ∷ others) = met_tests (meet tests other) ++ meets_one tests others

abbrev pub meets_all : List Tests → List Tests → List Tests
meets_all [] others = []
meets_all (tests ∷ more) others = meets_one tests others ++ meets_all more others

-- some packet is held by one of these and by one of others
abbrev pub is_met : Tests → List Tests → Bool
is_met tests [] = false
is_met tests (other ∷ others) = is_some (meet tests other) || is_met tests others

abbrev pub are_met : List Tests → List Tests → Bool
are_met [] others = false
are_met (tests ∷ more) others = is_met tests others || are_met more others

-- a port of any protocol is said where the rule tests before that the packet has ports
abbrev pub has_no_proto : Option ℕ → Bool
has_no_proto None = true
has_no_proto (Some proto) = false

abbrev pub wants_proto : Field → Bool
wants_proto field.Source = false
wants_proto field.Receiver = false
wants_proto field.Protocol = false
wants_proto (field.SourcePort proto) = has_no_proto proto
wants_proto (field.ReceiverPort proto) = has_no_proto proto
wants_proto field.Version = false
wants_proto field.Absent = false

abbrev pub all_have_ports : List Tests → Bool
all_have_ports tests = list_all (λ (one : Tests). has_ports one.proto) tests

-- no more than a list has lines
abbrev pub are_few : List Tests → List Tests → Bool
are_few tests others = nat_le (length others) 4095 && nat_le (length tests * length others) 4095

abbrev pub met_within : List Tests → Option (List Tests) → Result (List Tests) Why
met_within tests None = Err why.Values
met_within tests (Some others) = if are_few tests others then Ok (meets_all tests others) else Err why.Many

-- the tests of a rule that hold where a field is in one of some spans too
abbrev pub product : List Tests → Field → List Span → Result (List Tests) Why
product tests tested spans =
    if wants_proto tested && not (all_have_ports tests) then Err why.Ports else met_within tests (all_tests tested spans)

-- and where it is in one, if there is one
abbrev pub pair_tests : List Tests → Field → Option Span → Result (List Tests) Why
pair_tests tests tested None = Err why.Values
pair_tests tests tested (Some span) = product tests tested (span ∷ [])

-- or, where it is negated, in none
abbrev pub compared_spans : Field → Bool → List Span → List Span
compared_spans tested negated spans = if negated then outside_up_to (most_of tested) spans else spans

abbrev pub compared : List Tests → Field → Bool → List Span → Result (List Tests) Why
compared tests tested negated spans = product tests tested (compared_spans tested negated spans)
