-- What comparisons mean, in the words of packets.
use Rattle.std.specs.Prelude.{◌≡◌, ℕ, ◌<◌, ◌^◌, Bool, true, false, not, ◌==◌, ◌&&◌, ◌||◌, nat_le, Ok, Option, Some, None, List, [], ◌∷◌}
use Rattle.std.specs.List.{list_any}
use Rattle.json.specs.Json.{Json, Items, no_items, item}
use Rattle.rule_model.specs.declared.IpVersion.{IpVersion}
use Rattle.rule_model.specs.declared.Key.{Key}
use Rattle.rule_model.specs.AddressBlock.{block_holds}
use Rattle.rule_model.specs.Key.{IsKey}
use Rattle.written_chains.specs.declared.meets.Tests.{Tests}
use Rattle.written_chains.specs.Meets.{tests_hold}
use Rattle.nft_rulesets.specs.declared.asked.Asked.{Asked}
use Rattle.nft_rulesets.specs.declared.fields.Field.{Field}
use Rattle.nft_rulesets.specs.declared.fields.Field.TheVariants as field
use Rattle.nft_rulesets.specs.declared.spans.Span.{Span}
use Rattle.nft_rulesets.specs.Concats.{element_parts, element_product, elements_product}
use Rattle.nft_rulesets.specs.Looks.{pair_in}
use Rattle.nft_rulesets.specs.Matches.{of_same}
use Rattle.nft_rulesets.specs.Spans.{blocks, outside_up_to}
use Rattle.nft_rulesets.specs.Products.{compared}
use Rattle.nft_rulesets.specs.Values.{value_span}
use Rattle.nft_rulesets.specs.Verdicts.{are_apart, pair_held}

-- a number is in a span, and in one of several
abbrev pub span_holds : Span → ℕ → Bool
span_holds span number = nat_le span.lo number && nat_le number span.hi

abbrev pub in_spans : List Span → ℕ → Bool
in_spans spans number = list_any (λ (span : Span). span_holds span number) spans

-- an address is in one of the blocks of a span exactly where it is in the span
abbrev pub BlocksAreTheSpan : Type 0
BlocksAreTheSpan = (span : Span) (address : ℕ) → address < 2 ^ 128 → list_any (λ block. block_holds block address) (blocks 128 0 span) ≡ span_holds span address

-- a number is outside of some spans exactly where none of them has it
abbrev pub OutsideIsTheRest : Type 0
OutsideIsTheRest = (most : ℕ) (cuts : List Span) (number : ℕ) → in_spans (outside_up_to most cuts) number ≡ (nat_le number most && not (in_spans cuts number))

-- ---- packets

-- one of some tests holds a packet's key
abbrev pub any_holds : List Tests → Key → Bool
any_holds tests key = list_any (λ one. tests_hold one key) tests

-- what a packet has of a field that has numbers
abbrev pub number_of : Field → Key → Option ℕ
number_of field.Source key = Some key.src
number_of field.Receiver key = Some key.dst
number_of field.Protocol key = Some key.proto
number_of (field.SourcePort proto) key = Some key.sport
number_of (field.ReceiverPort proto) key = Some key.dport
number_of field.Version key = None
number_of field.Absent key = None

-- it is of the protocol that a port is of
abbrev pub same_proto : Option ℕ → Key → Bool
same_proto None key = true
same_proto (Some proto) key = key.proto == proto

abbrev pub is_of_field : Field → Key → Bool
is_of_field field.Source key = true
is_of_field field.Receiver key = true
is_of_field field.Protocol key = true
is_of_field (field.SourcePort proto) key = same_proto proto key
is_of_field (field.ReceiverPort proto) key = same_proto proto key
is_of_field field.Version key = false
is_of_field field.Absent key = false

-- A comparison leaves of some tests those packets whose field is in one of its spans, or, where it is negated, in none.
abbrev pub ComparisonsHoldWhatTheySay : Type 0
ComparisonsHoldWhatTheySay = (tests both : List Tests) (tested : Field) (negated : Bool) (spans : List Span) (key : Key) (number : ℕ)
    → IsKey key → number_of tested key ≡ Some number → compared tests tested negated spans ≡ Ok both
    → any_holds both key ≡ (any_holds tests key && (is_of_field tested key && of_same (in_spans spans number) negated))

-- ---- fields together

-- a part of an element holds a packet's field
abbrev pub number_said : Option Span → Option ℕ → Bool
number_said None number = false
number_said (Some span) None = false
number_said (Some span) (Some number) = span_holds span number

abbrev pub part_holds : IpVersion → Field → Json → Key → Bool
part_holds version tested value key = is_of_field tested key && number_said (value_span tested version value) (number_of tested key)

-- there is a part for each of some fields, and each of them holds
abbrev pub parts_hold : IpVersion → List Field → Items → Key → Bool
parts_hold version [] no_items key = true
parts_hold version [] (item value items) key = false
parts_hold version (tested ∷ fields) no_items key = false
parts_hold version (tested ∷ fields) (item value items) key = part_holds version tested value key && parts_hold version fields items key

abbrev pub listed_hold : IpVersion → List Field → Option Items → Key → Bool
listed_hold version fields None key = false
listed_hold version fields (Some parts) key = parts_hold version fields parts key

abbrev pub element_holds : IpVersion → List Field → Json → Key → Bool
element_holds version fields value key = listed_hold version fields (element_parts value) key

-- one of some elements does
abbrev pub elements_hold : IpVersion → List Field → Items → Key → Bool
elements_hold version fields no_items key = false
elements_hold version fields (item value items) key = element_holds version fields value key || elements_hold version fields items key

-- An element of fields together leaves of some tests those packets that have each field in its part: so of a map's pair.
abbrev pub PartsHoldTogether : Type 0
PartsHoldTogether = (version : IpVersion) (fields : List Field) (tests both : List Tests) (value : Json) (key : Key)
    → IsKey key → element_product version fields tests value ≡ Ok both
    → any_holds both key ≡ (any_holds tests key && element_holds version fields value key)

-- A comparison with a set of them leaves those that one of its elements holds.
abbrev pub ElementsHoldTogether : Type 0
ElementsHoldTogether = (version : IpVersion) (fields : List Field) (tests both : List Tests) (items : Items) (key : Key)
    → IsKey key → elements_product version fields tests items ≡ Ok both
    → any_holds both key ≡ (any_holds tests key && elements_hold version fields items key)

-- one of some pairs of a map has a packet
abbrev pub pairs_hold : IpVersion → List Field → List Tests → Items → Key → Bool
pairs_hold version fields tests no_items key = false
pairs_hold version fields tests (item value items) key =
    any_holds (pair_held version fields tests (pair_in value)) key || pairs_hold version fields tests items key

-- Of the pairs of a map that are apart none has a packet of these tests, which are those of the pairs before it that let packets go on.
abbrev pub PairsAreApart : Type 0
PairsAreApart = (asked : Asked) (all : Items) (fields : List Field) (tests passed : List Tests) (items : Items) (key : Key)
    → are_apart asked all fields tests passed items ≡ true → any_holds passed key ≡ true → pairs_hold asked.version fields tests items key ≡ false
