-- What a comparison tests.
use Rattle.std.specs.Prelude.{ℕ, Bool, true, false, not, Result, Ok, Err, Option, Some, None, List, [], ◌∷◌, ◌++◌, codes, if◌then◌else◌}
use Rattle.std.specs.List.{list_any}
use Rattle.std.specs.Str.{bytes_eq}
use Rattle.rule_model.specs.declared.IpVersion.{IpVersion}
use Rattle.rule_model.specs.declared.IpVersion.TheVariants.{V4, V6}
use Rattle.json.specs.Find.{as_array, as_str, get}
use Rattle.json.specs.Json.{Json, Items, no_items, item}
use Rattle.written_chains.specs.declared.meets.Tests.{Tests}
use Rattle.nft_rulesets.specs.declared.asked.Asked.{Asked}
use Rattle.nft_rulesets.specs.declared.fields.Field.{Field}
use Rattle.nft_rulesets.specs.declared.fields.Field.TheVariants as field
use Rattle.nft_rulesets.specs.declared.spans.Span.{Span}
use Rattle.nft_rulesets.specs.declared.why.Why.{Why}
use Rattle.nft_rulesets.specs.declared.why.Why.TheVariants as why
use Rattle.nft_rulesets.specs.Concats.{concat_at, element_product, elements_product, parts_in}
use Rattle.nft_rulesets.specs.Defined.{elements}
use Rattle.nft_rulesets.specs.Looks.{has_members, sole, text_is}
use Rattle.nft_rulesets.specs.Products.{compared}
use Rattle.nft_rulesets.specs.Values.{listed_items, name_in, named_items, right_spans, set_in}

-- ---- the left side

-- what a key of packets tells
abbrev pub meta_field : Json → Result Field Why
meta_field body =
    if not (has_members 1 body) then Err why.Match
    else if text_is (codes "key") body (codes "l4proto") then Ok field.Protocol
    else if text_is (codes "key") body (codes "nfproto") then Ok field.Version
    else Err why.Match

-- a field that packets of one version alone have
abbrev pub is_version : IpVersion → IpVersion → Bool
is_version V4 V4 = true
is_version V4 V6 = false
is_version V6 V4 = false
is_version V6 V6 = true

abbrev pub of_version : IpVersion → IpVersion → Field → Field
of_version version wanted tested = if is_version version wanted then tested else field.Absent

abbrev pub address_field : IpVersion → IpVersion → Json → Result Field Why
address_field version wanted body =
    if text_is (codes "field") body (codes "saddr") then Ok (of_version version wanted field.Source)
    else if text_is (codes "field") body (codes "daddr") then Ok (of_version version wanted field.Receiver)
    else Err why.Match

abbrev pub ipv4_field : IpVersion → Json → Result Field Why
ipv4_field version body =
    if text_is (codes "field") body (codes "protocol") then Ok (of_version version V4 field.Protocol) else address_field version V4 body

-- ports of a protocol, or of any that has them
abbrev pub port_field : Option ℕ → Json → Result Field Why
port_field proto body =
    if text_is (codes "field") body (codes "sport") then Ok (field.SourcePort proto)
    else if text_is (codes "field") body (codes "dport") then Ok (field.ReceiverPort proto)
    else Err why.Match

abbrev pub head_field : IpVersion → Json → Result Field Why
head_field version body =
    if text_is (codes "protocol") body (codes "ip") then ipv4_field version body
    else if text_is (codes "protocol") body (codes "ip6") then address_field version V6 body
    else if text_is (codes "protocol") body (codes "tcp") then port_field (Some 6) body
    else if text_is (codes "protocol") body (codes "udp") then port_field (Some 17) body
    else if text_is (codes "protocol") body (codes "th") then port_field None body
    else Err why.Match

abbrev pub payload_field : IpVersion → Json → Result Field Why
payload_field version body = if has_members 2 body then head_field version body else Err why.Match

abbrev pub kind_field : IpVersion → List ℕ → Json → Result Field Why
kind_field version kind body =
    if bytes_eq kind (codes "payload") then payload_field version body
    else if bytes_eq kind (codes "meta") then meta_field body
    else if bytes_eq kind (codes "ct") then Err why.State
    else Err why.Match

abbrev pub sole_field : IpVersion → Option (List ℕ × Json) → Result Field Why
sole_field version None = Err why.Match
sole_field version (Some (kind, body)) = kind_field version kind body

-- The field of a left side.
abbrev pub field_of : IpVersion → Option Json → Result Field Why
field_of version None = Err why.Match
field_of version (Some left) = sole_field version (sole left)

-- ---- fields together

-- each one has numbers, or packets don't have it
abbrev pub part_field : Result Field Why → Result Field Why
part_field (Err reason) = Err reason
part_field (Ok field.Source) = Ok field.Source
part_field (Ok field.Receiver) = Ok field.Receiver
part_field (Ok field.Protocol) = Ok field.Protocol
part_field (Ok (field.SourcePort proto)) = Ok (field.SourcePort proto)
part_field (Ok (field.ReceiverPort proto)) = Ok (field.ReceiverPort proto)
part_field (Ok field.Version) = Err why.Match
part_field (Ok field.Absent) = Ok field.Absent

abbrev pub field_behind : List Field → Result Field Why → Result (List Field) Why
field_behind fields (Ok tested) = Ok (fields ++ tested ∷ [])
field_behind fields (Err reason) = Err reason

abbrev pub fields_by : (List Field → Result (List Field) Why) → Result (List Field) Why → Result (List Field) Why
fields_by behind (Ok fields) = behind fields
fields_by behind (Err reason) = Err reason

abbrev pub fields_from : IpVersion → List Field → Items → Result (List Field) Why
fields_from version fields no_items = Ok fields
fields_from version fields (item value items) =
    fields_by (λ next. fields_from version next items) (field_behind fields (part_field (field_of version (Some value))))

-- The fields of a left side that has several.
abbrev pub fields_in : IpVersion → Option Items → Result (List Field) Why
fields_in version None = Err why.Match
fields_in version (Some parts) = fields_from version [] parts

abbrev pub is_absent : Field → Bool
is_absent field.Source = false
is_absent field.Receiver = false
is_absent field.Protocol = false
is_absent (field.SourcePort proto) = false
is_absent (field.ReceiverPort proto) = false
is_absent field.Version = false
is_absent field.Absent = true

-- packets don't have one of them
abbrev pub are_absent : List Field → Bool
are_absent fields = list_any (λ (tested : Field). is_absent tested) fields

-- ---- the operator

-- whether it is negated
abbrev pub operator_of : Json → Option Bool
operator_of body =
    if not (has_members 3 body) then None
    else if text_is (codes "op") body (codes "==") then Some false
    else if text_is (codes "op") body (codes "!=") then Some true
    else None

-- ---- the right side

-- all packets are of one version
abbrev pub version_named : Option (List ℕ) → Option IpVersion
version_named None = None
version_named (Some text) = if bytes_eq text (codes "ipv4") then Some V4 else if bytes_eq text (codes "ipv6") then Some V6 else None

abbrev pub of_same : Bool → Bool → Bool
of_same true negated = not negated
of_same false negated = negated

abbrev pub version_tests : List Tests → IpVersion → Bool → Option IpVersion → Result (List Tests) Why
version_tests tests version negated None = Err why.Values
version_tests tests version negated (Some wanted) = if of_same (is_version version wanted) negated then Ok tests else Ok []

abbrev pub text_value : Option Json → Option (List ℕ)
text_value None = None
text_value (Some value) = as_str value

abbrev pub spans_compared : List Tests → Field → Bool → Result (List Span) Why → Result (List Tests) Why
spans_compared tests tested negated (Ok spans) = compared tests tested negated spans
spans_compared tests tested negated (Err reason) = Err reason

abbrev pub right_compared : Asked → Items → List Tests → Field → Bool → Option Json → Result (List Tests) Why
right_compared asked all tests tested negated None = Err why.Values
right_compared asked all tests tested negated (Some right) = spans_compared tests tested negated (right_spans asked all tested right)

-- the tests of a rule that hold with a comparison of this field, whose right side is this
abbrev pub field_compared : Asked → Items → List Tests → Field → Bool → Option Json → Result (List Tests) Why
field_compared asked all tests field.Absent negated right = Ok []
field_compared asked all tests field.Version negated right = version_tests tests asked.version negated (version_named (text_value right))
field_compared asked all tests field.Source negated right = right_compared asked all tests field.Source negated right
field_compared asked all tests field.Receiver negated right = right_compared asked all tests field.Receiver negated right
field_compared asked all tests field.Protocol negated right = right_compared asked all tests field.Protocol negated right
field_compared asked all tests (field.SourcePort proto) negated right = right_compared asked all tests (field.SourcePort proto) negated right
field_compared asked all tests (field.ReceiverPort proto) negated right = right_compared asked all tests (field.ReceiverPort proto) negated right

-- ---- a comparison

abbrev pub operated : Asked → Items → List Tests → Json → Field → Option Bool → Result (List Tests) Why
operated asked all tests body tested None = Err why.Operator
operated asked all tests body tested (Some negated) = field_compared asked all tests tested negated (get (codes "right") body)

abbrev pub field_matched : Asked → Items → List Tests → Json → Result Field Why → Result (List Tests) Why
field_matched asked all tests body (Ok tested) = operated asked all tests body tested (operator_of body)
field_matched asked all tests body (Err reason) = Err reason

-- ---- a comparison of fields together

abbrev pub items_product : IpVersion → List Field → List Tests → Result Items Why → Result (List Tests) Why
items_product version fields tests (Ok items) = elements_product version fields tests items
items_product version fields tests (Err reason) = Err reason

-- one element, or a set of them that stands here
abbrev pub parts_listed : IpVersion → List Field → List Tests → Json → Option Json → Result (List Tests) Why
parts_listed version fields tests right None = element_product version fields tests right
parts_listed version fields tests right (Some body) = items_product version fields tests (listed_items (as_array body))

-- or one that has a name
abbrev pub parts_named : Asked → Items → List Field → List Tests → Json → Option (List ℕ) → Result (List Tests) Why
parts_named asked all fields tests right None = parts_listed asked.version fields tests right (set_in (sole right))
parts_named asked all fields tests right (Some name) =
    items_product asked.version fields tests (named_items (elements asked (codes "set") name all))

abbrev pub parts_right : Asked → Items → List Field → List Tests → Option Json → Result (List Tests) Why
parts_right asked all fields tests None = Err why.Values
parts_right asked all fields tests (Some right) = parts_named asked all fields tests right (name_in right)

-- What no element of a set holds would be too many lines even where the set is small.
abbrev pub parts_compared : Asked → Items → List Field → List Tests → Bool → Option Json → Result (List Tests) Why
parts_compared asked all fields tests negated right =
    if negated then Err why.Operator else if are_absent fields then Ok [] else parts_right asked all fields tests right

abbrev pub parts_operated : Asked → Items → List Tests → Json → List Field → Option Bool → Result (List Tests) Why
parts_operated asked all tests body fields None = Err why.Operator
parts_operated asked all tests body fields (Some negated) = parts_compared asked all fields tests negated (get (codes "right") body)

abbrev pub parts_matched : Asked → Items → List Tests → Json → Result (List Field) Why → Result (List Tests) Why
parts_matched asked all tests body (Ok fields) = parts_operated asked all tests body fields (operator_of body)
parts_matched asked all tests body (Err reason) = Err reason

abbrev pub left_matched : Asked → Items → List Tests → Json → Option Json → Result (List Tests) Why
left_matched asked all tests body None = field_matched asked all tests body (field_of asked.version (get (codes "left") body))
left_matched asked all tests body (Some parts) = parts_matched asked all tests body (fields_in asked.version (parts_in (Some parts)))

-- The tests of a rule that hold with a comparison too.
abbrev pub matched : Asked → Items → List Tests → Json → Result (List Tests) Why
matched asked all tests body = left_matched asked all tests body (concat_at (get (codes "left") body))
