-- What a value of JSON says: the addresses, protocols or ports from a first to a last one.
use Rattle.std.specs.Prelude.{ℕ, Bool, true, false, ◌==◌, ◌&&◌, ◌||◌, nat_le, Result, Ok, Err, Option, Some, None, List, [], ◌∷◌, codes, option_and_then, if◌then◌else◌}
use Rattle.std.specs.Str.{bytes_eq}
use Rattle.rule_model.specs.declared.IpVersion.{IpVersion}
use Rattle.rule_model.specs.declared.IpVersion.TheVariants.{V4, V6}
use Rattle.json.specs.Find.{as_array, as_number, as_str, get}
use Rattle.json.specs.Json.{Json, null, boolean, number, string, array, object, Items, no_items, item, Members, no_members, member}
use Rattle.json_routes.specs.Lines.{text_of}
use Rattle.line_words.specs.declared.WordFault.{WordFault}
use Rattle.line_words.specs.Kinds as kinds
use Rattle.line_words.specs.Notations.{notation_for}
use Rattle.iptables.specs.Values.{or_numbered, proto_named}
use Rattle.nft_rulesets.specs.declared.asked.Asked.{Asked}
use Rattle.nft_rulesets.specs.declared.fields.Field.{Field}
use Rattle.nft_rulesets.specs.declared.fields.Field.TheVariants as field
use Rattle.nft_rulesets.specs.declared.spans.Span.{Span}
use Rattle.nft_rulesets.specs.declared.why.Why.{Why}
use Rattle.nft_rulesets.specs.declared.why.Why.TheVariants as why
use Rattle.nft_rulesets.specs.Defined.{elements}
use Rattle.nft_rulesets.specs.Looks.{has_members, pair_in, sole, text_at}
use Rattle.nft_rulesets.specs.Spans.{block_span}

-- the bits of an address
abbrev pub bits : IpVersion → ℕ
bits V4 = 32
bits V6 = 128

-- what a field has
abbrev pub is_address : Field → Bool
is_address field.Source = true
is_address field.Receiver = true
is_address field.Protocol = false
is_address (field.SourcePort proto) = false
is_address (field.ReceiverPort proto) = false
is_address field.Version = false
is_address field.Absent = false

-- ---- one number

abbrev pub number_span : ℕ → Span
number_span value = record { lo = value; hi = value }

abbrev pub only_number : Option ℕ → Option Span
only_number None = None
only_number (Some value) = Some (number_span value)

abbrev pub number_in : Result ℕ WordFault → Option ℕ
number_in (Ok value) = Some value
number_in (Err fault) = None

-- the block of an address and a length
abbrev pub length_span : Option ℕ → ℕ → Option Span
length_span None len = None
length_span (Some addr) len = block_span addr len

abbrev pub address_in : IpVersion → Option (List ℕ) → Option ℕ
address_in version None = None
address_in version (Some text) = number_in (kinds.address_of (notation_for version) text)

abbrev pub address_span : IpVersion → Option (List ℕ) → Option Span
address_span version text = length_span (address_in version text) (bits version)

-- a protocol by its name or its number
abbrev pub proto_word : List ℕ → Option ℕ
proto_word text = or_numbered (proto_named text) (number_in (kinds.proto_of text))

abbrev pub proto_in : Option (List ℕ) → Option ℕ
proto_in None = None
proto_in (Some text) = proto_word text

abbrev pub port_in : Option (List ℕ) → Option ℕ
port_in None = None
port_in (Some text) = number_in (kinds.port_of text)

abbrev pub point_span : Field → IpVersion → Json → Option Span
point_span field.Source version value = address_span version (as_str value)
point_span field.Receiver version value = address_span version (as_str value)
point_span field.Protocol version value = only_number (proto_in (text_of value))
point_span (field.SourcePort proto) version value = only_number (port_in (text_of value))
point_span (field.ReceiverPort proto) version value = only_number (port_in (text_of value))
point_span field.Version version value = None
point_span field.Absent version value = None

-- ---- several

-- from the first number of one to the last one of another
abbrev pub joined_spans : Option Span → Option Span → Option Span
joined_spans None last = None
joined_spans (Some first) None = None
joined_spans (Some first) (Some last) = if nat_le first.lo last.hi then Some (record { lo = first.lo; hi = last.hi }) else None

abbrev pub pair_span : Field → IpVersion → Option (Json × Json) → Option Span
pair_span tested version None = None
pair_span tested version (Some (first, last)) = joined_spans (point_span tested version first) (point_span tested version last)

-- a length up to the bits of an address
abbrev pub number_text : Option Json → Option (List ℕ)
number_text None = None
number_text (Some value) = as_number value

abbrev pub within_bits : IpVersion → Option ℕ → Option ℕ
within_bits version None = None
within_bits version (Some len) = if nat_le len (bits version) then Some len else None

abbrev pub length_at : IpVersion → Json → Option ℕ
length_at version body = within_bits version (port_in (number_text (get (codes "len") body)))

abbrev pub spanned : Option ℕ → Option ℕ → Option Span
spanned addr None = None
spanned addr (Some len) = length_span addr len

abbrev pub prefix_span : IpVersion → Json → Option Span
prefix_span version body =
    if has_members 2 body then spanned (address_in version (text_at (codes "addr") body)) (length_at version body) else None

-- a range or a prefix
abbrev pub kind_span : Field → IpVersion → List ℕ → Json → Option Span
kind_span tested version kind body =
    if bytes_eq kind (codes "range") then pair_span tested version (pair_in body)
    else if bytes_eq kind (codes "prefix") && is_address tested then prefix_span version body
    else None

abbrev pub sole_span : Field → IpVersion → Option (List ℕ × Json) → Option Span
sole_span tested version None = None
sole_span tested version (Some (kind, body)) = kind_span tested version kind body

abbrev pub span_or : Option Span → Option Span → Option Span
span_or (Some span) other = Some span
span_or None other = other

abbrev pub value_span : Field → IpVersion → Json → Option Span
value_span tested version value = span_or (point_span tested version value) (sole_span tested version (sole value))

-- ---- elements of a set

-- what is said of an element besides its value
abbrev pub is_element_key : List ℕ → Bool
is_element_key key = bytes_eq key (codes "val") || bytes_eq key (codes "comment") || bytes_eq key (codes "counter")

abbrev pub element_keys : Members → Bool
element_keys no_members = true
element_keys (member key value members) = is_element_key key && element_keys members

abbrev pub is_element : Json → Bool
is_element null = false
is_element (boolean b) = false
is_element (number text) = false
is_element (string text) = false
is_element (array items) = false
is_element (object members) = element_keys members

abbrev pub element_in : Json → Option Json
element_in body = if is_element body then get (codes "val") body else None

abbrev pub unwrapped_by : Json → Option (List ℕ × Json) → Option Json
unwrapped_by value None = Some value
unwrapped_by value (Some (kind, body)) = if bytes_eq kind (codes "elem") then element_in body else Some value

abbrev pub unwrapped : Json → Option Json
unwrapped value = unwrapped_by value (sole value)

abbrev pub span_in : Field → IpVersion → Option Json → Option Span
span_in tested version None = None
span_in tested version (Some value) = value_span tested version value

-- what an element says
abbrev pub element_span : Field → IpVersion → Json → Option Span
element_span tested version value = span_in tested version (unwrapped value)

abbrev pub before_spans : Option Span → Option (List Span) → Option (List Span)
before_spans None spans = None
before_spans (Some span) None = None
before_spans (Some span) (Some spans) = Some (span ∷ spans)

abbrev pub element_spans : Field → IpVersion → Items → Option (List Span)
element_spans tested version no_items = Some []
element_spans tested version (item value items) = before_spans (element_span tested version value) (element_spans tested version items)

-- ---- what a field is compared with

-- the name of a set stands behind an at sign
abbrev pub set_name : List ℕ → Option (List ℕ)
set_name [] = None
set_name (byte ∷ bytes) = if byte == 64 then Some bytes else None

abbrev pub name_in : Json → Option (List ℕ)
name_in value = option_and_then set_name (as_str value)

abbrev pub set_in : Option (List ℕ × Json) → Option Json
set_in None = None
set_in (Some (kind, body)) = if bytes_eq kind (codes "set") then Some body else None

-- the elements of a set that has a name, or that stands here
abbrev pub named_items : Option Items → Result Items Why
named_items None = Err why.Set
named_items (Some items) = Ok items

abbrev pub listed_items : Option Items → Result Items Why
listed_items None = Err why.Values
listed_items (Some items) = Ok items

abbrev pub or_values : {A : Type 0} → Option A → Result A Why
or_values None = Err why.Values
or_values (Some value) = Ok value

abbrev pub spans_of_items : Field → IpVersion → Result Items Why → Result (List Span) Why
spans_of_items tested version (Ok items) = or_values (element_spans tested version items)
spans_of_items tested version (Err reason) = Err reason

abbrev pub single_span : Option Span → Result (List Span) Why
single_span None = Err why.Values
single_span (Some span) = Ok (span ∷ [])

abbrev pub plain_spans : Field → IpVersion → Json → Option Json → Result (List Span) Why
plain_spans tested version right None = single_span (element_span tested version right)
plain_spans tested version right (Some body) = spans_of_items tested version (listed_items (as_array body))

abbrev pub right_by : Asked → Items → Field → Json → Option (List ℕ) → Result (List Span) Why
right_by asked all tested right None = plain_spans tested asked.version right (set_in (sole right))
right_by asked all tested right (Some name) = spans_of_items tested asked.version (named_items (elements asked (codes "set") name all))

-- The spans that the right side of a comparison is.
abbrev pub right_spans : Asked → Items → Field → Json → Result (List Span) Why
right_spans asked all tested right = right_by asked all tested right (name_in right)
