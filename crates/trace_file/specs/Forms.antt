-- Which value each line of a trace is, and the limits of its numbers, by the version of IP of the trace.
use Rattle.std.specs.Prelude.{◌≡◌, ℕ, Bool, ◌+◌, ◌*◌, ◌/◌, ◌%◌, ◌^◌, ◌<◌, ◌≤◌, true, Option, Some, None, List, [], ◌∷◌, ◌++◌, codes, slice_index, IsUtf8, if◌then◌else◌}
use Rattle.slot_order.specs.Order.{script_slots}
use Rattle.serde_json.specs.Data.{Data, null, boolean, number, string, array, object, unsigned, Items, no_items, item, no_members, member}
use Rattle.rule_model.specs.declared.Rule.{Rule}
use Rattle.rule_model.specs.declared.IpVersion.{IpVersion}
use Rattle.rule_model.specs.declared.IpVersion.TheVariants.{V4, V6}
use Rattle.rule_model.specs.declared.Field.{Field}
use Rattle.rule_model.specs.declared.Field.TheVariants.{Src, Dst}
use Rattle.rule_model.specs.AddressBlock.{AddressBlock, IsIpv4Block}
use Rattle.rule_model.specs.Rank.{high_of, low_of}
use Rattle.rule_model.specs.Rule.{HasConditions}
use Rattle.rule_model.specs.declared.words.Word.{Word}
use Rattle.rule_model.specs.declared.words.Entry.{Entry}
use Rattle.trace_file.specs.declared.TraceLine.{TraceLine}
use Rattle.trace_file.specs.declared.TraceLine.TheVariants.{Head, Commit, Add, Set, Del, Put, Erase, Table, Drain, Done, Refused, End, Fault}
use Rattle.serde_json.specs.Written.{compact_text}
use Rattle.trace_file.specs.Values.{ipv4_word}
use Rattle.trace_file.specs.Ipv6Values.{ipv6_word}
use Rattle.trace_file.specs.Lines.{trace_line}

-- a whole number
abbrev pub numeral : ℕ → Data
numeral n = number (unsigned n)

-- a priority or a tag as one number
abbrev pub rank_number : ℕ → ℕ
rank_number rank = high_of rank * 2 ^ 32 + low_of rank

-- an IPv4 block's address as a number of 32 bits
abbrev pub ipv4_number : AddressBlock → ℕ
ipv4_number block = block.addr / 2 ^ 96

-- a protocol, or null for any
abbrev pub proto_form : Option ℕ → Data
proto_form None = null
proto_form (Some proto) = numeral proto

-- an array of some values
abbrev pub items_form : List Data → Items
items_form [] = no_items
items_form (value ∷ values) = item value (items_form values)

-- the four words of a number of 128 bits, the highest first
abbrev pub parts_form : ℕ → List Data
parts_form n = numeral (n / 2 ^ 96) ∷ numeral (n / 2 ^ 64 % 2 ^ 32) ∷ numeral (n / 2 ^ 32 % 2 ^ 32) ∷ numeral (n % 2 ^ 32) ∷ []

-- a priority or a tag: one number, and of IPv6 its high part and the words of its low part
abbrev pub rank_form : IpVersion → ℕ → List Data
rank_form V4 rank = numeral (rank_number rank) ∷ []
rank_form V6 rank = numeral (high_of rank) ∷ parts_form (low_of rank)

-- a block's address and length
abbrev pub block_form : IpVersion → AddressBlock → List Data
block_form V4 block = numeral (ipv4_number block) ∷ numeral block.len ∷ []
block_form V6 block = parts_form block.addr ++ numeral block.len ∷ []

-- a rule's values, in their order
abbrev pub rule_form : IpVersion → Rule → List Data
rule_form version rule =
    rank_form version rule.priority ++ block_form version rule.src ++ block_form version rule.dst
    ++ proto_form rule.proto ∷ numeral rule.sport.lo ∷ numeral rule.sport.hi ∷ numeral rule.dport.lo ∷ numeral rule.dport.hi ∷ numeral rule.result ∷ []

-- a word's lanes; of IPv4 the first of each address, ports, protocol, and bits
abbrev pub word_form : IpVersion → Word → List Data
word_form V4 word =
    numeral (slice_index word.lane 0) ∷ numeral (slice_index word.lane 4) ∷ numeral (slice_index word.lane 8)
    ∷ numeral (slice_index word.lane 9) ∷ numeral (slice_index word.lane 10) ∷ []
word_form V6 word =
    numeral (slice_index word.lane 0) ∷ numeral (slice_index word.lane 1) ∷ numeral (slice_index word.lane 2) ∷ numeral (slice_index word.lane 3)
    ∷ numeral (slice_index word.lane 4) ∷ numeral (slice_index word.lane 5) ∷ numeral (slice_index word.lane 6) ∷ numeral (slice_index word.lane 7)
    ∷ numeral (slice_index word.lane 8) ∷ numeral (slice_index word.lane 9) ∷ numeral (slice_index word.lane 10) ∷ []

-- an entry's values, in their order
abbrev pub entry_form : IpVersion → Entry → List Data
entry_form version entry =
    word_form version entry.value ++ word_form version entry.mask ++ rank_form version entry.tag ++ numeral entry.result ∷ []

-- the priority of a rule that is removed
abbrev pub removed_form : IpVersion → ℕ → Data
removed_form V4 priority = numeral (rank_number priority)
removed_form V6 priority = array (items_form (rank_form V6 priority))

-- the name of a family
abbrev pub family_name : IpVersion → Bool → List ℕ
family_name V4 acl = if acl then codes "acl" else codes "route"
family_name V6 acl = if acl then codes "acl6" else codes "route6"

-- the name of a table
abbrev pub field_form : Field → Data
field_form Src = string (codes "src")
field_form Dst = string (codes "dst")

-- an object of one member
abbrev pub one : List ℕ → Data → Data
one key value = object (member key value no_members)

-- an object of two members, the lesser key first
abbrev pub two : List ℕ → Data → List ℕ → Data → Data
two first value second other = object (member first value (member second other no_members))

-- an object of three members, by rising keys
abbrev pub three : List ℕ → Data → List ℕ → Data → List ℕ → Data → Data
three first value second other third last =
    object (member first value (member second other (member third last no_members)))

-- The value of a line in a trace of this version; a fault's line has this text, any other has none.
abbrev pub form_of : IpVersion → List ℕ → TraceLine → Data
form_of version text (Head family acl bits slots) =
    three (codes "family") (string (family_name family acl)) (codes "mode") (string (if bits then codes "bits" else codes "cover"))
    (codes "slots") (numeral slots)
form_of version text (Commit n) = one (codes "commit") (numeral n)
form_of version text (Add rule) = one (codes "add") (array (items_form (rule_form version rule)))
form_of version text (Set priority answer) =
    one (codes "set") (array (items_form (rank_form version priority ++ numeral answer ∷ [])))
form_of version text (Del priority) = one (codes "del") (removed_form version priority)
form_of version text (Put slot entry) =
    two (codes "put") (array (items_form (entry_form version entry))) (codes "slot") (numeral slot)
form_of version text (Erase slot) = one (codes "erase") (numeral slot)
form_of version text (Table field port word) =
    three (codes "port") (numeral port) (codes "table") (field_form field) (codes "word") (numeral word)
form_of version text Drain = one (codes "drain") (boolean true)
form_of version text (Done n) = one (codes "done") (numeral n)
form_of version text (Refused n) = one (codes "refused") (numeral n)
form_of version text (End writes) = one (codes "end") (numeral writes)
form_of version text (Fault line) = two (codes "fault") (string text) (codes "line") (numeral line)

-- a rank as IPv4 has it: the high part has 8 bits and the low part 32
pub record IsIpv4Rank (rank : ℕ) : Type 0 where
  pub high : high_of rank < 2 ^ 8
  pub low : low_of rank < 2 ^ 32

-- a word as IPv4 has it: five lanes of 32 bits, and the others are 0
pub record IsIpv4Word (word : Word) : Type 0 where
  pub lanes : word ≡ ipv4_word (slice_index word.lane 0) (slice_index word.lane 4) (slice_index word.lane 8) (slice_index word.lane 9) (slice_index word.lane 10)
  pub fits : (lane : ℕ) → slice_index word.lane lane < 2 ^ 32

-- a rule as an IPv4 trace has it
pub record IsIpv4Rule (rule : Rule) : Type 0 where
  pub priority : IsIpv4Rank rule.priority
  pub right : HasConditions rule
  pub src : IsIpv4Block rule.src
  pub dst : IsIpv4Block rule.dst
  pub result : rule.result < 2 ^ 32

-- an entry as an IPv4 trace has it
pub record IsIpv4Entry (entry : Entry) : Type 0 where
  pub value : IsIpv4Word entry.value
  pub mask : IsIpv4Word entry.mask
  pub tag : IsIpv4Rank entry.tag
  pub result : entry.result < 2 ^ 32

-- a rank as IPv6 has it: the high part has 8 bits, and the low part 128
pub record IsIpv6Rank (rank : ℕ) : Type 0 where
  pub high : high_of rank < 2 ^ 8

-- a word as IPv6 has it: eleven lanes of 32 bits
pub record IsIpv6Word (word : Word) : Type 0 where
  pub lanes : word ≡ ipv6_word (
      slice_index word.lane 0 ∷ slice_index word.lane 1 ∷ slice_index word.lane 2 ∷ slice_index word.lane 3 ∷ slice_index word.lane 4 ∷ slice_index word.lane 5 ∷ slice_index word.lane 6 ∷ slice_index word.lane 7 ∷ slice_index word.lane 8 ∷ slice_index word.lane 9 ∷ slice_index word.lane 10 ∷ [])
  pub fits : (lane : ℕ) → slice_index word.lane lane < 2 ^ 32

-- a rule as an IPv6 trace has it
pub record IsIpv6Rule (rule : Rule) : Type 0 where
  pub priority : IsIpv6Rank rule.priority
  pub right : HasConditions rule
  pub result : rule.result < 2 ^ 32

-- an entry as an IPv6 trace has it
pub record IsIpv6Entry (entry : Entry) : Type 0 where
  pub value : IsIpv6Word entry.value
  pub mask : IsIpv6Word entry.mask
  pub tag : IsIpv6Rank entry.tag
  pub result : entry.result < 2 ^ 32

-- the same by the version
abbrev pub IsTraceRank : IpVersion → ℕ → Type 0
IsTraceRank V4 rank = IsIpv4Rank rank
IsTraceRank V6 rank = IsIpv6Rank rank

abbrev pub IsTraceRule : IpVersion → Rule → Type 0
IsTraceRule V4 rule = IsIpv4Rule rule
IsTraceRule V6 rule = IsIpv6Rule rule

abbrev pub IsTraceEntry : IpVersion → Entry → Type 0
IsTraceEntry V4 entry = IsIpv4Entry entry
IsTraceEntry V6 entry = IsIpv6Entry entry

-- The numbers of a line are within their limits in a trace of this version.
abbrev pub IsTraceLineOf : IpVersion → TraceLine → Type 0
IsTraceLineOf version (Head family acl bits slots) = (1 ≤ slots) × (slots ≤ script_slots)
IsTraceLineOf version (Commit n) = n < 2 ^ 32
IsTraceLineOf version (Add rule) = IsTraceRule version rule
IsTraceLineOf version (Set priority answer) = IsTraceRank version priority × (answer < 2 ^ 32)
IsTraceLineOf version (Del priority) = IsTraceRank version priority
IsTraceLineOf version (Put slot entry) = (slot < 2 ^ 32) × IsTraceEntry version entry
IsTraceLineOf version (Erase slot) = slot < 2 ^ 32
IsTraceLineOf version (Table field port word) = (port < 2 ^ 16) × (word < 2 ^ 16)
IsTraceLineOf version Drain = Unit {0}
IsTraceLineOf version (Done n) = n < 2 ^ 32
IsTraceLineOf version (Refused n) = n < 2 ^ 32
IsTraceLineOf version (End writes) = writes < 2 ^ 64
IsTraceLineOf version (Fault line) = line < 2 ^ 32

-- in a trace of either version: those of IPv4 are within those of IPv6
abbrev pub IsTraceLine : TraceLine → Type 0
IsTraceLine line = IsTraceLineOf V6 line

-- what is written for a line, by whatever text of a fault, is read as that line
abbrev pub LinesAreReadBack : Type 0
LinesAreReadBack =
    (version : IpVersion) (text : List ℕ) (line : TraceLine) → IsTraceLineOf version line
    → trace_line version (compact_text (form_of version text line)) ≡ Some line

-- and it is UTF-8, where the fault's text is
abbrev pub LinesAreUtf8 : Type 0
LinesAreUtf8 =
    (version : IpVersion) (text : List ℕ) (line : TraceLine) → IsUtf8 text → IsTraceLineOf version line
    → IsUtf8 (compact_text (form_of version text line))

-- a line that is read has its numbers within their limits
abbrev pub LinesAreWithin : Type 0
LinesAreWithin = (version : IpVersion) (text : List ℕ) (line : TraceLine) → trace_line version text ≡ Some line → IsTraceLineOf version line

-- A line of one version is none of the other, where it has a rank or an address.
abbrev pub NamesRank : TraceLine → Type 0
NamesRank (Add rule) = Unit {0}
NamesRank (Set priority answer) = Unit {0}
NamesRank (Del priority) = Unit {0}
NamesRank (Put slot entry) = Unit {0}
NamesRank line = ⊥

abbrev pub VersionsAreApart : Type 0
VersionsAreApart =
    (text : List ℕ) (line other : TraceLine) → NamesRank line → trace_line V4 text ≡ Some line → trace_line V6 text ≡ Some other → ⊥
