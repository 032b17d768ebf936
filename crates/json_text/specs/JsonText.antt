-- The lines of a trace as a report prints them (RFC 8259): compact, the members of a line by rising names.
use Rattle.std.specs.Prelude.{◌≡◌, Bool, true, not, ◌==◌, ◌&&◌, nat_le, if◌then◌else◌, ℕ, ◌+◌, ◌*◌, ◌/◌, ◌%◌, ◌^◌, Option, Some, None, List, [], ◌∷◌, ◌++◌, codes, decimal, slice_index}
use Rattle.std.specs.List.{list_all}
use Rattle.rule_model.specs.declared.IpVersion.{IpVersion}
use Rattle.rule_model.specs.declared.IpVersion.TheVariants.{V4, V6}
use Rattle.rule_model.specs.AddressBlock.{AddressBlock}
use Rattle.rule_model.specs.declared.Rule.{Rule}
use Rattle.rule_model.specs.declared.Field.{Field}
use Rattle.rule_model.specs.declared.Field.TheVariants.{Src, Dst}
use Rattle.rule_model.specs.Rank.{high_of, low_of}
use Rattle.rule_model.specs.declared.words.Word.{Word}
use Rattle.rule_model.specs.declared.words.Entry.{Entry}
use Rattle.json.specs.Print.{quoted as json_quoted}
use Rattle.serde_json.specs.Written.{compact_text}
use Rattle.trace_file.specs.declared.TraceLine.{TraceLine}
use Rattle.trace_file.specs.declared.TraceLine.TheVariants.{Head, Commit, Add, Set, Del, Put, Erase, Table, Drain, Done, Refused, End, Fault}
use Rattle.trace_file.specs.Forms.{family_name, form_of}

-- a text in quotation marks, as it is
abbrev pub quoted : List ℕ → List ℕ
quoted text = 34 ∷ text ++ 34 ∷ []

-- a byte that stands as it is in quotation marks: no control character, no quotation mark and no backslash
abbrev pub is_plain : ℕ → Bool
is_plain byte = nat_le 32 byte && not (byte == 34) && not (byte == 92)

-- a text of such bytes
abbrev pub IsPlainText : List ℕ → Type 0
IsPlainText text = list_all is_plain text ≡ true

-- values with a comma between them
abbrev pub comma_text : List (List ℕ) → List ℕ
comma_text [] = []
comma_text (value ∷ []) = value
comma_text (value ∷ next ∷ values) = value ++ 44 ∷ comma_text (next ∷ values)

-- a member of an object
abbrev pub member_text : List ℕ → List ℕ → List ℕ
member_text name value = quoted name ++ 58 ∷ value

-- an array of some values
abbrev pub array_text : List (List ℕ) → List ℕ
array_text values = 91 ∷ comma_text values ++ 93 ∷ []

-- a line that is an object of some members
abbrev pub object_line : List (List ℕ) → List ℕ
object_line members = 123 ∷ comma_text members ++ 125 ∷ 10 ∷ []

-- a line of one member, a number
abbrev pub number_line : List ℕ → ℕ → List ℕ
number_line name number = object_line (member_text name (decimal number) ∷ [])

-- the four words of a number of 128 bits, the highest first
abbrev pub parts_text : ℕ → List (List ℕ)
parts_text n = decimal (n / 2 ^ 96) ∷ decimal (n / 2 ^ 64 % 2 ^ 32) ∷ decimal (n / 2 ^ 32 % 2 ^ 32) ∷ decimal (n % 2 ^ 32) ∷ []

-- a priority or a tag, as one number
abbrev pub rank_text : ℕ → List ℕ
rank_text rank = decimal (high_of rank * 2 ^ 32 + low_of rank)

-- the numbers of a priority or a tag: of IPv6 its high part, and the words of its low part
abbrev pub rank_numbers : IpVersion → ℕ → List (List ℕ)
rank_numbers V4 rank = rank_text rank ∷ []
rank_numbers V6 rank = decimal (high_of rank) ∷ parts_text (low_of rank)

-- an IPv4 address, as a number of 32 bits
abbrev pub address_text : ℕ → List ℕ
address_text address = decimal (address / 2 ^ 96)

-- the numbers of a block: those of its address, and its length
abbrev pub block_numbers : IpVersion → AddressBlock → List (List ℕ)
block_numbers V4 block = address_text block.addr ∷ decimal block.len ∷ []
block_numbers V6 block = parts_text block.addr ++ decimal block.len ∷ []

-- a protocol, or null for any
abbrev pub protocol_text : Option ℕ → List ℕ
protocol_text None = codes "null"
protocol_text (Some protocol) = decimal protocol

-- the name of an encoding of port ranges: covers, or bits
abbrev pub mode_text : Bool → List ℕ
mode_text bits = if bits then codes "bits" else codes "cover"

-- the name of a table
abbrev pub table_text : Field → List ℕ
table_text Src = codes "src"
table_text Dst = codes "dst"

-- a rule: priority, source, destination, protocol, source ports, destination ports, result
abbrev pub rule_text : IpVersion → Rule → List (List ℕ)
rule_text version rule =
    rank_numbers version rule.priority ++ block_numbers version rule.src ++ block_numbers version rule.dst
    ++ protocol_text rule.proto ∷ decimal rule.sport.lo ∷ decimal rule.sport.hi ∷ decimal rule.dport.lo ∷ decimal rule.dport.hi ∷ decimal rule.result ∷ []

-- the lanes of a word; of IPv4 the first of each address, ports, protocol, and bits
abbrev pub lane_numbers : IpVersion → Word → List (List ℕ)
lane_numbers V4 word =
    decimal (slice_index word.lane 0) ∷ decimal (slice_index word.lane 4) ∷ decimal (slice_index word.lane 8)
    ∷ decimal (slice_index word.lane 9) ∷ decimal (slice_index word.lane 10) ∷ []
lane_numbers V6 word =
    decimal (slice_index word.lane 0) ∷ decimal (slice_index word.lane 1) ∷ decimal (slice_index word.lane 2) ∷ decimal (slice_index word.lane 3)
    ∷ decimal (slice_index word.lane 4) ∷ decimal (slice_index word.lane 5) ∷ decimal (slice_index word.lane 6) ∷ decimal (slice_index word.lane 7)
    ∷ decimal (slice_index word.lane 8) ∷ decimal (slice_index word.lane 9) ∷ decimal (slice_index word.lane 10) ∷ []

-- an entry: its value, its mask, its tag and its result
abbrev pub entry_text : IpVersion → Entry → List (List ℕ)
entry_text version entry =
    lane_numbers version entry.value ++ lane_numbers version entry.mask ++ rank_numbers version entry.tag ++ decimal entry.result ∷ []

-- the priority of a rule that is removed
abbrev pub removed_text : IpVersion → ℕ → List ℕ
removed_text V4 priority = rank_text priority
removed_text V6 priority = array_text (rank_numbers V6 priority)

-- the line that is printed for a line of a trace of this version, by the text of a fault
abbrev pub json_line : IpVersion → List ℕ → TraceLine → List ℕ
json_line version fault (Head family acl bits slots) =
    object_line
    (member_text (codes "family") (quoted (family_name family acl)) ∷ member_text (codes "mode") (quoted (mode_text bits))
    ∷ member_text (codes "slots") (decimal slots) ∷ [])
json_line version fault (Commit number) = number_line (codes "commit") number
json_line version fault (Add rule) = object_line (member_text (codes "add") (array_text (rule_text version rule)) ∷ [])
json_line version fault (Set priority answer) =
    object_line (member_text (codes "set") (array_text (rank_numbers version priority ++ decimal answer ∷ [])) ∷ [])
json_line version fault (Del priority) = object_line (member_text (codes "del") (removed_text version priority) ∷ [])
json_line version fault (Put slot entry) =
    object_line (member_text (codes "put") (array_text (entry_text version entry)) ∷ member_text (codes "slot") (decimal slot) ∷ [])
json_line version fault (Erase slot) = number_line (codes "erase") slot
json_line version fault (Table field port word) =
    object_line
    (member_text (codes "port") (decimal port) ∷ member_text (codes "table") (quoted (table_text field)) ∷ member_text (codes "word") (decimal word) ∷ [])
json_line version fault Drain = object_line (member_text (codes "drain") (codes "true") ∷ [])
json_line version fault (Done number) = number_line (codes "done") number
json_line version fault (Refused number) = number_line (codes "refused") number
json_line version fault (End writes) = number_line (codes "end") writes
json_line version fault (Fault line) = object_line (member_text (codes "fault") (quoted fault) ∷ member_text (codes "line") (decimal line) ∷ [])

-- It is the compact text of that line's value, with a line feed, where the text of a fault stands in quotation marks as it is.
abbrev pub JsonLinesAreTexts : Type 0
JsonLinesAreTexts =
    (version : IpVersion) (fault : List ℕ) (line : TraceLine) → json_quoted fault ≡ quoted fault
    → compact_text (form_of version fault line) ++ 10 ∷ [] ≡ json_line version fault line

-- A plain text stands in JSON as it is.
abbrev pub PlainTextsStand : Type 0
PlainTextsStand = (text : List ℕ) → IsPlainText text → json_quoted text ≡ quoted text
