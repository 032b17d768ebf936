-- A device write as people read it: what it does, with the rule's name, and what an entry tests in the words of a script.
use Rattle.std.specs.Prelude.{ℕ, ◌+◌, ◌-◌, ◌*◌, ◌/◌, ◌%◌, ◌^◌, ◌==◌, Bool, true, false, Option, Some, None, option_map, List, [], ◌∷◌, ◌++◌, codes, count_ones, decimal, position, slice_index, slice_set, if◌then◌else◌}
use Rattle.slot_order.specs.Order as order
use Rattle.rule_model.specs.declared.IpVersion.{IpVersion}
use Rattle.rule_model.specs.declared.IpVersion.TheVariants.{V4, V6}
use Rattle.rule_model.specs.declared.words.Entry.{Entry}
use Rattle.tcam_device.specs.declared.Write.{Write}
use Rattle.tcam_device.specs.declared.Write.TheVariants.{Slot, Table}
use Rattle.tcam_device.specs.Insertion.{holds_match}
use Rattle.line_words.specs.Shown.{ipv6_text}
use Rattle.report_lines.specs.declared.Family.{Family}
use Rattle.report_lines.specs.declared.Family.TheVariants.{Route, Acl, Route6, Acl6}
use Rattle.report_lines.specs.declared.deed.Deed.{Deed}
use Rattle.report_lines.specs.declared.deed.Deed.TheVariants.{New, Copied, Rewritten, Erased, Word}
use Rattle.report_lines.specs.Text.{action_text, dotted, field_text, result_name, rule_name, sequence_text}

-- the least other slot that has the entry, whatever its result
abbrev pub other_holder : List (Option Entry) → ℕ → Entry → Option ℕ
other_holder slots slot entry = position (holds_match entry) (slice_set slots slot None)

-- an entry that no slot has is new, unless another slot has it too
abbrev pub moved_deed : ℕ → Entry → Option ℕ → Deed
moved_deed slot entry None = New slot entry
moved_deed slot entry (Some from) = Copied slot from entry

-- one that its own slot has gets its result
abbrev pub put_deed : ℕ → Entry → Bool → Option ℕ → Deed
put_deed slot entry true other = Rewritten slot entry
put_deed slot entry false other = moved_deed slot entry other

-- What a write does, by what the slots hold before it.
abbrev pub deed_of : List (Option Entry) → Write → Deed
deed_of slots (Slot slot (Some entry)) =
    put_deed slot entry (holds_match entry (order.slot slots slot)) (other_holder slots slot entry)
deed_of slots (Slot slot None) = Erased slot (option_map (λ entry. entry.tag) (order.slot slots slot))
deed_of slots (Table field port word) = Word field port word

-- the address that begins in a lane of a word of IPv6, of four lanes
abbrev pub long_address : List ℕ → ℕ → ℕ
long_address lanes at =
    (slice_index lanes at * 2 ^ 32 + slice_index lanes (at + 1)) * 2 ^ 64
    + (slice_index lanes (at + 2) * 2 ^ 32 + slice_index lanes (at + 3))

-- the addresses that an entry tests: any, or a prefix, which is as long as its mask has bits
abbrev pub prefix_text : List ℕ → ℕ → List ℕ
prefix_text address ones = if ones == 0 then codes "any" else address ++ 47 ∷ decimal ones

-- those of the side whose address begins in this lane, 0 for the source's and 4 for the destination's
abbrev pub side_text : IpVersion → Entry → ℕ → List ℕ
side_text V4 entry at =
    prefix_text (dotted (slice_index entry.value.lane at)) (count_ones (slice_index entry.mask.lane at))
side_text V6 entry at =
    prefix_text (ipv6_text (long_address entry.value.lane at)) (count_ones (long_address entry.mask.lane at))

-- the protocols that it tests, by the value and the mask of theirs
abbrev pub proto_text : ℕ → ℕ → List ℕ
proto_text value mask =
    if mask == 0 then codes "any"
    else if value == 1 then codes "icmp"
    else if value == 6 then codes "tcp"
    else if value == 17 then codes "udp"
    else decimal value

-- the ports that it tests, by their value and mask, of a block of ports from the first to the last; or the bits that the
-- word of their table has to have
abbrev pub ports_text : ℕ → ℕ → ℕ → List ℕ
ports_text value mask bits =
    if bits == 0 then (if mask == 0 then codes "any"
    else if mask == 65535 then decimal value
    else decimal value ++ 45 ∷ decimal (value + (65535 - mask)))
    else codes "bits=" ++ decimal bits

-- What an entry of an access list tests, in the words of its script. The source's ports are the upper half of their lane,
-- and so are its bits, and the protocol is the upper quarter of its own.
abbrev pub condition_words : IpVersion → Entry → List (List ℕ)
condition_words version entry =
    side_text version entry 0 ∷ side_text version entry 4
    ∷ proto_text (slice_index entry.value.lane 9 / 2 ^ 24) (slice_index entry.mask.lane 9 / 2 ^ 24)
    ∷ ports_text (slice_index entry.value.lane 8 / 2 ^ 16) (slice_index entry.mask.lane 8 / 2 ^ 16) (slice_index entry.mask.lane 10 / 2 ^ 16)
    ∷ ports_text (slice_index entry.value.lane 8 % 2 ^ 16) (slice_index entry.mask.lane 8 % 2 ^ 16) (slice_index entry.mask.lane 10 % 2 ^ 16) ∷ []

-- an entry by the name of its rule and its result
abbrev pub rule_words : Family → Entry → List (List ℕ)
rule_words family entry = rule_name family entry.tag ∷ result_name family entry.result ∷ []

-- one of an access list with what it tests
abbrev pub listed_words : IpVersion → Entry → List (List ℕ)
listed_words version entry = sequence_text entry.tag ∷ action_text entry.result ∷ condition_words version entry

-- An entry in the words of its script: of a route its prefix is its name, and all that it tests.
abbrev pub entry_words : Family → Entry → List (List ℕ)
entry_words Route entry = rule_words Route entry
entry_words Acl entry = listed_words V4 entry
entry_words Route6 entry = rule_words Route6 entry
entry_words Acl6 entry = listed_words V6 entry

-- the rule whose entry an erase takes
abbrev pub erased_words : Family → Option ℕ → List (List ℕ)
erased_words family None = []
erased_words family (Some tag) = rule_name family tag ∷ []

-- What a write does, as words.
abbrev pub deed_words : Family → Deed → List (List ℕ)
deed_words family (New slot entry) = codes "slot" ∷ decimal slot ∷ codes "new" ∷ entry_words family entry
deed_words family (Copied slot from entry) =
    codes "slot" ∷ decimal slot ∷ codes "copy" ∷ codes "from" ∷ decimal from ∷ rule_words family entry
deed_words family (Rewritten slot entry) = codes "slot" ∷ decimal slot ∷ codes "result" ∷ rule_words family entry
deed_words family (Erased slot tag) = codes "slot" ∷ decimal slot ∷ codes "erase" ∷ erased_words family tag
deed_words family (Word field port word) = codes "table" ∷ field_text field ∷ decimal port ∷ decimal word ∷ []
