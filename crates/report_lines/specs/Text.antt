-- The words and numbers of a report's lines, and the lines that every report may have.
use Rattle.std.specs.Prelude.{ℕ, ◌+◌, ◌-◌, ◌*◌, ◌/◌, ◌%◌, ◌^◌, ◌==◌, Some, None, List, [], ◌∷◌, ◌++◌, codes, decimal, map, flat_map, slice_index, if◌then◌else◌}
use Rattle.rule_model.specs.Rank.{high_of, low_of}
use Rattle.rule_model.specs.declared.IpVersion.{IpVersion}
use Rattle.rule_model.specs.declared.IpVersion.TheVariants.{V4, V6}
use Rattle.rule_model.specs.declared.Field.{Field}
use Rattle.rule_model.specs.declared.Field.TheVariants.{Src, Dst}
use Rattle.rule_model.specs.RuleSet.{Answer}
use Rattle.rule_store.specs.declared.BatchFault.{BatchFault}
use Rattle.rule_store.specs.declared.BatchFault.TheVariants.{Twice, Taken, Absent}
use Rattle.rule_store.specs.Verdict.{Verdict, Accepted, Unsound, OutOfBits, OutOfSlots}
use Rattle.rule_model.specs.declared.words.Word.{Word}
use Rattle.tcam_device.specs.declared.Write.{Write}
use Rattle.tcam_device.specs.declared.Write.TheVariants.{Slot, Table}
use Rattle.line_words.specs.Shown.{hex_digit, ipv6_prefix_text}
use Rattle.report_lines.specs.declared.Family.{Family}
use Rattle.report_lines.specs.declared.Family.TheVariants.{Route, Acl, Route6, Acl6}

-- the version of IP of a family
abbrev pub family_version : Family → IpVersion
family_version Route = V4
family_version Acl = V4
family_version Route6 = V6
family_version Acl6 = V6

-- words with one space between them, and a line feed behind the last
abbrev pub line_text : List (List ℕ) → List ℕ
line_text [] = 10 ∷ []
line_text (word ∷ []) = word ++ 10 ∷ []
line_text (word ∷ next ∷ words) = word ++ 32 ∷ line_text (next ∷ words)

-- an IPv4 address in dotted decimal, from the number that it is
abbrev pub dotted : ℕ → List ℕ
dotted address =
    decimal (address / 2 ^ 24) ++ 46 ∷ decimal (address / 2 ^ 16 % 256) ++ 46 ∷ decimal (address / 2 ^ 8 % 256)
    ++ 46 ∷ decimal (address % 256)

-- the prefix of an IPv4 route: its address and its length
abbrev pub ipv4_prefix_text : ℕ → List ℕ
ipv4_prefix_text rank = dotted (low_of rank) ++ 47 ∷ decimal (high_of rank)

-- the sequence number of a rule of an access list
abbrev pub sequence_text : ℕ → List ℕ
sequence_text rank = decimal (2 ^ 32 - low_of rank)

-- a rule's name: the prefix of a route, or the sequence number of a rule of an access list
abbrev pub rule_name : Family → ℕ → List ℕ
rule_name Route rank = ipv4_prefix_text rank
rule_name Acl rank = sequence_text rank
rule_name Route6 rank = ipv6_prefix_text rank
rule_name Acl6 rank = sequence_text rank

-- the action of a rule of an access list: a name, or the result's number behind an equals sign
abbrev pub action_text : ℕ → List ℕ
action_text answer = if answer == 1 then codes "permit" else if answer == 0 then codes "deny" else 61 ∷ decimal answer

-- a result: the number of a route, or the action of a rule of an access list
abbrev pub result_name : Family → ℕ → List ℕ
result_name Route answer = decimal answer
result_name Acl answer = action_text answer
result_name Route6 answer = decimal answer
result_name Acl6 answer = action_text answer

-- what a look-up answered, as words
abbrev pub answer_words : Family → Answer → List (List ℕ)
answer_words family None = codes "none" ∷ []
answer_words family (Some found) = rule_name family found.0 ∷ result_name family found.1 ∷ []

-- a lane in eight lower hexadecimal digits
abbrev pub lane_text : ℕ → List ℕ
lane_text lane =
    map (λ place. hex_digit (lane / 16 ^ place % 16)) (7 ∷ 6 ∷ 5 ∷ 4 ∷ 3 ∷ 2 ∷ 1 ∷ 0 ∷ [])

-- the lanes that a version has: of IPv4 the first of each address, ports, protocol, and bits, and of IPv6 all
abbrev pub lanes_shown : IpVersion → List ℕ
lanes_shown V4 = 0 ∷ 4 ∷ 8 ∷ 9 ∷ 10 ∷ []
lanes_shown V6 = 0 ∷ 1 ∷ 2 ∷ 3 ∷ 4 ∷ 5 ∷ 6 ∷ 7 ∷ 8 ∷ 9 ∷ 10 ∷ []

-- a word, lane by lane
abbrev pub word_text : IpVersion → Word → List ℕ
word_text version word = flat_map (λ lane. lane_text (slice_index word.lane lane)) (lanes_shown version)

-- a tag as one number of its two parts
abbrev pub number_text : ℕ → List ℕ
number_text tag = decimal (high_of tag * 2 ^ 32 + low_of tag)

-- a tag: of IPv4 as one number, and of IPv6 as the rule's name
abbrev pub tag_text : Family → ℕ → List ℕ
tag_text Route tag = number_text tag
tag_text Acl tag = number_text tag
tag_text Route6 tag = ipv6_prefix_text tag
tag_text Acl6 tag = sequence_text tag

-- the name of a field of ports
abbrev pub field_text : Field → List ℕ
field_text Src = codes "src"
field_text Dst = codes "dst"

-- a device write, as words
abbrev pub write_words : Family → Write → List (List ℕ)
write_words family (Slot slot (Some entry)) =
    codes "slot" ∷ decimal slot ∷ codes "set" ∷ word_text (family_version family) entry.value
    ∷ word_text (family_version family) entry.mask ∷ tag_text family entry.tag ∷ decimal entry.result ∷ []
write_words family (Slot slot None) = codes "slot" ∷ decimal slot ∷ codes "erase" ∷ []
write_words family (Table field port word) = codes "table" ∷ field_text field ∷ decimal port ∷ decimal word ∷ []

-- a batch's fault, as words
abbrev pub fault_words : Family → BatchFault → List (List ℕ)
fault_words family (Twice priority) = codes "twice" ∷ rule_name family priority ∷ []
fault_words family (Taken priority) = codes "taken" ∷ rule_name family priority ∷ []
fault_words family (Absent priority) = codes "absent" ∷ rule_name family priority ∷ []

-- why a batch is refused, as words
abbrev pub reason_words : Family → Verdict → List (List ℕ)
reason_words family Accepted = []
reason_words family (Unsound fault) = fault_words family fault
reason_words family (OutOfBits field needed free) =
    codes "bits" ∷ field_text field ∷ decimal needed ∷ decimal free ∷ []
reason_words family (OutOfSlots needed free) = codes "slots" ∷ decimal needed ∷ decimal free ∷ []

-- the fault of a script's line
abbrev pub fault_line : ℕ → List ℕ → List ℕ
fault_line line text = line_text (codes "line" ∷ decimal line ∷ text ∷ [])

-- the words are no command line
abbrev pub usage_line : List ℕ
usage_line = line_text (codes "usage" ∷ [])
