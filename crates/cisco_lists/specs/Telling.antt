-- What is written of an entry, of another list, and of a line that isn't said.
use Rattle.std.specs.Prelude.{ℕ, ◌+◌, ◌*◌, ◌/◌, ◌%◌, ◌^◌, Bool, ◌==◌, ◌&&◌, Option, Some, None, List, [], ◌∷◌, ◌++◌, codes, decimal, length, take, if◌then◌else◌}
use Rattle.rule_model.specs.AddressBlock.{AddressBlock}
use Rattle.cisco_lists.specs.declared.ports.Span.{Span}
use Rattle.cisco_lists.specs.declared.why.Why.{Why}
use Rattle.cisco_lists.specs.Words.{why_text}
use Rattle.cisco_lists.specs.Entries.{EntryRead}

-- why a line isn't said, and the word, of which a comment has 64 bytes
abbrev pub unsaid_text : Why → List ℕ → List ℕ
unsaid_text why word = why_text why ++ (codes ": " ++ take 64 word)

-- a comment that names a list
abbrev pub named_line : List ℕ → List ℕ → List ℕ
named_line front name = front ++ (take 64 name ++ codes "\n")

-- the comment that the line of a remark is, of which it has 500 bytes
abbrev pub remark_text : List ℕ → List ℕ
remark_text text = codes "# " ++ (take 500 text ++ codes "\n")

-- an action, behind a space as all words here
abbrev pub action_text : Bool → List ℕ
action_text permits = if permits then codes " permit" else codes " deny"

-- an IPv4 address in dotted decimal, from the number that it is
abbrev pub part_text : ℕ → List ℕ
part_text part = decimal (part % 256) ++ codes "."

abbrev pub dotted_text : ℕ → List ℕ
dotted_text address =
    part_text (address / 2 ^ 24) ++ (part_text (address / 2 ^ 16) ++ (part_text (address / 2 ^ 8) ++ decimal (address % 256)))

abbrev pub length_text : ℕ → List ℕ
length_text len = codes "/" ++ decimal len

-- a side
abbrev pub side_text : AddressBlock → List ℕ
side_text block =
    if block.len == 0 then codes " any" else codes " " ++ (dotted_text (block.addr / 2 ^ 96) ++ length_text block.len)

-- a protocol
abbrev pub number_text : ℕ → List ℕ
number_text number = codes " " ++ decimal number

abbrev pub protocol_text : Option ℕ → List ℕ
protocol_text None = codes " any"
protocol_text (Some number) =
    if number == 1 then codes " icmp" else if number == 6 then codes " tcp" else if number == 17 then codes " udp" else number_text number

-- ports
abbrev pub last_text : Span → List ℕ
last_text span = if span.first == span.last then [] else codes "-" ++ decimal span.last

abbrev pub span_text : Span → List ℕ
span_text span =
    if (span.first == 0) && (span.last == 65535) then codes " any" else number_text span.first ++ last_text span

-- The line of a pair of ranges of ports.
abbrev pub rule_line : EntryRead → Span → Span → ℕ → List ℕ
rule_line entry sport dport number =
    codes "acl add " ++ (decimal number ++ (action_text entry.permits ++ (side_text entry.src ++ (side_text entry.dst
    ++ (protocol_text entry.protocol ++ (span_text sport ++ (span_text dport ++ codes "\n")))))))

-- those of a range of its source ports, and of all, from a number on
abbrev pub dport_lines : EntryRead → Span → ℕ → List Span → List ℕ
dport_lines entry sport number [] = []
dport_lines entry sport number (dport ∷ dports) = rule_line entry sport dport number ++ dport_lines entry sport (number + 1) dports

abbrev pub sport_lines : EntryRead → ℕ → List Span → List ℕ
sport_lines entry number [] = []
sport_lines entry number (sport ∷ sports) =
    dport_lines entry sport number entry.dports ++ sport_lines entry (number + length entry.dports) sports

-- The lines of an entry, from a number on.
abbrev pub log_text : Bool → List ℕ
log_text logs = if logs then codes "# logged\n" else []

abbrev pub entry_text : ℕ → EntryRead → List ℕ
entry_text number entry = log_text entry.logs ++ sport_lines entry number entry.sports

-- how many numbers it takes
abbrev pub count_of : EntryRead → ℕ
count_of entry = length entry.sports * length entry.dports
