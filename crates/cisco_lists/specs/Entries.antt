-- An entry of a list, by its words.
use Rattle.std.specs.Prelude.{ℕ, Bool, true, false, ◌==◌, ◌||◌, Option, Some, None, List, codes, length, if◌then◌else◌}
use Rattle.std.specs.Str.{bytes_eq}
use Rattle.rule_model.specs.AddressBlock.{AddressBlock}
use Rattle.cisco_lists.specs.declared.ports.Span.{Span}
use Rattle.cisco_lists.specs.declared.why.Why.TheVariants as why
use Rattle.cisco_lists.specs.Words.{why_of}
use Rattle.cisco_lists.specs.Names.{protocol_number}
use Rattle.cisco_lists.specs.Walk.{WordsAt, Taken, taken, first_of, behind_word, failed}
use Rattle.cisco_lists.specs.Sides.{side_at}
use Rattle.cisco_lists.specs.Ports.{ports_at}

-- whether it permits, its protocol, or none for any, its sides and their ports, and whether packets are logged
pub record EntryRead : Type 0 where
  pub permits : Bool
  pub protocol : Option ℕ
  pub src : AddressBlock
  pub dst : AddressBlock
  pub sports : List Span
  pub dports : List Span
  pub logs : Bool

-- whether it permits
abbrev pub permits_by : List ℕ → WordsAt → Taken Bool
permits_by word at =
    if bytes_eq word (codes "permit") then taken true at
    else if bytes_eq word (codes "deny") then taken false at
    else taken false (failed why.Word at)

abbrev pub permits_at : WordsAt → Taken Bool
permits_at at = permits_by (first_of at.words) (behind_word at)

-- its protocol
abbrev pub protocol_or : Option ℕ → WordsAt → Taken (Option ℕ)
protocol_or (Some number) at = taken (Some number) at
protocol_or None at = taken None (failed why.Protocol at)

-- each protocol, by its name or as the number 0
abbrev pub is_any : List ℕ → Bool
is_any word = bytes_eq word (codes "ip") || bytes_eq word (codes "0")

abbrev pub protocol_by : List ℕ → WordsAt → Taken (Option ℕ)
protocol_by word at = if is_any word then taken None at else protocol_or (protocol_number word) at

abbrev pub protocol_at : WordsAt → Taken (Option ℕ)
protocol_at at = protocol_by (first_of at.words) (behind_word at)

-- no word is left
abbrev pub end_by : List ℕ → WordsAt → WordsAt
end_by word at = if length word == 0 then at else failed why.Word at

abbrev pub end_at : WordsAt → WordsAt
end_at at = end_by (first_of at.words) (behind_word at)

-- whether packets are logged, which the last word says
abbrev pub is_log : List ℕ → Bool
is_log word = bytes_eq word (codes "log") || bytes_eq word (codes "log-input")

abbrev pub logs_by : Option ℕ → List ℕ → WordsAt → Taken Bool
logs_by protocol word at =
    if length word == 0 then taken false at
    else if is_log word then taken true (end_at at)
    else taken false (failed (why_of protocol word) at)

abbrev pub logs_at : Option ℕ → WordsAt → Taken Bool
logs_at protocol at = logs_by protocol (first_of at.words) (behind_word at)

-- The entry, by what its words are one after the other.
abbrev pub entry_of : Taken Bool → Taken (Option ℕ) → Taken AddressBlock → Taken (List Span) → Taken AddressBlock → Taken (List Span) → Taken Bool → Taken EntryRead
entry_of permits protocol src sports dst dports logs =
    taken
    (record {
      permits = permits.value;
      protocol = protocol.value;
      src = src.value;
      dst = dst.value;
      sports = sports.value;
      dports = dports.value;
      logs = logs.value;
    })
    logs.behind

abbrev pub entry_to : Taken Bool → Taken (Option ℕ) → Taken AddressBlock → Taken (List Span) → Taken AddressBlock → Taken (List Span) → Taken EntryRead
entry_to permits protocol src sports dst dports =
    entry_of permits protocol src sports dst dports (logs_at protocol.value dports.behind)

abbrev pub entry_dst : Taken Bool → Taken (Option ℕ) → Taken AddressBlock → Taken (List Span) → Taken AddressBlock → Taken EntryRead
entry_dst permits protocol src sports dst = entry_to permits protocol src sports dst (ports_at protocol.value dst.behind)

abbrev pub entry_src : Taken Bool → Taken (Option ℕ) → Taken AddressBlock → Taken (List Span) → Taken EntryRead
entry_src permits protocol src sports = entry_dst permits protocol src sports (side_at sports.behind)

abbrev pub entry_sides : Taken Bool → Taken (Option ℕ) → Taken AddressBlock → Taken EntryRead
entry_sides permits protocol src = entry_src permits protocol src (ports_at protocol.value src.behind)

abbrev pub entry_protocol : Taken Bool → Taken (Option ℕ) → Taken EntryRead
entry_protocol permits protocol = entry_sides permits protocol (side_at protocol.behind)

abbrev pub entry_action : Taken Bool → Taken EntryRead
entry_action permits = entry_protocol permits (protocol_at permits.behind)

abbrev pub entry_at : WordsAt → Taken EntryRead
entry_at at = entry_action (permits_at at)
