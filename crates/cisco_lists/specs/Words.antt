-- Why a line isn't said, and the words that say it.
use Rattle.std.specs.Prelude.{ℕ, Bool, false, ◌==◌, ◌||◌, Option, Some, None, List, codes, if◌then◌else◌}
use Rattle.std.specs.Str.{bytes_eq}
use Rattle.cisco_lists.specs.declared.why.Why.{Why}
use Rattle.cisco_lists.specs.declared.why.Why.TheVariants as why

-- a word that asks for flags of TCP
abbrev pub is_flag : List ℕ → Bool
is_flag word =
    bytes_eq word (codes "ack") || bytes_eq word (codes "fin") || bytes_eq word (codes "psh") || bytes_eq word (codes "rst")
    || bytes_eq word (codes "syn") || bytes_eq word (codes "urg") || bytes_eq word (codes "match-all") || bytes_eq word (codes "match-any")

-- one behind which a type of service stands
abbrev pub is_service : List ℕ → Bool
is_service word = bytes_eq word (codes "dscp") || bytes_eq word (codes "precedence") || bytes_eq word (codes "tos") || bytes_eq word (codes "ecn")

-- one of fragments
abbrev pub is_fragment : List ℕ → Bool
is_fragment word = bytes_eq word (codes "fragments") || bytes_eq word (codes "fragment")

-- one behind which the name of a group stands
abbrev pub is_group : List ℕ → Bool
is_group word = bytes_eq word (codes "object-group") || bytes_eq word (codes "addrgroup") || bytes_eq word (codes "portgroup")

-- whether packets of a protocol have types
abbrev pub has_types : Option ℕ → Bool
has_types None = false
has_types (Some number) = (number == 1) || (number == 2)

-- why an entry of this protocol isn't said that has this word behind its sides
abbrev pub why_of : Option ℕ → List ℕ → Why
why_of protocol word =
    if bytes_eq word (codes "established") then why.Established
    else if is_flag word then why.Flags
    else if is_service word then why.Service
    else if is_fragment word then why.Fragments
    else if bytes_eq word (codes "time-range") then why.Times
    else if is_group word then why.Group
    else if has_types protocol then why.Type
    else why.Word

-- why, in the words of a script
abbrev pub why_text : Why → List ℕ
why_text why.Word = codes "unknown word"
why_text why.Value = codes "no value"
why_text why.List = codes "another list"
why_text why.NoList = codes "no list"
why_text why.Number = codes "bad number"
why_text why.Order = codes "order of numbers"
why_text why.Protocol = codes "bad protocol"
why_text why.Address = codes "bad address"
why_text why.Wildcard = codes "bad wildcard mask"
why_text why.Port = codes "bad port"
why_text why.Established = codes "established"
why_text why.Flags = codes "flags"
why_text why.Type = codes "type"
why_text why.Service = codes "type of service"
why_text why.Fragments = codes "fragments"
why_text why.Times = codes "time range"
why_text why.Group = codes "group"
