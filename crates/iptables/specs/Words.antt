-- The words of a line, and why it isn't said.
use Rattle.std.specs.Prelude.{ℕ, ◌-◌, Bool, not, ◌==◌, ◌&&◌, ◌||◌, nat_lt, List, length, slice_index, codes, if◌then◌else◌}
use Rattle.std.specs.List.{list_any}
use Rattle.std.specs.Str.{bytes_eq}
use Rattle.iptables.specs.declared.why.Why.{Why}
use Rattle.iptables.specs.declared.why.Why.TheVariants as why

-- a word ends a text in quotes
abbrev pub ends_quote : List ℕ → Bool
ends_quote word = not (length word == 0) && (slice_index word (length word - 1) == 34)

-- a word begins a text in quotes that goes on behind it
abbrev pub opens_quote : List ℕ → Bool
opens_quote word = if nat_lt (length word) 2 then ends_quote word else (slice_index word 0 == 34) && not (ends_quote word)

-- a text has a backslash, by which quotes within quotes are written
abbrev pub has_escape : List ℕ → Bool
has_escape text = list_any (λ byte. byte == 92) text

-- a target that decides nothing
abbrev pub is_passing : List ℕ → Bool
is_passing word =
    bytes_eq word (codes "LOG") || bytes_eq word (codes "NFLOG") || bytes_eq word (codes "AUDIT") || bytes_eq word (codes "TRACE")

-- why a line isn't said, in words
abbrev pub why_text : Why → List ℕ
why_text why.Word = codes "unknown word"
why_text why.Value = codes "no value"
why_text why.Escape = codes "backslash"
why_text why.Address = codes "no prefix"
why_text why.Span = codes "no range"
why_text why.Protocol = codes "unknown protocol"
why_text why.Ports = codes "no ports"
why_text why.State = codes "conntrack state"
why_text why.Match = codes "match"
why_text why.Negation = codes "negation"
why_text why.Interface = codes "interface"
why_text why.Target = codes "target"
why_text why.Twice = codes "two targets"
why_text why.Chain = codes "no chain"
why_text why.Policy = codes "no policy"
why_text why.Many = codes "too many lines"
why_text why.Deep = codes "jumps too deep"
why_text why.Beside = codes "chains beside"
why_text why.Second = codes "another list"
