-- The words of a line that `ip` prints, and what each asks for.
use Rattle.std.specs.Prelude.{ℕ, Bool, ◌==◌, ◌&&◌, ◌||◌, Option, Some, None, List, codes, filter, if◌then◌else◌}
use Rattle.std.specs.List.{slice_split}
use Rattle.std.specs.Str.{bytes_eq}
use Rattle.rule_model.specs.declared.IpVersion.{IpVersion}
use Rattle.rule_model.specs.declared.IpVersion.TheVariants.{V4, V6}
use Rattle.line_words.specs.Words.{is_word}
use Rattle.ip_routes.specs.declared.attributes.RouteKind.{RouteKind}
use Rattle.ip_routes.specs.declared.attributes.RouteKind.TheVariants as kind
use Rattle.ip_routes.specs.declared.attributes.Attribute.{Attribute}
use Rattle.ip_routes.specs.declared.attributes.Attribute.TheVariants as attribute
use Rattle.ip_routes.specs.declared.attributes.Why.{Why}
use Rattle.ip_routes.specs.declared.attributes.Why.TheVariants as why

-- space, tab, carriage return and backslash, which -o puts where a line would end
abbrev pub is_gap : ℕ → Bool
is_gap byte = (byte == 32) || (byte == 9) || (byte == 13) || (byte == 92)

-- what these part, in any number
abbrev pub gap_words : List ℕ → List (List ℕ)
gap_words line = filter is_word (slice_split is_gap line)

-- the kind of route that a word names, if it names one that is said
abbrev pub kind_of : List ℕ → Option RouteKind
kind_of word =
    if bytes_eq word (codes "unicast") then Some kind.Unicast
    else if bytes_eq word (codes "blackhole") then Some kind.Blackhole
    else if bytes_eq word (codes "unreachable") then Some kind.Unreachable
    else if bytes_eq word (codes "prohibit") then Some kind.Prohibit
    else None

-- a kind of route that leads to something else than one place
abbrev pub is_another_kind : List ℕ → Bool
is_another_kind word =
    bytes_eq word (codes "local") || bytes_eq word (codes "broadcast") || bytes_eq word (codes "multicast")
    || bytes_eq word (codes "anycast") || bytes_eq word (codes "throw") || bytes_eq word (codes "nat")
    || bytes_eq word (codes "xresolve")

-- a word that is a part of the next hop, and so is the one behind it
abbrev pub is_hop_value : List ℕ → Bool
is_hop_value word = bytes_eq word (codes "via") || bytes_eq word (codes "dev") || bytes_eq word (codes "weight")

-- one that says something to this machine alone, or to its hardware
abbrev pub is_flag : List ℕ → Bool
is_flag word =
    bytes_eq word (codes "onlink") || bytes_eq word (codes "offload") || bytes_eq word (codes "rt_offload")
    || bytes_eq word (codes "trap") || bytes_eq word (codes "rt_trap")

-- one behind which stands where a route comes from, or what it is to this machine
abbrev pub is_of_origin : List ℕ → Bool
is_of_origin word =
    bytes_eq word (codes "proto") || bytes_eq word (codes "scope") || bytes_eq word (codes "src")
    || bytes_eq word (codes "pref") || bytes_eq word (codes "nhid")

-- and one behind which stands how packets are sent, and not where to
abbrev pub is_of_sending : List ℕ → Bool
is_of_sending word =
    bytes_eq word (codes "mtu") || bytes_eq word (codes "advmss") || bytes_eq word (codes "hoplimit")
    || bytes_eq word (codes "expires") || bytes_eq word (codes "error")

-- what a word behind the prefix asks for
abbrev pub attribute_of : List ℕ → Attribute
attribute_of word =
    if bytes_eq word (codes "nexthop") then attribute.Hop
    else if is_hop_value word then attribute.HopValue
    else if is_flag word then attribute.Flag
    else if is_of_origin word then attribute.Skipped
    else if is_of_sending word then attribute.Skipped
    else if bytes_eq word (codes "metric") then attribute.Metric
    else attribute.Unsaid

-- a word behind which the type of service stands
abbrev pub is_service : List ℕ → Bool
is_service word = bytes_eq word (codes "tos") || bytes_eq word (codes "dsfield")

-- a word of a route that is there and not in use
abbrev pub is_down : List ℕ → Bool
is_down word = bytes_eq word (codes "dead") || bytes_eq word (codes "linkdown") || bytes_eq word (codes "unresolved")

-- the same of a route that goes: whether it was in use doesn't matter then
abbrev pub attribute_for : Bool → List ℕ → Attribute
attribute_for gone word = if gone && is_down word then attribute.Flag else attribute_of word

-- a router's preference, which a route of IPv6 has
abbrev pub is_preference : List ℕ → Bool
is_preference word = bytes_eq word (codes "pref")

-- the same by the version of IP: of IPv4 no route has a preference
abbrev pub attribute_in : IpVersion → Bool → List ℕ → Attribute
attribute_in V4 gone word = if is_preference word then attribute.Unsaid else attribute_for gone word
attribute_in V6 gone word = attribute_for gone word

-- why a line isn't said that has this word where one is that says something of the route
abbrev pub why_of : List ℕ → Why
why_of word =
    if bytes_eq word (codes "table") then why.Table
    else if is_service word then why.Service
    else if bytes_eq word (codes "from") then why.Sender
    else if is_preference word then why.Version
    else if bytes_eq word (codes "encap") then why.Encap
    else if is_down word then why.Down
    else why.Word

-- a word behind `via` that names the version of IP of the address behind it
abbrev pub is_family : List ℕ → Bool
is_family word = bytes_eq word (codes "inet") || bytes_eq word (codes "inet6")

-- why a line isn't said, in words
abbrev pub why_text : Why → List ℕ
why_text why.Kind = codes "kind of route"
why_text why.Prefix = codes "no prefix"
why_text why.Table = codes "another table"
why_text why.Version = codes "another version"
why_text why.Service = codes "type of service"
why_text why.Sender = codes "by sender"
why_text why.Encap = codes "encapsulation"
why_text why.Down = codes "not in use"
why_text why.Word = codes "unknown word"
why_text why.Value = codes "no value"
why_text why.Metric = codes "bad metric"
why_text why.Hop = codes "no next hop"
why_text why.LongHop = codes "long next hop"
why_text why.Order = codes "order of metrics"
why_text why.Equal = codes "same metric"
why_text why.OtherHop = codes "another next hop"
