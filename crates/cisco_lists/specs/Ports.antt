-- The ports of a side of an entry, as ranges.
use Rattle.std.specs.Prelude.{ℕ, zero, suc, ◌+◌, ◌-◌, ◌==◌, nat_lt, Option, Some, None, List, [], ◌∷◌, ◌++◌, codes, if◌then◌else◌}
use Rattle.std.specs.Str.{bytes_eq}
use Rattle.cisco_lists.specs.declared.ports.Span.{Span}
use Rattle.cisco_lists.specs.declared.names.PortNames.{PortNames}
use Rattle.cisco_lists.specs.declared.names.PortNames.TheVariants.{Tcp, Udp, Without}
use Rattle.cisco_lists.specs.declared.why.Why.TheVariants as why
use Rattle.cisco_lists.specs.Words.{is_group}
use Rattle.cisco_lists.specs.Names.{named_port, port_names}
use Rattle.cisco_lists.specs.Walk.{WordsAt, Taken, taken, first_of, behind_word, failed}

-- the ports from the first to the last
abbrev pub one_span : ℕ → ℕ → List Span
one_span first last = record { first = first; last = last } ∷ []

abbrev pub all_ports : List Span
all_ports = one_span 0 65535

-- no port is left
abbrev pub no_ports : WordsAt → Taken (List Span)
no_ports at = taken all_ports (failed why.Port at)

-- the port that the next word is
abbrev pub port_or : Option ℕ → WordsAt → Taken ℕ
port_or (Some port) at = taken port at
port_or None at = taken 0 (failed why.Port at)

abbrev pub port_at : PortNames → WordsAt → Taken ℕ
port_at names at = port_or (named_port names (first_of at.words)) (behind_word at)

-- so many ports more, as long as the next word is one
abbrev pub goes_on : (ℕ → Taken (List Span)) → Taken (List Span) → Option ℕ → Taken (List Span)
goes_on more here (Some port) = more port
goes_on more here None = here

abbrev pub more_ports : ℕ → PortNames → List Span → WordsAt → Taken (List Span)
more_ports zero names spans at = taken spans at
more_ports (suc most) names spans at =
    goes_on (λ port. more_ports most names (spans ++ record { first = port; last = port } ∷ []) (behind_word at)) (taken spans at) (named_port names (first_of at.words))

-- eq: one port, and nine more at most
abbrev pub several_by : PortNames → Taken ℕ → Taken (List Span)
several_by names first = more_ports 9 names (one_span first.value first.value) first.behind

abbrev pub several_at : PortNames → WordsAt → Taken (List Span)
several_at names at = several_by names (port_at names at)

-- neq: the ports below and those above
abbrev pub spans_above : ℕ → List Span
spans_above port = if nat_lt port 65535 then one_span (port + 1) 65535 else []

abbrev pub spans_but : ℕ → List Span
spans_but port = if port == 0 then one_span 1 65535 else one_span 0 (port - 1) ++ spans_above port

abbrev pub but_by : Taken ℕ → Taken (List Span)
but_by port = taken (spans_but port.value) port.behind

abbrev pub but_at : PortNames → WordsAt → Taken (List Span)
but_at names at = but_by (port_at names at)

-- gt and lt: of no port they aren't said
abbrev pub above_by : Taken ℕ → Taken (List Span)
above_by port = if port.value == 65535 then no_ports port.behind else taken (one_span (port.value + 1) 65535) port.behind

abbrev pub above_at : PortNames → WordsAt → Taken (List Span)
above_at names at = above_by (port_at names at)

abbrev pub below_by : Taken ℕ → Taken (List Span)
below_by port = if port.value == 0 then no_ports port.behind else taken (one_span 0 (port.value - 1)) port.behind

abbrev pub below_at : PortNames → WordsAt → Taken (List Span)
below_at names at = below_by (port_at names at)

-- range: the first isn't above the last
abbrev pub range_by : ℕ → Taken ℕ → Taken (List Span)
range_by first last = if nat_lt last.value first then no_ports last.behind else taken (one_span first last.value) last.behind

abbrev pub range_from : PortNames → Taken ℕ → Taken (List Span)
range_from names first = range_by first.value (port_at names first.behind)

abbrev pub range_at : PortNames → WordsAt → Taken (List Span)
range_at names at = range_from names (port_at names at)

-- The ports that begin with this word, of a protocol that has some.
abbrev pub ports_by : PortNames → List ℕ → WordsAt → Taken (List Span)
ports_by names word at =
    if bytes_eq word (codes "eq") then several_at names (behind_word at)
    else if bytes_eq word (codes "neq") then but_at names (behind_word at)
    else if bytes_eq word (codes "gt") then above_at names (behind_word at)
    else if bytes_eq word (codes "lt") then below_at names (behind_word at)
    else if bytes_eq word (codes "range") then range_at names (behind_word at)
    else if is_group word then taken all_ports (failed why.Group (behind_word at))
    else taken all_ports at

abbrev pub ports_as : PortNames → WordsAt → Taken (List Span)
ports_as names at = ports_by names (first_of at.words) at

abbrev pub ports_of : PortNames → WordsAt → Taken (List Span)
ports_of Tcp at = ports_as Tcp at
ports_of Udp at = ports_as Udp at
ports_of Without at = taken all_ports at

-- The ports of a side of an entry of this protocol.
abbrev pub ports_at : Option ℕ → WordsAt → Taken (List Span)
ports_at protocol at = ports_of (port_names protocol) at
