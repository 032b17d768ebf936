-- The names of protocols and of ports.
use Rattle.std.specs.Prelude.{ℕ, ◌==◌, Result, Ok, Err, Option, Some, None, List, codes, if◌then◌else◌}
use Rattle.std.specs.Str.{bytes_eq}
use Rattle.line_words.specs.declared.WordFault.{WordFault}
use Rattle.line_words.specs.Kinds.{port_of, proto_of}
use Rattle.cisco_lists.specs.declared.names.PortNames.{PortNames}
use Rattle.cisco_lists.specs.declared.names.PortNames.TheVariants.{Tcp, Udp, Without}

-- the value, if there is one
abbrev pub value_of : Result ℕ WordFault → Option ℕ
value_of (Ok value) = Some value
value_of (Err fault) = None

-- one of the others
abbrev pub less_common_protocol : List ℕ → Option ℕ
less_common_protocol word =
    if bytes_eq word (codes "ipinip") then Some 4
    else if bytes_eq word (codes "nos") then Some 94
    else if bytes_eq word (codes "pcp") then Some 108
    else if bytes_eq word (codes "vrrp") then Some 112
    else None

-- the number of a protocol that has a name in lists alone
abbrev pub known_protocol : List ℕ → Option ℕ
known_protocol word =
    if bytes_eq word (codes "igmp") then Some 2
    else if bytes_eq word (codes "gre") then Some 47
    else if bytes_eq word (codes "esp") then Some 50
    else if bytes_eq word (codes "ahp") then Some 51
    else if bytes_eq word (codes "eigrp") then Some 88
    else if bytes_eq word (codes "ospf") then Some 89
    else if bytes_eq word (codes "pim") then Some 103
    else less_common_protocol word

-- a port by its number
abbrev pub number_port : List ℕ → Option ℕ
number_port word = value_of (port_of word)

-- a port that TCP and UDP have under one name
abbrev pub common_port : List ℕ → Option ℕ
common_port word =
    if bytes_eq word (codes "domain") then Some 53
    else if bytes_eq word (codes "discard") then Some 9
    else if bytes_eq word (codes "echo") then Some 7
    else if bytes_eq word (codes "pim-auto-rp") then Some 496
    else if bytes_eq word (codes "sunrpc") then Some 111
    else if bytes_eq word (codes "tacacs") then Some 49
    else if bytes_eq word (codes "talk") then Some 517
    else if bytes_eq word (codes "time") then Some 37
    else number_port word

-- one of a network's own
abbrev pub net_port : List ℕ → Option ℕ
net_port word =
    if bytes_eq word (codes "chargen") then Some 19
    else if bytes_eq word (codes "daytime") then Some 13
    else if bytes_eq word (codes "drip") then Some 3949
    else if bytes_eq word (codes "msrpc") then Some 135
    else if bytes_eq word (codes "syslog") then Some 514
    else common_port word

-- one of a machine's users
abbrev pub shell_port : List ℕ → Option ℕ
shell_port word =
    if bytes_eq word (codes "cmd") then Some 514
    else if bytes_eq word (codes "exec") then Some 512
    else if bytes_eq word (codes "login") then Some 513
    else if bytes_eq word (codes "klogin") then Some 543
    else if bytes_eq word (codes "kshell") then Some 544
    else if bytes_eq word (codes "uucp") then Some 540
    else if bytes_eq word (codes "hostname") then Some 101
    else if bytes_eq word (codes "whois") then Some 43
    else net_port word

-- one of mail and news
abbrev pub mail_port : List ℕ → Option ℕ
mail_port word =
    if bytes_eq word (codes "pop2") then Some 109
    else if bytes_eq word (codes "pop3") then Some 110
    else if bytes_eq word (codes "nntp") then Some 119
    else if bytes_eq word (codes "irc") then Some 194
    else if bytes_eq word (codes "ident") then Some 113
    else if bytes_eq word (codes "lpd") then Some 515
    else if bytes_eq word (codes "gopher") then Some 70
    else if bytes_eq word (codes "finger") then Some 79
    else shell_port word

-- a port of TCP
abbrev pub tcp_port : List ℕ → Option ℕ
tcp_port word =
    if bytes_eq word (codes "www") then Some 80
    else if bytes_eq word (codes "https") then Some 443
    else if bytes_eq word (codes "ssh") then Some 22
    else if bytes_eq word (codes "telnet") then Some 23
    else if bytes_eq word (codes "smtp") then Some 25
    else if bytes_eq word (codes "bgp") then Some 179
    else if bytes_eq word (codes "ftp") then Some 21
    else if bytes_eq word (codes "ftp-data") then Some 20
    else mail_port word

-- one of the others
abbrev pub other_udp_port : List ℕ → Option ℕ
other_udp_port word =
    if bytes_eq word (codes "biff") then Some 512
    else if bytes_eq word (codes "who") then Some 513
    else if bytes_eq word (codes "dnsix") then Some 195
    else if bytes_eq word (codes "xdmcp") then Some 177
    else if bytes_eq word (codes "ripv6") then Some 521
    else common_port word

-- one of names and of routing
abbrev pub some_udp_port : List ℕ → Option ℕ
some_udp_port word =
    if bytes_eq word (codes "netbios-ns") then Some 137
    else if bytes_eq word (codes "netbios-dgm") then Some 138
    else if bytes_eq word (codes "netbios-ss") then Some 139
    else if bytes_eq word (codes "rip") then Some 520
    else if bytes_eq word (codes "syslog") then Some 514
    else if bytes_eq word (codes "nameserver") then Some 42
    else if bytes_eq word (codes "mobile-ip") then Some 434
    else other_udp_port word

-- a port of UDP
abbrev pub udp_port : List ℕ → Option ℕ
udp_port word =
    if bytes_eq word (codes "snmp") then Some 161
    else if bytes_eq word (codes "snmptrap") then Some 162
    else if bytes_eq word (codes "ntp") then Some 123
    else if bytes_eq word (codes "bootps") then Some 67
    else if bytes_eq word (codes "bootpc") then Some 68
    else if bytes_eq word (codes "tftp") then Some 69
    else if bytes_eq word (codes "isakmp") then Some 500
    else if bytes_eq word (codes "non500-isakmp") then Some 4500
    else some_udp_port word

-- the number of a protocol by its name or its number
abbrev pub or_number : List ℕ → Option ℕ → Option ℕ
or_number word (Some number) = Some number
or_number word None = value_of (proto_of word)

abbrev pub protocol_number : List ℕ → Option ℕ
protocol_number word = or_number word (known_protocol word)

-- whose names the ports of a protocol have
abbrev pub port_names : Option ℕ → PortNames
port_names None = Without
port_names (Some number) = if number == 6 then Tcp else if number == 17 then Udp else Without

-- the port of a name or a number
abbrev pub named_port : PortNames → List ℕ → Option ℕ
named_port Tcp word = tcp_port word
named_port Udp word = udp_port word
named_port Without word = None
