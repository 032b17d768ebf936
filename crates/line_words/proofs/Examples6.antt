-- IPv6 words and what is printed, by computation.
use Rattle.std.proofs.Common.{◌≡◌, [], Ok, Err, Some, None, refl}
use Rattle.std.specs.Prelude.{codes}
use Rattle.std.specs.Fmt.{digits}
use Rattle.hex.specs.Hex.{decode_pairs}
use Rattle.line_words.specs.declared.WordFault.TheVariants.{BadPrefix, HostBits}
use Rattle.line_words.specs.Kinds.{frame_key}
use Rattle.rule_model.specs.Rank.{rank_of}
use Rattle.line_words.specs.Ipv6.{ipv6_number, ipv6_notation}
use Rattle.line_words.specs.Shown.{ipv6_text, ipv6_prefix_text}

documentation : ipv6_number (codes "2001:DB8:0::1") ≡ Some 0x20010db8000000000000000000000001
documentation = refl

unspecified : ipv6_number (codes "::") ≡ Some 0
unspecified = refl

whole : ipv6_number (codes "1:2:3:4:5:6:7:8") ≡ Some 0x00010002000300040005000600070008
whole = refl

eight-and-colons : ipv6_number (codes "1:2:3:4:5:6:7::8") ≡ None
eight-and-colons = refl

seven-and-colons : ipv6_number (codes "1:2:3:4:5:6:7::") ≡ Some 0x00010002000300040005000600070000
seven-and-colons = refl

seven : ipv6_number (codes "1:2:3:4:5:6:7") ≡ None
seven = refl

nine : ipv6_number (codes "1:2:3:4:5:6:7:8:9") ≡ None
nine = refl

two-doubles : ipv6_number (codes "1::2::3") ≡ None
two-doubles = refl

three-colons : ipv6_number (codes "1:::2") ≡ None
three-colons = refl

one-colon : ipv6_number (codes ":1:2:3:4:5:6:7:8") ≡ None
one-colon = refl

last-colon : ipv6_number (codes "1:2:3:4:5:6:7:8:") ≡ None
last-colon = refl

no-text : ipv6_number [] ≡ None
no-text = refl

long-group : ipv6_number (codes "12345::") ≡ None
long-group = refl

-- no dotted IPv4 part
dotted-part : ipv6_number (codes "::ffff:10.0.0.1") ≡ None
dotted-part = refl

no-zone : ipv6_number (codes "fe80::1%eth0") ≡ None
no-zone = refl

block : ipv6_notation.block (codes "2001:db8::/32") ≡ Ok (record { addr = 0x20010db8000000000000000000000000; len = 32 })
block = refl

host-bits : ipv6_notation.block (codes "2001:db8::1/32") ≡ Err HostBits
host-bits = refl

too-long : ipv6_notation.block (codes "2001:db8::/129") ≡ Err BadPrefix
too-long = refl

whole-block : ipv6_notation.block (codes "::1/128") ≡ Ok (record { addr = 1; len = 128 })
whole-block = refl

every-address : ipv6_notation.block (codes "::/0") ≡ Ok (record { addr = 0; len = 0 })
every-address = refl

-- RFC 5952, section 4.1: leading zeros go
leading : ipv6_text 0x20010db8000000000000000000000001 ≡ codes "2001:db8::1"
leading = refl

-- RFC 5952 section 4.2.1: as much as can be is shortened
shortened : ipv6_text 0x20010db8000000000000000000020001 ≡ codes "2001:db8::2:1"
shortened = refl

-- RFC 5952 section 4.2.2: one zero group isn't
one-group : ipv6_text 0x20010db8000000010001000100010001 ≡ codes "2001:db8:0:1:1:1:1:1"
one-group = refl

-- RFC 5952 section 4.2.3: the longest run, and the first of equals
longest : ipv6_text 0x20010000000000010000000000000001 ≡ codes "2001:0:0:1::1"
longest = refl

first-of-equals : ipv6_text 0x20010db8000000000001000000000001 ≡ codes "2001:db8::1:0:0:1"
first-of-equals = refl

-- RFC 5952 section 4.3: lower case
lower-case : ipv6_text 0x2001_0db8_000a_bcde_0000_0000_0000_0000 ≡ codes "2001:db8:a:bcde::"
lower-case = refl

none : ipv6_text 0 ≡ codes "::"
none = refl

loopback : ipv6_text 1 ≡ codes "::1"
loopback = refl

all-ones : ipv6_text 0xffff_ffff_ffff_ffff_ffff_ffff_ffff_ffff ≡ codes "ffff:ffff:ffff:ffff:ffff:ffff:ffff:ffff"
all-ones = refl

name : ipv6_prefix_text (rank_of 32 0x20010db8000000000000000000000000) ≡ codes "2001:db8::/32"
unfolding digits
name = refl

-- the frame of an ICMPv6 packet to 2001:db8::1
frame : frame_key ipv6_notation (codes "6000000000003a400000000000000000000000000000000020010db8000000000000000000000001")
    ≡ Ok (record { src = 0; dst = 0x20010db8000000000000000000000001; proto = 58; sport = 0; dport = 0 })
unfolding decode_pairs
frame = refl
