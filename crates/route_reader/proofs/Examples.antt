-- Lines of route scripts, by computation.
use Rattle.std.proofs.Common.{◌≡◌, ℕ, List, [], ◌∷◌, ◌++◌, Result, Ok, Err, Option, Some, None, refl}
use Rattle.std.specs.Prelude.{codes}
use Rattle.rule_model.specs.AddressBlock.{ipv4_address, ipv4_block}
use Rattle.packet_keys.specs.declared.FrameFault.TheVariants.{Short}
use Rattle.hex.specs.Hex.{decode_pairs}
use Rattle.line_words.specs.declared.WordFault.{WordFault}
use Rattle.line_words.specs.declared.WordFault.TheVariants.{UnknownCommand, WordCount, BadPrefix, HostBits, BadResult, BadPorts, BadHex, Frame}
use Rattle.line_words.specs.Kinds.{ipv4_notation}
use Rattle.route_reader.specs.declared.RouteCommand.{RouteCommand}
use Rattle.route_reader.specs.declared.RouteCommand.TheVariants.{Add, Set, Del, Put, Drop, All, Common}
use Rattle.line_words.specs.declared.commands.CommonCommand.TheVariants.{Probe, Packet, Commit}
use Rattle.route_reader.specs.Grammar.{route_line}

abbrev read : List ℕ → Result (Option RouteCommand) WordFault
read line = route_line ipv4_notation line

add : read (codes "route add 10.0.0.0/8 7") ≡ Ok (Some (Add (ipv4_block 0x0a000000 8) 7))
add = refl

blanks : read (9 ∷ 32 ∷ codes "route  add 10.0.0.0/8 4294967295" ++ 13 ∷ []) ≡ Ok (Some (Add (ipv4_block 0x0a000000 8) 4294967295))
blanks = refl

comment : read (codes "  # route add") ≡ Ok None
comment = refl

nothing : read (32 ∷ 13 ∷ []) ≡ Ok None
nothing = refl

host-bits : read (codes "route add 10.0.0.1/8 7") ≡ Err HostBits
host-bits = refl

host-bits-first : read (codes "route add 10.0.0.1/8 x") ≡ Err HostBits
host-bits-first = refl

bad-prefix : read (codes "route add 10.0.0.0/33 7") ≡ Err BadPrefix
bad-prefix = refl

leading-zero : read (codes "route add 010.0.0.0/8 7") ≡ Err BadPrefix
leading-zero = refl

bad-result : read (codes "route add 10.0.0.0/8 4294967296") ≡ Err BadResult
bad-result = refl

other-family : read (codes "acl del 7") ≡ Err UnknownCommand
other-family = refl

set : read (codes "route set 10.0.0.0/8 9") ≡ Ok (Some (Set (ipv4_block 0x0a000000 8) 9))
set = refl

del : read (codes "route del 10.0.0.0/8") ≡ Ok (Some (Del (ipv4_block 0x0a000000 8)))
del = refl

del-count : read (codes "route del 10.0.0.1/8 7") ≡ Err WordCount
del-count = refl

put : read (codes "route put 10.0.0.0/8 9") ≡ Ok (Some (Put (ipv4_block 0x0a000000 8) 9))
put = refl

put-count : read (codes "route put 10.0.0.0/8") ≡ Err WordCount
put-count = refl

drop : read (codes "route drop 10.0.0.0/8") ≡ Ok (Some (Drop (ipv4_block 0x0a000000 8)))
drop = refl

drop-bits : read (codes "route drop 10.0.0.1/8") ≡ Err HostBits
drop-bits = refl

all : read (codes "route all") ≡ Ok (Some All)
all = refl

all-count : read (codes "route all 10.0.0.0/8 9") ≡ Err WordCount
all-count = refl

other-verb : read (codes "route delete 10.0.0.0/8") ≡ Err UnknownCommand
other-verb = refl

lone : read (codes "route") ≡ Err UnknownCommand
lone = refl

count : read (codes "route add 10.0.0.0/8") ≡ Err WordCount
count = refl

commit : read (codes "commit" ++ 13 ∷ []) ≡ Ok (Some (Common Commit))
commit = refl

packet : read (codes "packet 0.0.0.0 10.1.2.3 tcp 0 80") ≡ Ok (Some (Common (Packet (record { src = 0; dst = ipv4_address 0x0a010203; proto = 6; sport = 0; dport = 80 }))))
packet = refl

probe : read (codes "probe 0.0.0.0 10.1.2.3 tcp 0 80") ≡ Ok (Some (Common (Probe (record { src = 0; dst = ipv4_address 0x0a010203; proto = 6; sport = 0; dport = 80 }))))
probe = refl

bad-port : read (codes "packet 0.0.0.0 10.1.2.3 0 0 65536") ≡ Err BadPorts
bad-port = refl

no-frame : read (codes "frame") ≡ Err WordCount
no-frame = refl

bad-hex : read (codes "frame 4g") ≡ Err BadHex
unfolding decode_pairs
bad-hex = refl

short-frame : read (codes "frame 45000000000000000000000000000000000000") ≡ Err (Frame Short)
unfolding decode_pairs
short-frame = refl

frame : read (codes "frame 4500001c00000000400600000a0102030A01020404d20050") ≡ Ok (Some (Common (Packet (record { src = ipv4_address 0x0a010203; dst = ipv4_address 0x0a010204; proto = 6; sport = 1234; dport = 80 }))))
unfolding decode_pairs
frame = refl
