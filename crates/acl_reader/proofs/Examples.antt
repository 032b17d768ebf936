-- Lines of access-list scripts, by computation.
use Rattle.std.proofs.Common.{◌≡◌, ℕ, List, Result, Ok, Err, Option, Some, None, refl}
use Rattle.std.specs.Prelude.{codes}
use Rattle.rule_model.specs.declared.Rule.{Rule}
use Rattle.rule_model.specs.AddressBlock.{AddressBlock, any_address, ipv4_address, ipv4_block}
use Rattle.rule_model.specs.PortRange.{PortRange, any_port}
use Rattle.rule_model.specs.Rank.{list_rank}
use Rattle.line_words.specs.declared.WordFault.{WordFault}
use Rattle.line_words.specs.declared.WordFault.TheVariants.{UnknownCommand, WordCount, HostBits, BadSequence, BadAction, BadProtocol, BadPorts, BadAddress}
use Rattle.line_words.specs.Kinds.{ipv4_notation}
use Rattle.acl_reader.specs.declared.AclCommand.{AclCommand}
use Rattle.acl_reader.specs.declared.AclCommand.TheVariants.{Add, Set, Del, Put, Drop, All, Common}
use Rattle.line_words.specs.declared.commands.CommonCommand.TheVariants.{Probe}
use Rattle.acl_reader.specs.Grammar.{acl_line}

abbrev read : List ℕ → Result (Option AclCommand) WordFault
read line = acl_line ipv4_notation line

abbrev rule : ℕ → ℕ → AddressBlock → Option ℕ → PortRange → Rule
rule sequence answer dst proto dport = record { priority = list_rank sequence; src = any_address; dst = dst; proto = proto; sport = any_port; dport = dport; result = answer }

add : read (codes "acl add 10 permit any 10.0.0.0/8 tcp any 80") ≡ Ok (Some (Add (rule 10 1 (ipv4_block 0x0a000000 8) (Some 6) (record { lo = 80; hi = 80 }))))
add = refl

-- a rule on ports isn't tied to a protocol
ports-of-icmp : read (codes "acl add 10 permit any any icmp any 80") ≡ Ok (Some (Add (rule 10 1 any_address (Some 1) (record { lo = 80; hi = 80 }))))
ports-of-icmp = refl

range : read (codes "acl add 4294967295 deny any any any any 1024-65535") ≡ Ok (Some (Add (rule 4294967295 0 any_address None (record { lo = 1024; hi = 65535 }))))
range = refl

set : read (codes "acl set 100 deny") ≡ Ok (Some (Set 100 0))
set = refl

del : read (codes "acl del 7") ≡ Ok (Some (Del 7))
del = refl

put : read (codes "acl put 10 =7 any 10.0.0.0/8 tcp any 80") ≡ Ok (Some (Put (rule 10 7 (ipv4_block 0x0a000000 8) (Some 6) (record { lo = 80; hi = 80 }))))
put = refl

put-count : read (codes "acl put 10 permit") ≡ Err WordCount
put-count = refl

drop : read (codes "acl drop 7") ≡ Ok (Some (Drop 7))
drop = refl

all : read (codes "acl all") ≡ Ok (Some All)
all = refl

all-count : read (codes "acl all 10") ≡ Err WordCount
all-count = refl

probe : read (codes "probe 0.0.0.0 10.1.2.3 tcp 0 80") ≡ Ok (Some (Common (Probe (record { src = 0; dst = ipv4_address 0x0a010203; proto = 6; sport = 0; dport = 80 }))))
probe = refl

comment : read (codes "  # acl del 7") ≡ Ok None
comment = refl

no-sequence : read (codes "acl del 0") ≡ Err BadSequence
no-sequence = refl

by-number : read (codes "acl set 1 =7") ≡ Ok (Some (Set 1 7))
by-number = refl

no-action : read (codes "acl set 1 Permit") ≡ Err BadAction
no-action = refl

turned-range : read (codes "acl add 10 permit any any any any 5-4") ≡ Err BadPorts
turned-range = refl

open-range : read (codes "acl add 10 permit any any any any 5-") ≡ Err BadPorts
open-range = refl

leftmost : read (codes "acl add 10 permit any 10.0.0.1/8 x any 5-4") ≡ Err HostBits
leftmost = refl

no-protocol : read (codes "acl add 10 permit any any 256 any any") ≡ Err BadProtocol
no-protocol = refl

short : read (codes "acl add 10 permit any any any any") ≡ Err WordCount
short = refl

other-family : read (codes "route del 10.0.0.0/8") ≡ Err UnknownCommand
other-family = refl

no-address : read (codes "probe 0.0.0.0 10.1.2 tcp 0 80") ≡ Err BadAddress
no-address = refl

lone : read (codes "acl") ≡ Err UnknownCommand
lone = refl
