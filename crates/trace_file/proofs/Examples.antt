-- Lines of a trace, by computation.
use Rattle.std.proofs.Common.{◌≡◌, true, false, Some, None, refl}
use Rattle.std.specs.Prelude.{codes}
use Rattle.serde_json.proofs.OnLiterals.{serde_json_on_literals}
use Rattle.rule_model.specs.declared.IpVersion.TheVariants.{V4, V6}
use Rattle.rule_model.specs.AddressBlock.{ipv4_block}
use Rattle.rule_model.specs.Rank.{ipv4_route_rank, ipv6_route_rank}
use Rattle.rule_model.specs.Rule.{route_rule}
use Rattle.rule_model.specs.Piece.{whole_piece}
use Rattle.rule_model.specs.Entry.{entry_of}
use Rattle.trace_file.specs.declared.TraceLine.TheVariants.{Head, Commit, Add, Set, Del, Put, Table, Done, End, Fault}
use Rattle.trace_file.specs.Lines.{trace_line}
use Rattle.rule_model.specs.AddressBlock.{AddressBlock}
use Rattle.rule_model.specs.declared.Rule.{Rule}
use Rattle.rule_model.specs.declared.Field.TheVariants.{Dst}

abbrev block : AddressBlock
block = ipv4_block 0x0a010000 16

abbrev route : Rule
route = route_rule (ipv4_route_rank block) block 7

head : trace_line V4 (codes "{\"family\":\"route\",\"mode\":\"cover\",\"slots\":8}") ≡ Some (Head V4 false false 8)
unfolding serde_json_on_literals
head = refl

commit : trace_line V4 (codes "{\"commit\":1}") ≡ Some (Commit 1)
unfolding serde_json_on_literals
commit = refl

add : trace_line V4 (codes "{\"add\":[68887314432,0,0,167837696,16,null,0,65535,0,65535,7]}") ≡ Some (Add route)
unfolding serde_json_on_literals
add = refl

put : trace_line V4 (codes "{\"put\":[0,167837696,0,0,0,0,4294901760,0,0,0,68887314432,7],\"slot\":3}") ≡ Some (Put 3 (entry_of (whole_piece route) route.priority 7))
unfolding serde_json_on_literals
put = refl

done : trace_line V4 (codes "{\"done\":1}") ≡ Some (Done 1)
unfolding serde_json_on_literals
done = refl

end_of : trace_line V4 (codes "{\"end\":1}") ≡ Some (End 1)
unfolding serde_json_on_literals
end_of = refl

-- spaces and the order of members are free
free : trace_line V4 (codes " { \"word\" : 1, \"table\" : \"dst\" , \"port\" : 80 } ") ≡ Some (Table Dst 80 1)
unfolding serde_json_on_literals
free = refl

-- any text of a fault
fault : trace_line V4 (codes "{\"line\":3,\"fault\":\"\"}") ≡ Some (Fault 3)
unfolding serde_json_on_literals
fault = refl

-- of two members of one key the last one stays
twice : trace_line V4 (codes "{\"end\":1,\"end\":2}") ≡ Some (End 2)
unfolding serde_json_on_literals
twice = refl

-- and none of these is a line of a trace
point : trace_line V4 (codes "{\"end\":1.0}") ≡ None
unfolding serde_json_on_literals
point = refl

negative : trace_line V4 (codes "{\"end\":-1}") ≡ None
unfolding serde_json_on_literals
negative = refl

large : trace_line V4 (codes "{\"commit\":4294967296}") ≡ None
unfolding serde_json_on_literals
large = refl

unknown : trace_line V4 (codes "{\"ends\":1}") ≡ None
unfolding serde_json_on_literals
unknown = refl

more : trace_line V4 (codes "{\"end\":1,\"x\":2}") ≡ None
unfolding serde_json_on_literals
more = refl

no_drain : trace_line V4 (codes "{\"drain\":false}") ≡ None
unfolding serde_json_on_literals
no_drain = refl

no_slots : trace_line V4 (codes "{\"family\":\"route\",\"mode\":\"cover\",\"slots\":0}") ≡ None
unfolding serde_json_on_literals
no_slots = refl

host_bits : trace_line V4 (codes "{\"add\":[68887314432,0,0,167837697,16,null,0,65535,0,65535,7]}") ≡ None
unfolding serde_json_on_literals
host_bits = refl

crossed_ports : trace_line V4 (codes "{\"add\":[68887314432,0,0,167837696,16,null,2,1,0,65535,7]}") ≡ None
unfolding serde_json_on_literals
crossed_ports = refl

wide_tag : trace_line V4 (codes "{\"del\":1099511627776}") ≡ None
unfolding serde_json_on_literals
wide_tag = refl

-- of two members of one key the last one counts, were it a wrong one
last_wrong : trace_line V4 (codes "{\"end\":1,\"end\":1.5}") ≡ None
unfolding serde_json_on_literals
last_wrong = refl

negative_zero : trace_line V4 (codes "{\"end\":-0}") ≡ None
unfolding serde_json_on_literals
negative_zero = refl

exponent : trace_line V4 (codes "{\"end\":1e0}") ≡ None
unfolding serde_json_on_literals
exponent = refl

-- of IPv6: 2001:db8::/32 to 7, as priority the length and the address
abbrev block6 : AddressBlock
block6 = record { addr = 0x20010db8000000000000000000000000; len = 32 }

abbrev route6 : Rule
route6 = route_rule (ipv6_route_rank block6) block6 7

-- a head is read by either version
head6 : trace_line V4 (codes "{\"family\":\"route6\",\"mode\":\"cover\",\"slots\":8}") ≡ Some (Head V6 false false 8)
unfolding serde_json_on_literals
head6 = refl

list6 : trace_line V6 (codes "{\"family\":\"acl6\",\"mode\":\"bits\",\"slots\":8}") ≡ Some (Head V6 true true 8)
unfolding serde_json_on_literals
list6 = refl

add6 : trace_line V6 (codes "{\"add\":[32,536939960,0,0,0,0,0,0,0,0,536939960,0,0,0,32,null,0,65535,0,65535,7]}") ≡ Some (Add route6)
unfolding serde_json_on_literals
add6 = refl

set6 : trace_line V6 (codes "{\"set\":[32,536939960,0,0,0,8]}") ≡ Some (Set route6.priority 8)
unfolding serde_json_on_literals
set6 = refl

del6 : trace_line V6 (codes "{\"del\":[32,536939960,0,0,0]}") ≡ Some (Del route6.priority)
unfolding serde_json_on_literals
del6 = refl

put6 : trace_line V6 (codes "{\"put\":[0,0,0,0,536939960,0,0,0,0,0,0,0,0,0,0,4294967295,0,0,0,0,0,0,32,536939960,0,0,0,7],\"slot\":3}")
    ≡ Some (Put 3 (entry_of (whole_piece route6) route6.priority 7))
unfolding serde_json_on_literals
put6 = refl

-- none of these is a line of a trace of IPv6: one of IPv4, a word of more than 32 bits, a high part of more than 8, a number
-- too few, and a bit past the length
del4 : trace_line V6 (codes "{\"del\":68887314432}") ≡ None
unfolding serde_json_on_literals
del4 = refl

wide_word : trace_line V6 (codes "{\"del\":[32,4294967296,0,0,0]}") ≡ None
unfolding serde_json_on_literals
wide_word = refl

wide_high : trace_line V6 (codes "{\"del\":[256,536939960,0,0,0]}") ≡ None
unfolding serde_json_on_literals
wide_high = refl

few_words : trace_line V6 (codes "{\"del\":[32,536939960,0,0]}") ≡ None
unfolding serde_json_on_literals
few_words = refl

host_bits6 : trace_line V6 (codes "{\"add\":[32,536939960,0,0,0,0,0,0,0,0,536939960,0,0,1,32,null,0,65535,0,65535,7]}") ≡ None
unfolding serde_json_on_literals
host_bits6 = refl

-- and one of IPv6 is none of a trace of IPv4
del_by_ipv4 : trace_line V4 (codes "{\"del\":[32,536939960,0,0,0]}") ≡ None
unfolding serde_json_on_literals
del_by_ipv4 = refl
