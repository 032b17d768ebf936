-- Lines of a report, by computation.
use Rattle.std.proofs.Common.{◌≡◌, false, true, [], ◌∷◌, ◌++◌, refl}
use Rattle.std.specs.Prelude.{codes}
use Rattle.std.specs.Fmt.{digits}
use Rattle.rule_model.specs.declared.IpVersion.TheVariants.{V4, V6}
use Rattle.rule_model.specs.AddressBlock.{AddressBlock, ipv4_block}
use Rattle.rule_model.specs.Rank.{ipv4_route_rank, ipv6_route_rank}
use Rattle.rule_model.specs.Rule.{route_rule}
use Rattle.rule_model.specs.Piece.{whole_piece}
use Rattle.rule_model.specs.Entry.{entry_of}
use Rattle.rule_model.specs.declared.Rule.{Rule}
use Rattle.rule_model.specs.declared.Field.TheVariants.{Dst}
use Rattle.trace_file.specs.declared.TraceLine.TheVariants.{Head, Add, Set, Del, Put, Table, Drain, End, Fault}
use Rattle.json_text.specs.JsonText.{json_line}

abbrev block : AddressBlock
block = ipv4_block 0x0a010000 16

abbrev route : Rule
route = route_rule (ipv4_route_rank block) block 7

head : json_line V4 [] (Head V4 false false 8) ≡ codes "{\"family\":\"route\",\"mode\":\"cover\",\"slots\":8}" ++ 10 ∷ []
unfolding digits
head = refl

list : json_line V4 [] (Head V4 true true 4096) ≡ codes "{\"family\":\"acl\",\"mode\":\"bits\",\"slots\":4096}" ++ 10 ∷ []
unfolding digits
list = refl

added : json_line V4 [] (Add route) ≡ codes "{\"add\":[68887314432,0,0,167837696,16,null,0,65535,0,65535,7]}" ++ 10 ∷ []
unfolding digits
added = refl

set : json_line V4 [] (Set route.priority 8) ≡ codes "{\"set\":[68887314432,8]}" ++ 10 ∷ []
unfolding digits
set = refl

deleted : json_line V4 [] (Del route.priority) ≡ codes "{\"del\":68887314432}" ++ 10 ∷ []
unfolding digits
deleted = refl

put : json_line V4 [] (Put 3 (entry_of (whole_piece route) route.priority 7))
    ≡ codes "{\"put\":[0,167837696,0,0,0,0,4294901760,0,0,0,68887314432,7],\"slot\":3}" ++ 10 ∷ []
unfolding digits
put = refl

table : json_line V4 [] (Table Dst 80 1) ≡ codes "{\"port\":80,\"table\":\"dst\",\"word\":1}" ++ 10 ∷ []
unfolding digits
table = refl

drain : json_line V4 [] Drain ≡ codes "{\"drain\":true}" ++ 10 ∷ []
drain = refl

end_of : json_line V4 [] (End 1) ≡ codes "{\"end\":1}" ++ 10 ∷ []
unfolding digits
end_of = refl

fault : json_line V4 (codes "host bits") (Fault 3) ≡ codes "{\"fault\":\"host bits\",\"line\":3}" ++ 10 ∷ []
unfolding digits
fault = refl

-- of IPv6: 2001:db8::/32 to 7, as priority the length and the address
abbrev block6 : AddressBlock
block6 = record { addr = 0x20010db8000000000000000000000000; len = 32 }

abbrev route6 : Rule
route6 = route_rule (ipv6_route_rank block6) block6 7

head6 : json_line V6 [] (Head V6 false false 8) ≡ codes "{\"family\":\"route6\",\"mode\":\"cover\",\"slots\":8}" ++ 10 ∷ []
unfolding digits
head6 = refl

list6 : json_line V6 [] (Head V6 true true 4096) ≡ codes "{\"family\":\"acl6\",\"mode\":\"bits\",\"slots\":4096}" ++ 10 ∷ []
unfolding digits
list6 = refl

added6 : json_line V6 [] (Add route6)
    ≡ codes "{\"add\":[32,536939960,0,0,0,0,0,0,0,0,536939960,0,0,0,32,null,0,65535,0,65535,7]}" ++ 10 ∷ []
unfolding digits
added6 = refl

set6 : json_line V6 [] (Set route6.priority 8) ≡ codes "{\"set\":[32,536939960,0,0,0,8]}" ++ 10 ∷ []
unfolding digits
set6 = refl

deleted6 : json_line V6 [] (Del route6.priority) ≡ codes "{\"del\":[32,536939960,0,0,0]}" ++ 10 ∷ []
unfolding digits
deleted6 = refl

put6 : json_line V6 [] (Put 3 (entry_of (whole_piece route6) route6.priority 7))
    ≡ codes "{\"put\":[0,0,0,0,536939960,0,0,0,0,0,0,0,0,0,0,4294967295,0,0,0,0,0,0,32,536939960,0,0,0,7],\"slot\":3}" ++ 10 ∷ []
unfolding digits
put6 = refl
