-- Lines of reports and the ends of scripts, by computation.
use Rattle.std.proofs.Common.{◌≡◌, ℕ, ◌*◌, ◌^◌, [], ◌∷◌, ◌++◌, Ok, Some, None, refl}
use Rattle.std.specs.Prelude.{codes}
use Rattle.std.specs.Fmt.{digits}
use Rattle.rule_model.specs.AddressBlock.{AddressBlock, ipv4_block}
use Rattle.rule_model.specs.Rank.{ipv4_route_rank, ipv6_route_rank, list_rank}
use Rattle.rule_model.specs.declared.Field.TheVariants.{Dst}
use Rattle.rule_model.specs.declared.words.Word.{Word}
use Rattle.tcam_device.specs.declared.Write.TheVariants.{Slot, Table}
use Rattle.rule_store.specs.declared.BatchFault.TheVariants.{Twice, Absent}
use Rattle.rule_store.specs.Verdict.{Unsound, OutOfBits, OutOfSlots}
use Rattle.report_lines.specs.declared.Family.TheVariants.{Route, Acl, Route6, Acl6}
use Rattle.replay.specs.declared.Act.TheVariants.{Commit}
use Rattle.script_runs.specs.Script.{Whole, FaultAt}
use Rattle.replay.specs.Script.{Reading, script_of}
use Rattle.report_lines.specs.Sizes.{usual_sizes}
use Rattle.report_lines.specs.Text.{lane_text, number_text, tag_text, fault_line, usage_line}
use Rattle.replay.specs.Text.{packet_line, probe_line, write_line, accepted_line, refused_line, restarted_line, end_line}

packet : packet_line Route (Some (ipv4_route_rank (ipv4_block 0x0a000000 8), 7)) ≡ codes "packet 10.0.0.0/8 7" ++ 10 ∷ []
unfolding digits
packet = refl

permitted : packet_line Acl (Some (list_rank 10, 1)) ≡ codes "packet 10 permit" ++ 10 ∷ []
unfolding digits
permitted = refl

accepted : accepted_line 1 (record { writes = 64513; words = 64512; most = 1; span = 0 }) ≡ codes "commit 1 ok writes 64513 words 64512 most 1 span 0" ++ 10 ∷ []
unfolding digits
accepted = refl

twice : refused_line Acl 3 (Unsound (Twice (list_rank 100))) ≡ codes "commit 3 refused twice 100" ++ 10 ∷ []
unfolding digits
twice = refl

absent : refused_line Route 2 (Unsound (Absent (ipv4_route_rank (ipv4_block 0x0a000000 8)))) ≡ codes "commit 2 refused absent 10.0.0.0/8" ++ 10 ∷ []
unfolding digits
absent = refl

bits : refused_line Acl 1 (OutOfBits Dst 17 16) ≡ codes "commit 1 refused bits dst 17 16" ++ 10 ∷ []
unfolding digits
bits = refl

slots : refused_line Route 1 (OutOfSlots 2 1) ≡ codes "commit 1 refused slots 2 1" ++ 10 ∷ []
unfolding digits
slots = refl

probed : probe_line Route 2 1 (Some (ipv4_route_rank (ipv4_block 0x0a000000 8), 7)) ≡ codes "w 2 p 1 10.0.0.0/8 7" ++ 10 ∷ []
unfolding digits
probed = refl

probed-none : probe_line Acl 1 16 None ≡ codes "w 1 p 16 none" ++ 10 ∷ []
unfolding digits
probed-none = refl

lane : lane_text 0x0a01ffff ≡ codes "0a01ffff"
lane = refl

tag : number_text (ipv4_route_rank (ipv4_block 0x0a010000 16)) ≡ codes "68887314432"
unfolding digits
tag = refl

-- an address of IPv4 in the lanes of a word
abbrev destination : ℕ → Word
destination address = record { lane = 0 ∷ 0 ∷ 0 ∷ 0 ∷ address ∷ 0 ∷ 0 ∷ 0 ∷ 0 ∷ 0 ∷ 0 ∷ [] }

set : write_line Route 1 (Slot 3 (Some (record { value = destination 0x0a010000; mask = destination 0xffff0000; tag = ipv4_route_rank (ipv4_block 0x0a010000 16); result = 7 })))
    ≡ codes "w 1 slot 3 set 000000000a010000000000000000000000000000 00000000ffff0000000000000000000000000000 68887314432 7" ++ 10 ∷ []
unfolding digits
set = refl

-- routes of IPv6 are named by their prefix, in the form that is recommended, and traced with all lanes
abbrev documentation : AddressBlock
documentation = record { addr = 0x20010db8 * 2 ^ 96; len = 32 }

packet-six : packet_line Route6 (Some (ipv6_route_rank documentation, 7)) ≡ codes "packet 2001:db8::/32 7" ++ 10 ∷ []
unfolding digits
packet-six = refl

permitted-six : packet_line Acl6 (Some (list_rank 10, 1)) ≡ codes "packet 10 permit" ++ 10 ∷ []
unfolding digits
permitted-six = refl

set-six : write_line Route6 1 (Slot 3 (Some (record { value = destination 0x20010db8; mask = destination 0xffffffff; tag = ipv6_route_rank documentation; result = 7 })))
    ≡ codes "w 1 slot 3 set 0000000000000000000000000000000020010db8000000000000000000000000000000000000000000000000 00000000000000000000000000000000ffffffff000000000000000000000000000000000000000000000000 2001:db8::/32 7" ++ 10 ∷ []
unfolding digits
set-six = refl

tag-six : tag_text Acl6 (list_rank 10) ≡ codes "10"
unfolding digits
tag-six = refl

erased : write_line Acl 2 (Slot 4095 None) ≡ codes "w 2 slot 4095 erase" ++ 10 ∷ []
unfolding digits
erased = refl

table : write_line Acl 3 (Table Dst 80 5) ≡ codes "w 3 table dst 80 5" ++ 10 ∷ []
unfolding digits
table = refl

restarted : restarted_line 4 1 3 ≡ codes "commit 4 restarted after 1 writes 3" ++ 10 ∷ []
unfolding digits
restarted = refl

end : end_line 4 4 6 0 ≡ codes "end rules 4 entries 4 writes 6 pending 0" ++ 10 ∷ []
unfolding digits
end = refl

fault : fault_line 1 (codes "host bits") ≡ codes "line 1 host bits" ++ 10 ∷ []
unfolding digits
fault = refl

usage : usage_line ≡ codes "usage" ++ 10 ∷ []
usage = refl

-- every line is a commit
commits : Reading
commits line = Ok (Some Commit)

bad-byte : (script_of usual_sizes commits (codes "x" ++ 10 ∷ 200 ∷ [])).last ≡ FaultAt 2 (codes "bad byte")
unfolding commits
bad-byte = refl

whole : (script_of usual_sizes commits (codes "x" ++ 10 ∷ codes "y")).last ≡ Whole
unfolding commits
whole = refl
