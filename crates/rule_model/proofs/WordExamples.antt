-- Entries of some pieces, by computation.
use Rattle.std.proofs.Common.{◌≡◌, ℕ, [], ◌∷◌, true, false, Some, None, refl}
use Rattle.rule_model.specs.Rank.{rank_of}
use Rattle.rule_model.specs.declared.Key.{Key}
use Rattle.rule_model.specs.declared.Piece.{Piece}
use Rattle.rule_model.specs.AddressBlock.{any_address, ipv4_block, ipv4_address}
use Rattle.rule_model.specs.PortRange.{any_port}
use Rattle.rule_model.specs.declared.words.Entry.{Entry}
use Rattle.rule_model.specs.Word.{word_of}
use Rattle.rule_model.specs.Entry.{value_of, mask_of, entry_of, hits}

-- destination 10.1.0.0/16
abbrev to-ten : Piece
to-ten = record { src = any_address; dst = ipv4_block 0x0a010000 16; proto = None; sport = any_port; dport = any_port; srcbit = None; dstbit = None }

to-ten-value : (value_of to-ten).lane ≡ 0 ∷ 0 ∷ 0 ∷ 0 ∷ 0x0a010000 ∷ 0 ∷ 0 ∷ 0 ∷ 0 ∷ 0 ∷ 0 ∷ []
to-ten-value = refl

to-ten-mask : (mask_of to-ten).lane ≡ 0 ∷ 0 ∷ 0 ∷ 0 ∷ 0xffff0000 ∷ 0 ∷ 0 ∷ 0 ∷ 0 ∷ 0 ∷ 0 ∷ []
to-ten-mask = refl

-- source 11.0.0.0/8, tcp, destination port 80
abbrev web : Piece
web = record { src = ipv4_block 0x0b000000 8; dst = any_address; proto = Some 6; sport = any_port; dport = record { lo = 80; hi = 80 }; srcbit = None; dstbit = None }

web-value : (value_of web).lane ≡ 0x0b000000 ∷ 0 ∷ 0 ∷ 0 ∷ 0 ∷ 0 ∷ 0 ∷ 0 ∷ 0x50 ∷ 0x06000000 ∷ 0 ∷ []
web-value = refl

web-mask : (mask_of web).lane ≡ 0xff000000 ∷ 0 ∷ 0 ∷ 0 ∷ 0 ∷ 0 ∷ 0 ∷ 0 ∷ 0xffff ∷ 0xff000000 ∷ 0 ∷ []
web-mask = refl

-- destination ports 1024-2047
abbrev high : Piece
high = record { src = any_address; dst = any_address; proto = None; sport = any_port; dport = record { lo = 1024; hi = 2047 }; srcbit = None; dstbit = None }

high-value : (value_of high).lane ≡ 0 ∷ 0 ∷ 0 ∷ 0 ∷ 0 ∷ 0 ∷ 0 ∷ 0 ∷ 0x400 ∷ 0 ∷ 0 ∷ []
high-value = refl

high-mask : (mask_of high).lane ≡ 0 ∷ 0 ∷ 0 ∷ 0 ∷ 0 ∷ 0 ∷ 0 ∷ 0 ∷ 0xfc00 ∷ 0 ∷ 0 ∷ []
high-mask = refl

-- a destination range with bit 3, and a source range with bit 0
abbrev coded : Piece
coded = record { src = any_address; dst = any_address; proto = None; sport = any_port; dport = record { lo = 1; hi = 2 }; srcbit = None; dstbit = Some 3 }

coded-value : (value_of coded).lane ≡ 0 ∷ 0 ∷ 0 ∷ 0 ∷ 0 ∷ 0 ∷ 0 ∷ 0 ∷ 0 ∷ 0 ∷ 8 ∷ []
coded-value = refl

coded-mask : (mask_of coded).lane ≡ 0 ∷ 0 ∷ 0 ∷ 0 ∷ 0 ∷ 0 ∷ 0 ∷ 0 ∷ 0 ∷ 0 ∷ 8 ∷ []
coded-mask = refl

abbrev coded-source : Piece
coded-source = record { src = any_address; dst = any_address; proto = None; sport = record { lo = 1; hi = 2 }; dport = any_port; srcbit = Some 0; dstbit = None }

coded-source-value : (value_of coded-source).lane ≡ 0 ∷ 0 ∷ 0 ∷ 0 ∷ 0 ∷ 0 ∷ 0 ∷ 0 ∷ 0 ∷ 0 ∷ 0x00010000 ∷ []
coded-source-value = refl

coded-source-mask : (mask_of coded-source).lane ≡ 0 ∷ 0 ∷ 0 ∷ 0 ∷ 0 ∷ 0 ∷ 0 ∷ 0 ∷ 0 ∷ 0 ∷ 0x00010000 ∷ []
coded-source-mask = refl

-- the entry of the web piece hits a packet to port 80 from its block, and none to port 81
abbrev packet : ℕ → Key
packet port = record { src = ipv4_address 0x0b010203; dst = 0; proto = 6; sport = 1234; dport = port }

web-entry : Entry
web-entry = entry_of web (rank_of 0 9) 1

hit : hits web-entry (word_of (packet 80) 0xffff 0xffff) ≡ true
unfolding web-entry
hit = refl

miss : hits web-entry (word_of (packet 81) 0xffff 0xffff) ≡ false
unfolding web-entry
miss = refl
