-- The pieces and the table writes of some commits, by computation.
use Rattle.std.proofs.Common.{◌≡◌, ℕ, List, [], ◌∷◌, None, Some, map, replicate, refl}
use Rattle.rule_model.specs.declared.Rule.{Rule}
use Rattle.rule_model.specs.declared.Field.TheVariants.{Dst}
use Rattle.rule_model.specs.AddressBlock.{any_address}
use Rattle.rule_model.specs.PortRange.{PortRange, any_port}
use Rattle.rule_model.specs.Rank.{list_rank}
use Rattle.rule_model.specs.Entry.{RankedPiece}
use Rattle.rule_store.specs.declared.Mode.TheVariants.{Cover, Bits}
use Rattle.rule_store.specs.declared.Command.{Command}
use Rattle.rule_store.specs.declared.Command.TheVariants.{Add, Set, Del}
use Rattle.tcam_device.specs.declared.Write.TheVariants.{Table}
use Rattle.commit_writes.specs.Bits.{FieldBits, no_bits, bits_with, new_bits}
use Rattle.commit_writes.specs.Shape.{bit_writes, inserted_pieces, rewritten_pieces, erased_pieces}

abbrev range : ℕ → ℕ → PortRange
range lo hi = record { lo = lo; hi = hi }

-- a line of an access list on the destination ports alone
abbrev line : ℕ → PortRange → ℕ → Rule
line sequence dport answer = record { priority = list_rank sequence; src = any_address; dst = any_address; proto = None; sport = any_port; dport = dport; result = answer }

ends : List RankedPiece → List (ℕ × ℕ)
ends pieces = map (λ ranked. (ranked.piece.dport.lo, ranked.piece.dport.hi)) pieces

-- 80-443 replaced by 80-447: one piece is inserted, four get the new result, four go
abbrev old : List Rule
old = line 100 (range 80 443) 1 ∷ []

abbrev replacement : List Command
replacement = Del (list_rank 100) ∷ Add (line 100 (range 80 447) 1) ∷ []

fresh : ends (inserted_pieces Cover no_bits old replacement) ≡ (384, 447) ∷ []
unfolding ends
fresh = refl

common : ends (rewritten_pieces Cover no_bits old replacement) ≡ (80, 95) ∷ (96, 127) ∷ (128, 255) ∷ (256, 383) ∷ []
unfolding ends
common = refl

gone : ends (erased_pieces Cover no_bits old replacement) ≡ (384, 415) ∷ (416, 431) ∷ (432, 439) ∷ (440, 443) ∷ []
unfolding ends
gone = refl

-- an addition, a change and a removal: by falling priority, by falling priority, by rising priority
abbrev many : List Rule
many = line 1 any_port 1 ∷ line 2 any_port 1 ∷ line 3 any_port 1 ∷ line 4 any_port 1 ∷ []

abbrev changes : List Command
changes = Del (list_rank 1) ∷ Set (list_rank 4) 0 ∷ Add (line 9 any_port 1) ∷ Set (list_rank 3) 1 ∷ Del (list_rank 2) ∷ Add (line 8 any_port 0) ∷ []

names : List RankedPiece → List (ℕ × ℕ)
names pieces = map (λ ranked. (ranked.rank, ranked.result)) pieces

inserted : names (inserted_pieces Cover no_bits many changes) ≡ (4294967288, 0) ∷ (4294967287, 1) ∷ []
unfolding names
inserted = refl

rewritten : names (rewritten_pieces Cover no_bits many changes) ≡ (4294967293, 1) ∷ (4294967292, 0) ∷ []
unfolding names
rewritten = refl

erased : names (erased_pieces Cover no_bits many changes) ≡ (4294967294, 1) ∷ (4294967295, 1) ∷ []
unfolding names
erased = refl

-- bits: two new ranges, and the words of small tables that change
abbrev coded : List Command
coded = Add (line 10 (range 1 2) 1) ∷ Add (line 20 (range 2 3) 1) ∷ Add (line 30 (range 1 4) 1) ∷ []

abbrev given : FieldBits
given = bits_with Bits [] coded no_bits

bits : given.dst ≡ Some (range 1 2) ∷ Some (range 1 4) ∷ replicate 14 None
bits = refl

words : bit_writes (record { slots = []; src = replicate 6 0; dst = replicate 6 0 }) (new_bits no_bits given) ≡ Table Dst 1 3 ∷ Table Dst 2 3 ∷ Table Dst 3 2 ∷ Table Dst 4 2 ∷ []
words = refl

-- the bit of 1-2 is given up and given again, to 3-6: the words keep what nothing tests but that bit
again : bit_writes (record { slots = []; src = []; dst = 0 ∷ 1 ∷ 1 ∷ 0 ∷ 0 ∷ 4 ∷ [] }) (new_bits no_bits (bits_with Bits [] (Add (line 10 (range 3 6) 1) ∷ []) no_bits)) ≡ Table Dst 1 0 ∷ Table Dst 2 0 ∷ Table Dst 3 1 ∷ Table Dst 4 1 ∷ Table Dst 5 5 ∷ []
again = refl
