-- An insertion by parts, by computation, and what goes wrong where its parts stand otherwise.
use Rattle.std.proofs.Common.{◌≡◌, ℕ, Some, None, List, [], ◌∷◌, ◌++◌, length, map, take, replicate, refl}
use Rattle.rule_model.specs.declared.Key.{Key}
use Rattle.rule_model.specs.declared.Rule.{Rule}
use Rattle.rule_model.specs.AddressBlock.{ipv4_block, ipv4_address}
use Rattle.rule_model.specs.Rank.{ipv4_route_rank, rank_of}
use Rattle.rule_model.specs.Rule.{route_rule}
use Rattle.rule_model.specs.RuleSet.{Answer}
use Rattle.rule_model.specs.Piece.{whole_piece}
use Rattle.rule_model.specs.declared.words.Entry.{Entry}
use Rattle.rule_model.specs.Entry.{entry_of}
use Rattle.tcam_device.specs.declared.Write.{Write}
use Rattle.tcam_device.specs.declared.Write.TheVariants as whole
use Rattle.split_device.specs.declared.SplitWrite.{SplitWrite}
use Rattle.split_device.specs.declared.SplitWrite.TheVariants.{Slot, Result}
use Rattle.split_device.specs.State.{SplitState, no_result, undivided, split_lookup, split_after}
use Rattle.split_writes.specs.Parts.{put_parts, parts_of_writes}
use Rattle.split_writes.specs.Insertion.{SplitInsertion, put_writes, split_insertions}

abbrev entry : ℕ → ℕ → ℕ → Entry
entry address len answer =
    let rule : Rule = route_rule (ipv4_route_rank (ipv4_block address len)) (ipv4_block address len) answer in
    entry_of (whole_piece rule) rule.priority answer

-- 10.0.0.0/8 to 7, and 10.1.0.0/16 to 9, which must stand before it
abbrev wide : Entry
wide = entry 0x0a000000 8 7

abbrev narrow : Entry
narrow = entry 0x0a010000 16 9

-- two slots and short tables
abbrev blank : SplitState
blank = record { slots = replicate 2 None; results = replicate 2 no_result; src = 0 ∷ []; dst = 0 ∷ [] }

-- 10/8 stands in slot 0
abbrev before : SplitState
before = split_after blank (put_parts 0 wide)

abbrev key : ℕ → Key
key address = record { src = 0; dst = ipv4_address address; proto = 0; sport = 0; dport = 0 }

-- what a key of 10/8 alone is answered after each of some parts, and what one of both is
abbrev answers : List SplitWrite → ℕ → List Answer
answers parts address = map (λ n. split_lookup (split_after before (take n parts)) (key address)) (0 ∷ 1 ∷ 2 ∷ 3 ∷ 4 ∷ 5 ∷ [])

-- 10/8 moves to slot 1, and 10.1/16 is put over it: five parts, one of them the erase of slot 0
abbrev insertion : List Write
insertion = whole.Slot 1 (Some wide) ∷ whole.Slot 0 (Some narrow) ∷ []

abbrev parts : List SplitWrite
parts = put_parts 1 wide ++ Slot 0 None ∷ put_parts 0 narrow

five : parts_of_writes (undivided before) insertion ≡ parts
five = refl

-- it is one insertion, which takes three parts of each of its two entries, but one
one-insertion : map (λ (one : SplitInsertion). length one.writes) (split_insertions before parts) ≡ 5 ∷ []
one-insertion = refl

two-puts : put_writes insertion ≡ 2
two-puts = refl

wide-all-through : answers parts 0x0a020304
    ≡ Some (rank_of 8 0x0a000000, 7) ∷ Some (rank_of 8 0x0a000000, 7) ∷ Some (rank_of 8 0x0a000000, 7) ∷ Some (rank_of 8 0x0a000000, 7)
    ∷ Some (rank_of 8 0x0a000000, 7) ∷ Some (rank_of 8 0x0a000000, 7) ∷ []
wide-all-through = refl

old-then-new : answers parts 0x0a010203
    ≡ Some (rank_of 8 0x0a000000, 7) ∷ Some (rank_of 8 0x0a000000, 7) ∷ Some (rank_of 8 0x0a000000, 7) ∷ Some (rank_of 8 0x0a000000, 7)
    ∷ Some (rank_of 8 0x0a000000, 7) ∷ Some (rank_of 16 0x0a010000, 9) ∷ []
old-then-new = refl

-- without the erase a key of 10/8 alone is answered by 10.1/16, which it doesn't match
unerased : split_lookup (split_after before (put_parts 1 wide ++ Result 0 narrow.tag narrow.result ∷ [])) (key 0x0a020304) ≡ Some (rank_of 16 0x0a010000, 9)
unerased = refl

-- and with a slot written before its result word a key gets what the word was before: here the least tag, which is no route's
early : split_lookup (split_after blank (Slot 0 (Some (narrow.value, narrow.mask)) ∷ [])) (key 0x0a010203) ≡ Some no_result
early = refl
