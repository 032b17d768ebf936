-- Look-ups of three events by computation, and what goes wrong without each of the drains.
use Rattle.std.proofs.Common.{◌≡◌, ◌≢◌, ℕ, Some, None, List, [], ◌∷◌, ◌++◌, map, replicate, refl, ap, arith}
use Rattle.rule_model.specs.declared.Key.{Key}
use Rattle.rule_model.specs.declared.Rule.{Rule}
use Rattle.rule_model.specs.declared.Field.TheVariants.{Dst}
use Rattle.rule_model.specs.AddressBlock.{ipv4_block, ipv4_address}
use Rattle.rule_model.specs.Rank.{ipv4_route_rank, rank_of}
use Rattle.rule_model.specs.Rule.{route_rule}
use Rattle.rule_model.specs.RuleSet.{Answer, answer}
use Rattle.rule_model.specs.Piece.{whole_piece}
use Rattle.rule_model.specs.declared.words.Entry.{Entry}
use Rattle.rule_model.specs.Entry.{entry_of}
use Rattle.tcam_device.specs.State.{lookup}
use Rattle.split_device.specs.declared.SplitWrite.{SplitWrite}
use Rattle.split_device.specs.declared.SplitWrite.TheVariants.{Slot, Result, Table}
use Rattle.split_device.specs.State.{SplitState, no_result, undivided, split_lookup, split_after}
use Rattle.split_device.specs.declared.SplitAction.TheVariants.{Written, Drained}
use Rattle.split_device.specs.Flight.{Event, Makes, Translates, Searches, Reads, Pipeline, Answered, reads, written}
use Rattle.split_device.specs.Drains.{nothing_since, with_drains}

abbrev route : ℕ → ℕ → ℕ → Rule
route address len answer = route_rule (ipv4_route_rank (ipv4_block address len)) (ipv4_block address len) answer

abbrev entry : ℕ → ℕ → ℕ → Entry
entry address len answer = let rule = route address len answer in entry_of (whole_piece rule) rule.priority answer

-- an entry of a slot: its result word, then its value and mask
abbrev put : ℕ → Entry → List SplitWrite
put at one = Result at one.tag one.result ∷ Slot at (Some (one.value, one.mask)) ∷ []

-- four slots and short tables, for the examples
abbrev small : SplitState
small = record { slots = replicate 4 None; results = replicate 4 no_result; src = 0 ∷ []; dst = 0 ∷ 0 ∷ 0 ∷ 0 ∷ [] }

abbrev to : ℕ → Key
to address = record { src = 0; dst = ipv4_address address; proto = 0; sport = 0; dport = 0 }

abbrev waiting : SplitState → Pipeline
waiting state = record { state = state; words = []; looks = [] }

-- 10/8 to 7 stands in slot 3
abbrev wide : SplitState
wide = split_after small (put 3 (entry 0x0a000000 8 7))

stands : split_lookup wide (to 0x0a010203) ≡ Some (rank_of 8 0x0a000000, 7)
stands = refl

as-undivided : lookup (undivided wide) (to 0x0a010203) ≡ split_lookup wide (to 0x0a010203)
as-undivided = refl

-- an erase leaves the result word, and a blank slot has the least tag
erased : (split_after wide (Slot 3 None ∷ [])).results ≡ no_result ∷ no_result ∷ no_result ∷ (rank_of 8 0x0a000000, 7) ∷ []
erased = refl

-- A result change without a drain: 10.1/16 to 9 is added and 10/8 gets 5, in one commit or in two, while a look-up that found
-- 10/8 waits.
abbrev change : List SplitWrite
change = put 1 (entry 0x0a010000 16 9) ++ Result 3 (rank_of 8 0x0a000000) 5 ∷ []

abbrev undrained : List Event
undrained = Translates (to 0x0a010203) ∷ Searches ∷ map (λ write. Makes (Written write)) change ++ Reads ∷ []

abbrev old-set : List Rule
old-set = route 0x0a000000 8 7 ∷ []

abbrev new-set : List Rule
new-set = route 0x0a010000 16 9 ∷ route 0x0a000000 8 5 ∷ []

old-answer : answer old-set (to 0x0a010203) ≡ Some (rank_of 8 0x0a000000, 7)
old-answer = refl

new-answer : answer new-set (to 0x0a010203) ≡ Some (rank_of 16 0x0a010000, 9)
new-answer = refl

-- what it reads is neither the old nor the new answer,
neither : map (λ (read : Answered). read.answer) (reads (waiting wide) undrained) ≡ Some (rank_of 8 0x0a000000, 5) ∷ []
neither = refl

-- the result of an answer, and 0 of none
abbrev result_told : Answer → ℕ
result_told None = 0
result_told (Some found) = found.1

neither-old : answer old-set (to 0x0a010203) ≢ Some (rank_of 8 0x0a000000, 5)
neither-old same = let wrong : ◌≡◌ {A = ℕ} 7 5 = ap result_told same in omega arith

neither-new : answer new-set (to 0x0a010203) ≢ Some (rank_of 8 0x0a000000, 5)
neither-new same = let wrong : ◌≡◌ {A = ℕ} 9 5 = ap result_told same in omega arith

-- and no undivided look-up at any of its moments answers so
moments-of-it : map (λ (read : Answered). map (λ moment. split_lookup moment read.key) read.moments) (reads (waiting wide) undrained)
    ≡ (Some (rank_of 8 0x0a000000, 7) ∷ Some (rank_of 8 0x0a000000, 7) ∷ Some (rank_of 16 0x0a010000, 9) ∷ Some (rank_of 16 0x0a010000, 9) ∷ []) ∷ []
moments-of-it = refl

-- with the drain in its place that schedule can't be: the look-up is read before it
drained : with_drains wide nothing_since change
    ≡ Written (Result 1 (rank_of 16 0x0a010000) 9) ∷ Written (Slot 1 (Some ((entry 0x0a010000 16 9).value, (entry 0x0a010000 16 9).mask)))
    ∷ Drained ∷ Written (Result 3 (rank_of 8 0x0a000000) 5) ∷ []
drained = refl

abbrev early : List Event
early = Translates (to 0x0a010203) ∷ Searches ∷ Makes (Written (Result 1 (rank_of 16 0x0a010000) 9)) ∷ Reads ∷ []

old-still : map (λ (read : Answered). read.answer) (reads (waiting wide) early) ≡ Some (rank_of 8 0x0a000000, 7) ∷ []
old-still = refl

-- A result word of a slot that was erased since the last drain: 10/8 goes from slot 3, and 11/8 to 6 is put there, while a
-- look-up that found 10/8 waits. It reads the result of a route that it isn't for.
abbrev reused : List SplitWrite
reused = Slot 3 None ∷ put 3 (entry 0x0b000000 8 6)

another : map (λ (read : Answered). read.answer)
    (reads (waiting wide) (Translates (to 0x0a010203) ∷ Searches ∷ map (λ write. Makes (Written write)) reused ++ Reads ∷ []))
    ≡ Some (rank_of 8 0x0b000000, 6) ∷ []
another = refl

another-drained : map (λ made. written (made ∷ [])) (with_drains wide nothing_since reused)
    ≡ (Slot 3 None ∷ []) ∷ [] ∷ (Result 3 (rank_of 8 0x0b000000) 6 ∷ []) ∷ (Slot 3 (Some ((entry 0x0b000000 8 6).value, (entry 0x0b000000 8 6).mask)) ∷ []) ∷ []
another-drained = refl

-- Two result changes have one drain, before the first; a removal behind them needs none.
two-changes : with_drains wide nothing_since (put 1 (entry 0x0a010000 16 9) ++ Result 3 (rank_of 8 0x0a000000) 5 ∷ Result 1 (rank_of 16 0x0a010000) 4 ∷ Slot 3 None ∷ [])
    ≡ Written (Result 1 (rank_of 16 0x0a010000) 9) ∷ Written (Slot 1 (Some ((entry 0x0a010000 16 9).value, (entry 0x0a010000 16 9).mask)))
    ∷ Drained ∷ Written (Result 3 (rank_of 8 0x0a000000) 5) ∷ Written (Result 1 (rank_of 16 0x0a010000) 4) ∷ Written (Slot 3 None) ∷ []
two-changes = refl

-- a word that was made before its bit got another meaning: the drain behind the table's words keeps it from the entry
table-first : with_drains small nothing_since (Table Dst 1 1 ∷ Table Dst 2 1 ∷ put 1 (entry 0x0a010000 16 9))
    ≡ Written (Table Dst 1 1) ∷ Written (Table Dst 2 1) ∷ Drained ∷ Written (Result 1 (rank_of 16 0x0a010000) 9)
    ∷ Written (Slot 1 (Some ((entry 0x0a010000 16 9).value, (entry 0x0a010000 16 9).mask))) ∷ []
table-first = refl
