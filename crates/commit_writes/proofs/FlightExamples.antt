-- A word in flight with the old meaning of a bit, searched once the bit has a new one: without the drain it finds an entry that
-- neither set answers with.
use Rattle.std.proofs.Common.{◌≡◌, ℕ, ◌++◌, List, [], ◌∷◌, map, Some, None, refl}
use Rattle.rule_model.specs.declared.Key.{Key}
use Rattle.rule_model.specs.declared.Rule.{Rule}
use Rattle.rule_model.specs.declared.Field.TheVariants.{Dst}
use Rattle.rule_model.specs.AddressBlock.{any_address}
use Rattle.rule_model.specs.PortRange.{any_port}
use Rattle.rule_model.specs.Rank.{list_rank}
use Rattle.rule_model.specs.RuleSet.{answer}
use Rattle.rule_store.specs.declared.Mode.TheVariants.{Bits}
use Rattle.rule_store.specs.declared.Command.{Command}
use Rattle.rule_store.specs.declared.Command.TheVariants.{Add}
use Rattle.rule_model.specs.Entry.{RankedPiece, entry_for}
use Rattle.range_bits.specs.LiveRanges.{bit_of}
use Rattle.tcam_device.specs.declared.Write.{Write}
use Rattle.tcam_device.specs.declared.Write.TheVariants.{Slot, Table}
use Rattle.tcam_device.specs.State.{State, lookup, state_after}
use Rattle.commit_writes.specs.Bits.{FieldBits, no_bits, bits_with, bits_left, new_bits}
use Rattle.commit_writes.specs.Shape.{bit_writes, inserted_pieces}
use Rattle.tcam_device.specs.declared.Action.TheVariants.{Written, Drained}
use Rattle.tcam_device.specs.Flight.{Event, Acted, Translated, Searched, Pipeline, MayGo, happens, searches}
use Rattle.commit_writes.specs.Undo.{undo_writes}
use Rattle.commit_writes.specs.Actions.{commit_actions, up_to_writes}

-- a line of an access list on the destination ports alone
abbrev line : ℕ → ℕ → ℕ → Rule
line sequence lo hi = record { priority = list_rank sequence; src = any_address; dst = any_address; proto = None; sport = any_port; dport = record { lo = lo; hi = hi }; result = 1 }

-- ports 1-2 have bit 0, and give it up when their line goes
abbrev first : FieldBits
first = bits_with Bits [] (Add (line 10 1 2) ∷ []) no_bits

abbrev given_up : FieldBits
given_up = bits_left [] first

-- ports 3-4 get it then
abbrev second : List Command
second = Add (line 20 3 4) ∷ []

abbrev during : FieldBits
during = bits_with Bits [] second given_up

again : bit_of during.dst (record { lo = 3; hi = 4 }) ≡ Some 0
again = refl

-- tables of five ports, with the words that the first line left
abbrev begin : State
begin = record { slots = None ∷ []; src = 0 ∷ []; dst = 0 ∷ 1 ∷ 1 ∷ 0 ∷ 0 ∷ [] }

abbrev words : List Write
words = Table Dst 1 0 ∷ Table Dst 2 0 ∷ Table Dst 3 1 ∷ Table Dst 4 1 ∷ []

words_are : bit_writes begin (new_bits given_up during) ≡ words
words_are = refl

abbrev piece : RankedPiece
piece = record { piece = record { src = any_address; dst = any_address; proto = None; sport = any_port; dport = record { lo = 3; hi = 4 }; srcbit = None; dstbit = Some 0 }; rank = list_rank 20; result = 1 }

inserted : inserted_pieces Bits during [] second ≡ piece ∷ []
inserted = refl

-- the commit drains between the words and the entry
drains : commit_actions Bits given_up [] second (words ++ Slot 0 (Some (entry_for piece)) ∷ [])
    ≡ Written (Table Dst 1 0) ∷ Written (Table Dst 2 0) ∷ Written (Table Dst 3 1) ∷ Written (Table Dst 4 1) ∷ Drained ∷ Written (Slot 0 (Some (entry_for piece))) ∷ []
drains = refl

-- it drains too where no table word differs
drains_alone : commit_actions Bits given_up [] second (Slot 0 (Some (entry_for piece)) ∷ []) ≡ Drained ∷ Written (Slot 0 (Some (entry_for piece))) ∷ []
drains_alone = refl

-- of its first four actions none is the drain that is due then, and its fifth write has the drain before it
before_drain : up_to_writes 4 (commit_actions Bits given_up [] second (words ++ Slot 0 (Some (entry_for piece)) ∷ [])) ≡ map Written words
before_drain = refl

behind_drain : up_to_writes 5 (commit_actions Bits given_up [] second (words ++ Slot 0 (Some (entry_for piece)) ∷ []))
    ≡ map Written words ++ Drained ∷ Written (Slot 0 (Some (entry_for piece))) ∷ []
behind_drain = refl

abbrev port_two : Key
port_two = record { src = 0; dst = 0; proto = 0; sport = 0; dport = 2 }

abbrev before : Pipeline
before = record { state = begin; flight = [] }

-- without the drain
abbrev undrained : List Event
undrained =
    Translated port_two ∷ Acted (Written (Table Dst 1 0)) ∷ Acted (Written (Table Dst 2 0)) ∷ Acted (Written (Table Dst 3 1)) ∷ Acted (Written (Table Dst 4 1))
    ∷ Acted (Written (Slot 0 (Some (entry_for piece)))) ∷ Searched ∷ []

abbrev after : State
after = state_after begin (words ++ Slot 0 (Some (entry_for piece)) ∷ [])

stale_word : searches before undrained ≡ (after, port_two, Some (list_rank 20, 1)) ∷ []
stale_word = refl

neither : (answer [] port_two ≡ None) × (answer (line 20 3 4 ∷ []) port_two ≡ None) × (lookup after port_two ≡ None)
neither = (refl, refl, refl)

-- and with it the commit waits: no drain may happen while the word is in flight
waits : MayGo (happens before (Translated port_two)) (Acted Drained ∷ []) → ⊥
waits may = let none = may.0 in cc

-- undo writes put back the words and the empty slot
undone : undo_writes begin (words ++ Slot 0 (Some (entry_for piece)) ∷ [])
    ≡ Slot 0 None ∷ Table Dst 4 0 ∷ Table Dst 3 0 ∷ Table Dst 2 1 ∷ Table Dst 1 1 ∷ []
undone = refl
