-- Stages and tasks of some commits, by computation.
use Rattle.std.proofs.Common.{◌≡◌, ℕ, ◌<◌, true, false, Option, None, Some, List, [], ◌∷◌, ◌++◌, map, replicate, refl, arith, inr}
use Rattle.slot_order.specs.Order.{slot}
use Rattle.rule_model.specs.declared.Rule.{Rule}
use Rattle.rule_model.specs.AddressBlock.{any_address, ipv4_block}
use Rattle.rule_model.specs.PortRange.{any_port}
use Rattle.rule_model.specs.Rank.{ipv4_route_rank, list_rank}
use Rattle.rule_model.specs.Rule.{route_rule}
use Rattle.rule_model.specs.Piece.{whole_piece}
use Rattle.rule_store.specs.declared.Mode.TheVariants.{Cover}
use Rattle.rule_store.specs.declared.Command.TheVariants.{Add, Set, Del}
use Rattle.rule_model.specs.declared.words.Entry.{Entry}
use Rattle.rule_model.specs.Entry.{RankedPiece, entry_for}
use Rattle.tcam_device.specs.declared.Write.{Write}
use Rattle.tcam_device.specs.declared.Write.TheVariants.{Slot}
use Rattle.tcam_device.specs.State.{State, state_after}
use Rattle.tcam_device.specs.Insertion.{insertions}
use Rattle.commit_writes.specs.Bits.{no_bits}
use Rattle.readback.specs.Tasks.{Insert, Rewrite, Erase, CommitPieces, commit_pieces, tasks_of, is_done}
use Rattle.tcam_device.specs.Order.{AreAlike}
use Rattle.readback.specs.Fault.{IsOneTooMany}
use Rattle.readback.specs.Going.{twin_writes}

-- a route of 10.0.0.0/8, 10.1.0.0/16, 10.1.2.0/24 or 10.1.0.0/20
abbrev route : ℕ → ℕ → ℕ → Rule
route address len answer = let block = ipv4_block address len in route_rule (ipv4_route_rank block) block answer

abbrev eight : Rule
eight = route 167772160 8 7

abbrev sixteen : Rule
sixteen = route 167837696 16 9

abbrev twenty : Rule
twenty = route 167837696 20 5

abbrev twenty_four : Rule
twenty_four = route 167838208 24 8

-- its only piece, and the entry of that
abbrev ranked : Rule → RankedPiece
ranked rule = record { piece = whole_piece rule; rank = rule.priority; result = rule.result }

abbrev entry : Rule → Option Entry
entry rule = Some (entry_for (ranked rule))

-- the /20 is added to the /24, the /16 and the /8: it is one task
abbrev added : CommitPieces
added = commit_pieces Cover no_bits (twenty_four ∷ sixteen ∷ eight ∷ []) (Add twenty ∷ [])

one_task : tasks_of added ≡ Insert (ranked twenty) ∷ []
one_task = refl

-- the /24 was copied to slot 0, and then the commit was stopped: the task is left
abbrev stopped : List (Option Entry)
stopped = entry twenty_four ∷ entry twenty_four ∷ entry sixteen ∷ entry eight ∷ None ∷ None ∷ None ∷ None ∷ []

left : map (is_done stopped) (tasks_of added) ≡ false ∷ []
left = refl

-- the erase of the twin and the insertion, to the one free slot of its gap, go on: two writes, and the task is done
abbrev going : List Write
going = twin_writes (Some 1) ++ Slot 1 (entry twenty) ∷ []

abbrev gone_on : State
gone_on = state_after (record { slots = stopped; src = []; dst = [] }) going

then_done : map (is_done gone_on.slots) (tasks_of added) ≡ true ∷ []
then_done = refl

arrived : gone_on.slots ≡ entry twenty_four ∷ entry twenty ∷ entry sixteen ∷ entry eight ∷ None ∷ None ∷ None ∷ None ∷ []
arrived = refl

-- the erase of the twin belongs to no insertion
one_write : map (λ insertion. insertion.writes) (insertions (state_after (record { slots = stopped; src = []; dst = [] }) (twin_writes (Some 1))) (Slot 1 (entry twenty) ∷ []))
    ≡ (Slot 1 (entry twenty) ∷ []) ∷ []
one_write = refl

-- a change of result to the same one is no task, and one to another is
abbrev line : ℕ → ℕ → Rule
line sequence answer = record { priority = list_rank sequence; src = any_address; dst = any_address; proto = None; sport = any_port; dport = any_port; result = answer }

abbrev changed : CommitPieces
changed = commit_pieces Cover no_bits (line 1 1 ∷ line 2 1 ∷ line 3 1 ∷ []) (Set (list_rank 1) 0 ∷ Set (list_rank 2) 1 ∷ Del (list_rank 3) ∷ [])

two_tasks : tasks_of changed ≡ Rewrite (ranked (line 1 0)) ∷ Erase (ranked (line 3 1)) ∷ []
two_tasks = refl

first_done : map (is_done (entry (line 1 0) ∷ entry (line 2 1) ∷ entry (line 3 1) ∷ [])) (tasks_of changed) ≡ true ∷ false ∷ []
first_done = refl

-- slot 2 holds the /8 once more, behind slot 1 that does so too
abbrev three_times : List (Option Entry)
three_times = entry eight ∷ entry eight ∷ entry eight ∷ replicate 5 None

alike : (i j : ℕ) → i < j → slot three_times i ≡ entry eight → slot three_times j ≡ entry eight → AreAlike three_times i j
alike i j less here there = record { less = less; first = entry_for (ranked eight); second = entry_for (ranked eight); here = here; there = there; same = refl }

third : IsOneTooMany three_times 2
third = inr ((0, alike 0 2 (omega arith) refl refl), (1, (0, alike 0 1 (omega arith) refl refl), omega arith))
