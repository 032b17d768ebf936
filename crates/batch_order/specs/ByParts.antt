-- How many parts undivided writes take, where each is made by parts: on a device whose results stand beside its slots.
use Rattle.std.specs.Prelude.{ℕ, suc, ◌+◌, ◌-◌, ◌*◌, Option, Some, None, List, [], ◌∷◌, if◌then◌else◌, fold, map, max}
use Rattle.slot_order.specs.Order.{slot}
use Rattle.rule_model.specs.declared.words.Entry.{Entry}
use Rattle.rule_model.specs.Entry.{same_match}
use Rattle.placement.specs.declared.Move.{Move}
use Rattle.placement.specs.declared.Move.TheVariants.{Put, Erase}
use Rattle.tcam_device.specs.declared.Write.{Write}
use Rattle.tcam_device.specs.declared.Write.TheVariants.{Slot, Table}
use Rattle.tcam_device.specs.State.{State, apply}
use Rattle.tcam_device.specs.Insertion.{insertions}
use Rattle.commit_writes.specs.Planned.{Planned}

-- an entry that is put where this stands: two into an empty slot, one as a new result of the same entry, and three in place of
-- another one
abbrev pub put_number : Option Entry → Entry → ℕ
put_number None entry = 2
put_number (Some standing) entry = if same_match entry standing then 1 else 3

-- the parts of a write where this stands in its slot
abbrev pub part_number : Option Entry → Write → ℕ
part_number standing (Slot at None) = 1
part_number standing (Slot at (Some entry)) = put_number standing entry
part_number standing (Table field port word) = 1

-- what stands in its slot
abbrev pub stands_at : State → Write → Option Entry
stands_at state (Slot at entry) = slot state.slots at
stands_at state (Table field port word) = None

-- those of some writes, one after the other
abbrev pub parts_number : State → List Write → ℕ
parts_number state [] = 0
parts_number state (write ∷ writes) = part_number (stands_at state write) write + parts_number (apply state write) writes

-- what a write would put into its slot
abbrev pub put_back : Write → Option Entry
put_back (Slot at entry) = entry
put_back (Table field port word) = None

-- the parts of some writes, by those that would put back what each of them replaces
abbrev pub paired_number : List Write → List Write → ℕ
paired_number [] undo = 0
paired_number (write ∷ writes) [] = 0
paired_number (write ∷ writes) (before ∷ undo) = part_number (put_back before) write + paired_number writes undo

-- how many moves put an entry
abbrev pub moves_put : List Move → ℕ
moves_put [] = 0
moves_put (Put slot id ∷ moves) = suc (moves_put moves)
moves_put (Erase slot ∷ moves) = moves_put moves

-- how many writes put an entry into a slot
abbrev pub writes_put : List Write → ℕ
writes_put [] = 0
writes_put (Slot at None ∷ writes) = writes_put writes
writes_put (Slot at (Some entry) ∷ writes) = suc (writes_put writes)
writes_put (Table field port word ∷ writes) = writes_put writes

-- The parts of an insertion that puts so many entries: three of each, but one. A put takes two into an empty slot and three
-- over another entry, an erase one, and one slot more is filled than emptied.
abbrev pub insertion_parts : ℕ → ℕ
insertion_parts puts = 3 * puts - 1

-- those of the longest insertion, as it was planned
abbrev pub longest_planned_parts : List Planned → ℕ
longest_planned_parts planned = fold max 0 (map (λ insertion. insertion_parts (moves_put insertion.moves)) planned)

-- and as writes make it
abbrev pub longest_parts : State → List Write → ℕ
longest_parts state writes = fold max 0 (map (λ insertion. insertion_parts (writes_put insertion.writes)) (insertions state writes))
