-- Where the insertions of a commit aim, and that the insertions of a commit, or of what a restart found left of it, are so
-- placed.
use Rattle.std.specs.Prelude.{◌≡◌, ℕ, ◌+◌, ◌-◌, ◌*◌, ◌/◌, Bool, not, ◌&&◌, nat_lt, if◌then◌else◌, Option, List, [], ◌∷◌, ◌++◌, drop, length, map}
use Rattle.std.specs.List.{list_any}
use Rattle.slot_pool.specs.Arrangement.{Slots}
use Rattle.rule_model.specs.declared.Rule.{Rule}
use Rattle.rule_store.specs.declared.Mode.{Mode}
use Rattle.rule_store.specs.declared.Command.{Command}
use Rattle.rule_store.specs.Store.{rules_above}
use Rattle.rule_store.specs.Verdict.{entries_of}
use Rattle.rule_model.specs.Entry.{RankedPiece}
use Rattle.placement.specs.declared.LivePiece.{LivePiece}
use Rattle.placement.specs.declared.Aim.{Aim}
use Rattle.placement.specs.declared.Aim.TheVariants as aim
use Rattle.placement.specs.Placement.{Aiming, rank_slot}
use Rattle.tcam_device.specs.declared.Write.{Write}
use Rattle.tcam_device.specs.State.{State, state_after}
use Rattle.commit_writes.specs.Proposal.{Proposal, proposal}
use Rattle.commit_writes.specs.Bits.{FieldBits, bits_with}
use Rattle.commit_writes.specs.Shape.{inserted_pieces, fresh_writes}
use Rattle.commit_writes.specs.Planned.{IdEntries}
use Rattle.commit_writes.specs.PlannedBatch.{IsPlannedBatch, batch_writes}
use Rattle.readback.specs.Halt.{PlannedParts, halt_at}
use Rattle.readback.specs.Tasks.{Task}
use Rattle.readback.specs.Restart.{IsPlannedRestart}
use Rattle.readback.specs.Going.{restart_front}
use Rattle.batch_order.specs.declared.Placement.{Placement}
use Rattle.batch_order.specs.declared.Placement.TheVariants.{Middle, Rank, Ends}

-- how many entries stand before those of a priority: those of the rules of higher priority
abbrev pub entries_above : Mode → List Rule → ℕ → ℕ
entries_above mode rules priority = entries_of mode (rules_above rules priority)

-- some rule of the set is higher than a priority, and some is lower
abbrev pub has_higher : List Rule → ℕ → Bool
has_higher rules priority = list_any (λ rule. nat_lt priority rule.priority) rules

abbrev pub has_lower : List Rule → ℕ → Bool
has_lower rules priority = list_any (λ rule. nat_lt rule.priority priority) rules

-- A batch spreads its entries over the slots where it inserts more than stood, and more than a 64th of the slots; of so many
-- there are to be, so many stood.
abbrev pub spreads : ℕ → ℕ → ℕ → Bool
spreads slots stood all = nat_lt stood (all - stood) && nat_lt slots (64 * (all - stood))

-- the slots that a batch spreads its entries over: a quarter of those that stay free is left behind the last
abbrev pub spread_over : ℕ → ℕ → ℕ
spread_over slots all = slots - (slots - all) / 4

-- where a piece aims among the entries of a set, at an end of its gap where it is lower or higher than all rules of the set
abbrev pub end_or_rank : ℕ → List Rule → ℕ → ℕ → ℕ → Aim
end_or_rank slots rules before all priority =
    if not (has_lower rules priority) then aim.Start
    else if not (has_higher rules priority) then aim.End
    else aim.At (rank_slot slots before all)

-- Where a piece aims that is inserted at a rank, of so many entries in all: at the middle of its gap; or at its slot by rank;
-- or by rank where the batch spreads or the piece is amid the set, and else at that end of its gap.
abbrev pub aim_at : Placement → ℕ → List Rule → ℕ → ℕ → ℕ → ℕ → Aim
aim_at Middle slots rules stood before all priority = aim.Middle
aim_at Rank slots rules stood before all priority = aim.At (rank_slot slots before all)
aim_at Ends slots rules stood before all priority =
    if spreads slots stood all then aim.At (rank_slot (spread_over slots all) before all) else end_or_rank slots rules before all priority

-- The aim of a piece that a batch inserts behind so many others, of so many entries in all: those that stand and all that the
-- batch inserts. Before it are those of higher priority and those of its own rule that are inserted earlier.
abbrev pub aim_of : Placement → Mode → ℕ → List Rule → ℕ → ℕ → RankedPiece → Aim
aim_of placement mode slots rules all place ranked =
    aim_at placement slots rules (entries_of mode rules) (entries_above mode rules ranked.rank + place) all ranked.rank

-- the priorities of some pieces
abbrev pub ranks_of : List RankedPiece → List ℕ
ranks_of pieces = map (λ ranked. ranked.rank) pieces

-- the aims of pieces that are inserted one after the other, behind so many others, each with the priorities of those behind it
abbrev pub aims_from : Placement → Mode → ℕ → List Rule → ℕ → ℕ → List RankedPiece → List Aiming
aims_from placement mode slots rules all place [] = []
aims_from placement mode slots rules all place (ranked ∷ inserted) =
    record { aim = aim_of placement mode slots rules all place ranked; coming = ranks_of inserted } ∷ aims_from placement mode slots rules all (place + 1) inserted

-- the aims of all the pieces that a batch inserts into a set
abbrev pub aims_of : Placement → Mode → ℕ → List Rule → List RankedPiece → List Aiming
aims_of placement mode slots rules inserted =
    aims_from placement mode slots rules (entries_of mode rules + length inserted) 0 inserted

-- the aims of those that are left of them where so many tasks are done: insertions come first
abbrev pub aims_left : Placement → Mode → FieldBits → ℕ → List Rule → List Command → List Task → List Aiming
aims_left placement mode bits slots rules batch done =
    drop (length done) (aims_of placement mode slots rules (inserted_pieces mode (bits_with mode rules batch bits) rules batch))

-- Some writes are those of a plan behind some first ones: under some ids it is one by `IsPlan`, which says how its entries
-- stand and that each insertion makes the moves of a placement with its aim; and its insertions have the aims that the
-- placement gives them, where so many tasks of the commit are done: the old set's entries and all that the commit inserts
-- share the slots, whatever stands already.
pub record IsPlacedAs (placement : Placement) (asked : Proposal) (done : List Task) (front : List Write) (IsPlan : List LivePiece → Slots → IdEntries → PlannedParts → Type 0) (made : List Write) : Type 0 where
  pub live : List LivePiece
  pub arrangement : Slots
  pub entries : IdEntries
  pub parts : PlannedParts
  pub plan : IsPlan live arrangement entries parts
  pub aims : map (λ insertion. insertion.aiming) parts.planned ≡ aims_left placement asked.mode asked.bits (length arrangement) asked.rules asked.batch done
  pub writes_are : made ≡ front ++ batch_writes entries arrangement parts.planned parts.rewrites parts.erased

-- so are those of a commit: the words of its new bits come first, and behind them it is a planned batch
abbrev pub IsPlacedBy : Placement → Mode → FieldBits → List Rule → List Command → State → List Write → Type 0
IsPlacedBy placement mode bits rules batch state made =
    let front = fresh_writes mode bits rules batch state in
    IsPlacedAs placement (proposal mode bits rules batch) [] front
    (λ live slots entries parts. IsPlannedBatch (proposal mode (bits_with mode rules batch bits) rules batch) (state_after state front) live slots entries parts.planned parts.rewrites parts.erased) made

-- and those of a restart
abbrev pub IsRestPlacedBy : Placement → ℕ → Proposal → State → List Task → List Task → Option ℕ → List Write → Type 0
IsRestPlacedBy placement device_slots asked state done left twin made =
    IsPlacedAs placement asked done (restart_front asked.mode asked.bits asked.rules asked.batch state twin) (IsPlannedRestart device_slots asked state (halt_at done left twin)) made
