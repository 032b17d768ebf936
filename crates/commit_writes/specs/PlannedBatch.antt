-- Commits of changes to a set of rules, as they are planned: insertions first, then new results, then erases.
use Rattle.std.specs.Prelude.{◌≡◌, ℕ, Some, None, List, [], ◌++◌, Contains, fold, length, map, slice_set, unwrap_or}
use Rattle.std.specs.List.{AllByRecursion, AllZip}
use Rattle.slot_pool.specs.Arrangement.{Slots, home_of}
use Rattle.rule_model.specs.declared.Rule.{Rule}
use Rattle.rule_model.specs.Rule.{HasConditions}
use Rattle.rule_model.specs.RuleSet.{IsRuleSet, BoundsChains}
use Rattle.rule_model.specs.declared.IpVersion.{IpVersion}
use Rattle.rule_store.specs.declared.Mode.{Mode}
use Rattle.rule_store.specs.declared.Command.{Command}
use Rattle.rule_store.specs.Batch.{ChangesRules, additions, batch_fault, set_after}
use Rattle.rule_model.specs.Entry.{RankedPiece, entry_for}
use Rattle.placement.specs.declared.LivePiece.{LivePiece}
use Rattle.placement.specs.Live.{without_id}
use Rattle.tcam_device.specs.declared.Write.{Write}
use Rattle.tcam_device.specs.declared.Write.TheVariants.{Slot}
use Rattle.tcam_device.specs.State.{State, IsState}
use Rattle.tcam_device.specs.Hitless.{IsHitless, TurnsOnce}
use Rattle.tcam_device.specs.Insertion.{insertions, table_writes, IsUncrossed, IsWithinTightBound}
use Rattle.commit_writes.specs.Proposal.{Proposal}
use Rattle.commit_writes.specs.declared.Done.{Done}
use Rattle.commit_writes.specs.declared.Rewrite.{Rewrite}
use Rattle.commit_writes.specs.Bits.{FieldBits}
use Rattle.commit_writes.specs.Serving.{AreServing}
use Rattle.commit_writes.specs.Shape.{set_pieces, inserted_pieces, rewritten_pieces, erased_pieces, due_of, HasShape}
use Rattle.commit_writes.specs.Commit.{KeepsPieces, ReplacesNone, IsSegment, AreCounts}
use Rattle.commit_writes.specs.Routes.{IsRoute, prefix_lengths}
use Rattle.commit_writes.specs.Planned.{IdEntries, Planned, ArePlanned, AreArranged, AreEntriesOf, contents, entry_at, ranked_of, slots_after, planned_writes, longest_planned, greatest_planned}

-- the id is that of this live piece
abbrev pub IsIdOf : List LivePiece → RankedPiece → ℕ → Type 0
IsIdOf live ranked id = Contains live (record { id = id; piece = ranked.piece; rank = ranked.rank })

-- a piece's id gets the entry of the piece
abbrev pub IsRewriteOf : List LivePiece → RankedPiece → Rewrite → Type 0
IsRewriteOf live ranked rewrite = IsIdOf live ranked rewrite.id × (rewrite.entry ≡ entry_for ranked)

-- the slot where an id stands
abbrev pub home_slot : Slots → ℕ → ℕ
home_slot slots id = unwrap_or (home_of slots id) 0

-- the write of an entry in place of another
abbrev pub rewrite_write : Slots → Rewrite → Write
rewrite_write slots rewrite = Slot (home_slot slots rewrite.id) (Some rewrite.entry)

-- the write that erases an id
abbrev pub erase_write : Slots → ℕ → Write
erase_write slots id = Slot (home_slot slots id) None

-- the entries of the ids after some rewrites
abbrev pub rewritten_entries : IdEntries → List Rewrite → IdEntries
rewritten_entries entries rewrites = fold (λ now rewrite. slice_set now rewrite.id (Some rewrite.entry)) entries rewrites

-- the arrangement after some ids are erased, one after the other
abbrev pub erased_slots : Slots → List ℕ → Slots
erased_slots slots ids = fold (λ now id. slice_set now (home_slot now id) None) slots ids

-- the ids that are live then
abbrev pub erased_live : List LivePiece → List ℕ → List LivePiece
erased_live live ids = fold without_id live ids

-- the writes of a commit whose insertions are planned: those of the insertions, then the results, then the erases
abbrev pub batch_writes : IdEntries → Slots → List Planned → List Rewrite → List ℕ → List Write
batch_writes entries slots planned rewrites erased =
    planned_writes entries planned
    ++ (map (rewrite_write (slots_after slots planned)) rewrites ++ map (erase_write (slots_after slots planned)) erased)

-- A commit of changes to a set of rules, as it was planned behind the words of the tables: before it the set's entries
-- stand in order, the state shows these, and its tables serve the rules; each piece that is new is one insertion; each that
-- stays and gets a result has its id with its new entry; and each that goes has its id.
pub record IsPlannedBatch (asked : Proposal) (state : State) (live : List LivePiece) (slots : Slots) (entries : IdEntries) (planned : List Planned) (rewrites : List Rewrite) (erased : List ℕ) : Type 0 where
  pub is_set : IsRuleSet asked.rules
  pub right : AllByRecursion HasConditions asked.rules
  pub changes : AllByRecursion ChangesRules asked.batch
  pub sound : batch_fault asked.rules asked.batch ≡ None
  pub is_state : IsState (length state.slots) state
  pub mirrors : state.slots ≡ contents entries slots
  pub serving : AreServing asked.mode asked.bits (asked.rules ++ additions asked.batch) state
  pub arranged : AreArranged live slots
  pub entries_are : AreEntriesOf (set_pieces asked.mode asked.bits asked.rules) live entries
  pub inserted : map ranked_of planned ≡ inserted_pieces asked.mode asked.bits asked.rules asked.batch
  pub have_entries : AllByRecursion (λ insertion. entry_at entries insertion.one.id ≡ Some (entry_for (ranked_of insertion))) planned
  pub are_planned : ArePlanned live slots planned
  pub rewrites_are : AllZip (IsRewriteOf live) (rewritten_pieces asked.mode asked.bits asked.rules asked.batch) rewrites
  pub erased_are : AllZip (IsIdOf live) (erased_pieces asked.mode asked.bits asked.rules asked.batch) erased

-- The writes of a commit behind those of the tables, with the bits that are live while it is made: hitless, in order, of
-- their shape, and within the bounds, from a state whose tables serve the rules; none of them is to a table. Of routes no
-- insertion crosses others, and none takes more writes than a prefix may have lengths.
pub record AreSlotWrites (mode : Mode) (bits : FieldBits) (rules : List Rule) (batch : List Command) (state : State) (made : List Write) : Type 0 where
  pub hitless : IsHitless rules (set_after rules batch) state made
  pub turns : ReplacesNone batch → TurnsOnce rules (set_after rules batch) state made
  pub order : KeepsPieces (set_pieces mode bits rules) (inserted_pieces mode bits rules batch) (set_pieces mode bits (set_after rules batch)) state made
  pub shape : HasShape [] (due_of mode bits rules batch) state made
  pub tight : (chain : ℕ) → BoundsChains (rules ++ additions batch) chain → IsWithinTightBound chain (insertions state made)
  pub slots_only : table_writes made ≡ 0
  pub uncrossed : (version : IpVersion) → AllByRecursion (IsRoute version) rules → AllByRecursion (IsRoute version) (additions batch)
      → IsUncrossed (prefix_lengths version) (insertions state made)

-- From a state on some writes are the segment of a batch, with these numbers; of routes no insertion crosses others, and
-- none takes more writes than a prefix may have lengths.
pub record IsPlannedSegment (mode : Mode) (bits : FieldBits) (rules : List Rule) (batch : List Command) (state : State) (made : List Write) (counts : Done) : Type 0 where
  pub segment : IsSegment mode bits rules batch state made
  pub numbers : AreCounts made (insertions state made) counts
  pub uncrossed : (version : IpVersion) → AllByRecursion (IsRoute version) rules → AllByRecursion (IsRoute version) (additions batch)
      → IsUncrossed (prefix_lengths version) (insertions state made)

-- the numbers of a commit whose insertions are planned, and that makes so many writes
pub record AreNumbersOf (writes : List Write) (planned : List Planned) (counts : Done) : Type 0 where
  pub writes_are : counts.writes ≡ length writes
  pub words : counts.words ≡ table_writes writes
  pub most : counts.most ≡ longest_planned planned
  pub span : counts.span ≡ greatest_planned planned
