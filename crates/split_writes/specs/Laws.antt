-- What packets see of a commit on a device with split results.
use Rattle.std.specs.Prelude.{◌≡◌, ℕ, ◌++◌, List, length}
use Rattle.std.specs.List.{AllByRecursion}
use Rattle.slot_pool.specs.Arrangement.{Slots}
use Rattle.rule_model.specs.declared.IpVersion.{IpVersion}
use Rattle.rule_model.specs.declared.Rule.{Rule}
use Rattle.rule_store.specs.declared.Mode.{Mode}
use Rattle.rule_store.specs.declared.Command.{Command}
use Rattle.rule_store.specs.Batch.{set_after}
use Rattle.placement.specs.declared.LivePiece.{LivePiece}
use Rattle.tcam_device.specs.declared.Write.{Write}
use Rattle.tcam_device.specs.State.{State, IsInUse, state_after, on_device}
use Rattle.commit_writes.specs.Proposal.{proposal}
use Rattle.commit_writes.specs.declared.Rewrite.{Rewrite}
use Rattle.commit_writes.specs.Bits.{FieldBits, bits_with, new_bits}
use Rattle.commit_writes.specs.Shape.{bit_writes}
use Rattle.commit_writes.specs.Planned.{IdEntries, Planned}
use Rattle.commit_writes.specs.PlannedBatch.{IsPlannedBatch, batch_writes}
use Rattle.commit_writes.specs.Commit.{IsSegment}
use Rattle.commit_writes.specs.Actions.{commit_actions}
use Rattle.commit_writes.specs.Segments.{MayBegin}
use Rattle.split_device.specs.State.{SplitState, IsSized, undivided}
use Rattle.split_device.specs.declared.SplitAction.{SplitAction}
use Rattle.split_device.specs.Flight.{Event, Pipeline, reads, IsOfAMoment}
use Rattle.split_device.specs.Drains.{SinceDrain}
use Rattle.split_device.specs.Hitless.{AreBetweenSets, IsOldOrNew}
use Rattle.split_writes.specs.Parts.{made_of, parts_of_writes}
use Rattle.split_writes.specs.Segment.{IsSplitHitless, IsSplitSegment, IsOfRoutes}
use Rattle.split_writes.specs.InFlight.{MayGo, made_in}
use Rattle.split_writes.specs.UnderWay.{IsUnderWay, IsInFlight}

-- these are the first of some writes and drains
abbrev pub IsFrontOf : List SplitAction → List SplitAction → Type 0
IsFrontOf front made = (back : List SplitAction) × (made ≡ front ++ back)

-- what is known of a commit before its first write: it may begin, and its undivided writes are its segment, of slots that
-- there are
pub record IsBegun (mode : Mode) (bits : FieldBits) (rules : List Rule) (batch : List Command) (state : SplitState) (writes : List Write) : Type 0 where
  pub sized : IsSized state
  pub in_use : AllByRecursion (IsInUse (length state.slots)) writes
  pub may_begin : MayBegin mode bits rules batch (undivided state)
  pub segment : IsSegment mode bits rules batch (undivided state) writes

-- The writes of a commit are those of a plan, on a device with the slots in use or more: the words of its new bits, and then
-- the insertions, new results and erases of a planned batch.
pub record ArePlannedOn (mode : Mode) (bits : FieldBits) (rules : List Rule) (batch : List Command) (state : State) (writes : List Write) : Type 0 where
  pub device_slots : ℕ
  pub own : State
  pub stands : state ≡ on_device device_slots own
  pub live : List LivePiece
  pub arrangement : Slots
  pub entries : IdEntries
  pub planned : List Planned
  pub rewrites : List Rewrite
  pub erased : List ℕ
  pub commit : IsPlannedBatch (proposal mode (bits_with mode rules batch bits) rules batch) (state_after own (bit_writes own (new_bits bits (bits_with mode rules batch bits))))
      live arrangement entries planned rewrites erased
  pub writes_are : writes
      ≡ bit_writes own (new_bits bits (bits_with mode rules batch bits)) ++ batch_writes entries arrangement planned rewrites erased

-- The parts of a commit's writes are hitless too: an undivided look-up of any key gets the old or the new answer after each
-- part.
abbrev pub PartsAreHitless : Type 0
PartsAreHitless =
    (mode : Mode) (bits : FieldBits) (rules : List Rule) (batch : List Command) (state : SplitState) (writes : List Write)
    → IsBegun mode bits rules batch state writes → IsSplitHitless rules (set_after rules batch) state (parts_of_writes (undivided state) writes)

-- What is made of a planned commit, its parts and drains, is a segment by parts: hitless, each part in its time, and within the
-- bound. Of routes no insertion crosses others, and none takes more writes than a prefix of so many lengths may need.
abbrev pub MakesSegments : Type 0
MakesSegments =
    (mode : Mode) (bits : FieldBits) (rules : List Rule) (batch : List Command) (state : SplitState) (since : SinceDrain) (writes : List Write)
    → IsBegun mode bits rules batch state writes → ArePlannedOn mode bits rules batch (undivided state) writes
    → IsSplitSegment mode bits rules batch state since (made_of state since (commit_actions mode bits rules batch writes))
    × ((version : IpVersion) → IsOfRoutes version rules batch state (made_of state since (commit_actions mode bits rules batch writes)))

-- Before its first part or drain a commit is under way,
abbrev pub CommitsAreUnderWay : Type 0
CommitsAreUnderWay =
    (mode : Mode) (bits : FieldBits) (rules : List Rule) (batch : List Command) (state : SplitState) (since : SinceDrain) (writes : List Write)
    → IsBegun mode bits rules batch state writes
    → IsUnderWay rules (set_after rules batch) bits (bits_with mode rules batch bits) state since (made_of state since (commit_actions mode bits rules batch writes))

-- and from any point of it, while what is left is made in its order, all of it or the first, each read is one of its key at a
-- moment between its search and its read, whatever look-ups stand between. It gets the old or the new set's answer, where
-- those that waited before have seen no others: one that was searched in an earlier commit may get an answer of that one's
-- sets.
abbrev pub SeesOldOrNewOnTheWay : Type 0
SeesOldOrNewOnTheWay =
    (old new : List Rule) (bits last : FieldBits) (line : Pipeline) (since : SinceDrain) (left : List SplitAction) (events : List Event)
    → IsUnderWay old new bits last line.state since left → IsInFlight bits since line
    → IsFrontOf (made_in events) left → MayGo line events
    → AllByRecursion IsOfAMoment (reads line events) × (AreBetweenSets old new line.looks → AllByRecursion (IsOldOrNew old new) (reads line events))

-- A commit as packets see it whose look-ups are three events: the same from its beginning on. Translations, searches and
-- reads stand anywhere between its parts and drains.
abbrev pub SeesOldOrNew : Type 0
SeesOldOrNew =
    (mode : Mode) (bits : FieldBits) (rules : List Rule) (batch : List Command) (line : Pipeline) (since : SinceDrain) (writes : List Write) (events : List Event)
    → IsBegun mode bits rules batch line.state writes → IsInFlight bits since line
    → IsFrontOf (made_in events) (made_of line.state since (commit_actions mode bits rules batch writes)) → MayGo line events
    → AllByRecursion IsOfAMoment (reads line events)
    × (AreBetweenSets rules (set_after rules batch) line.looks → AllByRecursion (IsOldOrNew rules (set_after rules batch)) (reads line events))
