-- What a manager keeps, and how it judges a batch.
use Rattle.std.specs.Prelude.{◌≡◌, ℕ, ◌+◌, ◌≤◌, ◌^◌, ◌⊎◌, Bool, true, false, Result, Ok, Err, IsOk, Option, Some, None, List, [], length, take}
use Rattle.std.specs.List.{AllByRecursion, list_any}
use Rattle.rule_model.specs.declared.Rule.{Rule}
use Rattle.rule_model.specs.declared.IpVersion.{IpVersion}
use Rattle.rule_store.specs.declared.Mode.{Mode}
use Rattle.rule_store.specs.declared.Mode.TheVariants.{Cover}
use Rattle.rule_store.specs.declared.Command.{Command}
use Rattle.rule_store.specs.Batch.{additions, set_after}
use Rattle.rule_store.specs.Verdict.{verdict}
use Rattle.tcam_device.specs.declared.Write.{Write}
use Rattle.tcam_device.specs.declared.Action.{Action}
use Rattle.tcam_device.specs.State.{State, IsInUse, Shows, blank, blank_table, replay, on_device, state_after}
use Rattle.tcam_device.specs.Flight.{writes_in}
use Rattle.tcam_device.specs.Hitless.{ShowsOldOrNew}
use Rattle.tcam_device.specs.Insertion.{insertions, table_writes, IsUncrossed}
use Rattle.commit_writes.specs.declared.Done.{Done}
use Rattle.commit_writes.specs.Bits.{FieldBits, no_bits, bits_with, bits_left}
use Rattle.commit_writes.specs.Commit.{IsSegment, AreCounts}
use Rattle.commit_writes.specs.Actions.{commit_actions}
use Rattle.commit_writes.specs.Routes.{IsRoute, prefix_lengths}
use Rattle.commit_writes.specs.Segments.{MayBegin}
use Rattle.commit_writes.specs.Shape.{inserted_pieces}
use Rattle.readback.specs.declared.Rejection.{Rejection}
use Rattle.readback.specs.Judged.{judgement}
use Rattle.readback.specs.Fault.{AreSetBits}
use Rattle.readback.specs.Stage.{IsStage}
use Rattle.readback.specs.Tasks.{stands_in}
use Rattle.batch_order.specs.declared.Placement.{Placement}
use Rattle.batch_order.specs.declared.Refusal.{Refusal}
use Rattle.batch_order.specs.declared.Refusal.TheVariants as refusal
use Rattle.batch_order.specs.Placing.{IsPlacedBy}

-- A commit goes on, with the undo writes of those that were made, the next one first. Or it is turned round and goes back, by
-- so many undo writes in all.
pub data Way : Type 0 where
  On : (undo : List Write) → Way
  Back : (undone : ℕ) → Way

-- A commit under way.
pub record HeldCommit : Type 0 where
  -- whether it was planned from the set's arrangement, and not by a restart
  pub prepared : Bool
  -- the actions still to make, on or back: its writes, and the drain where it is still to come, or the undo writes
  pub actions : List Action
  pub way : Way
  -- its numbers
  pub counts : Done
  -- the new set, by which keys may be answered meanwhile, and which it leads to unless it is turned round
  pub rules : List Rule
  -- the ranges that are live while it is made, those that are when it has finished, and those that the words in flight are
  -- current for now
  pub during : FieldBits
  pub bits : FieldBits
  pub current : FieldBits

-- a manager: the slots in use, the encoding of port ranges, where insertions aim, the rules of the set and their live
-- ranges, what the slots in use and the tables of its device hold, and the commit under way
pub record Managed : Type 0 where
  pub slots : ℕ
  pub mode : Mode
  pub placement : Placement
  pub rules : List Rule
  pub bits : FieldBits
  pub state : State
  pub held : Option HeldCommit

-- a manager of a blank device, without rules
abbrev pub fresh : ℕ → Mode → Placement → Managed
fresh slots mode placement =
    record { slots = slots; mode = mode; placement = placement; rules = []; bits = no_bits; state = blank slots; held = None }

-- the writes of a device's journal leave the manager's state
abbrev pub IsOn : ℕ → List Write → Managed → Type 0
IsOn device_slots journal manager = on_device device_slots manager.state ≡ replay device_slots journal

-- each key is answered as the rules do, and while a commit is under way as the old ones or the new ones do
abbrev pub Serves : State → List Rule → Option HeldCommit → Type 0
Serves state rules None = Shows state rules
Serves state rules (Some held) = ShowsOldOrNew state rules held.rules

-- The live ranges that the words in flight are current for: while a commit is made those before it up to its drain, then also
-- its new ones, until it is taken back as far as a table word.
abbrev pub live_now : Managed → FieldBits
live_now manager = elim manager.held [ None ↦ manager.bits | Some held ↦ held.current ]

-- how many writes and drains a commit under way may make yet, if it is turned round at the worst moment
abbrev pub room_by_way : List Action → Way → ℕ
room_by_way actions (On undo) = length actions + (length (writes_in actions) + length undo)
room_by_way actions (Back undone) = length actions

abbrev pub room_both_ways : HeldCommit → ℕ
room_both_ways held = room_by_way held.actions held.way

-- what an idle manager answers by the judgement: an accepted batch may want memory, and nothing else
abbrev pub Answers : Result (Unit {0}) Rejection → Result Done Refusal → Type 0
Answers (Ok done) result = IsOk result ⊎ (result ≡ Err refusal.Memory)
Answers (Err rejection) result = result ≡ Err (refusal.Rejected rejection)

-- what a manager answers to a batch: busy where a commit is under way, forward or back, and else by the verdict
abbrev pub Judges : Managed → Option HeldCommit → List Command → Result Done Refusal → Type 0
Judges manager (Some held) batch result = result ≡ Err (refusal.Busy (length (writes_in held.actions)))
Judges manager None batch result = Answers (judgement (verdict manager.slots manager.mode manager.rules batch)) result

-- the batch changes routes: each rule that it adds is a route of this version
abbrev pub OnlyChangesRoutes : IpVersion → List Command → Type 0
OnlyChangesRoutes version batch = AllByRecursion (IsRoute version) (additions batch)

-- the commit of a batch before its first action, with these writes and numbers
abbrev pub commit_of : Managed → List Command → List Write → Done → HeldCommit
commit_of old batch made counts =
    record {
      prepared = true;
      actions = commit_actions old.mode old.bits old.rules batch made;
      way = On [];
      counts = counts;
      rules = set_after old.rules batch;
      during = bits_with old.mode old.rules batch old.bits;
      bits = bits_left (set_after old.rules batch) (bits_with old.mode old.rules batch old.bits);
      current = old.bits;
    }

-- No word of a table has a bit, as on a device whose manager has given none.
pub record HasBlankTables (state : State) : Type 0 where
  pub src : state.src ≡ blank_table
  pub dst : state.dst ≡ blank_table

-- Each state that some writes of a commit pass is a stage, which shows how far it came. The bits are those of the set, and
-- by covers no word of a table has a bit. What the commit inserts doesn't stand before its first write to a slot.
pub record CanRestart (slots : ℕ) (mode : Mode) (bits : FieldBits) (rules : List Rule) (batch : List Command) (state : State) (made : List Write) : Type 0 where
  pub set_bits : AreSetBits mode rules bits
  pub stages : (n : ℕ) → IsStage slots mode bits rules batch (state_after state (take n made))
  pub unplaced : (n : ℕ) → n ≤ table_writes made
      → list_any (stands_in (state_after state (take n made)).slots) (inserted_pieces mode (bits_with mode rules batch bits) rules batch) ≡ false
  pub plain : mode ≡ Cover → (n : ℕ) → HasBlankTables (state_after state (take n made))

-- A batch is taken: its actions are held, and their writes are its segment on a device with so many slots or more.
pub record Holds (old : Managed) (batch : List Command) (counts : Done) (new : Managed) : Type 0 where
  pub made : List Write
  pub new_is : new ≡ record old { held = Some (commit_of old batch made counts) }
  pub in_use : AllByRecursion (IsInUse old.slots) made
  pub few : length made ≤ 2 ^ 35
  -- hitless after every write, of the commit's shape, and within the bounds on insertions
  pub segment : (device_slots : ℕ) → old.slots ≤ device_slots
      → IsSegment old.mode old.bits old.rules batch (on_device device_slots old.state) made
  -- the device is between commits before them, as the laws of commits and of their stages ask for it
  pub begins : (device_slots : ℕ) → old.slots ≤ device_slots
      → MayBegin old.mode old.bits old.rules batch (on_device device_slots old.state)
  -- from each state that they pass another manager can go on
  pub restarts : (device_slots : ℕ) → old.slots ≤ device_slots
      → CanRestart old.slots old.mode old.bits old.rules batch (on_device device_slots old.state) made
  -- its insertions are those of the placement, each with its aim
  pub placed : IsPlacedBy old.placement old.mode old.bits old.rules batch old.state made
  pub numbers : (device_slots : ℕ) → old.slots ≤ device_slots → AreCounts made (insertions (on_device device_slots old.state) made) counts
  -- of routes no insertion crosses others, and none takes more writes than a prefix may have lengths
  pub uncrossed : (device_slots : ℕ) → old.slots ≤ device_slots → (version : IpVersion)
      → AllByRecursion (IsRoute version) old.rules → OnlyChangesRoutes version batch
      → IsUncrossed (prefix_lengths version) (insertions (on_device device_slots old.state) made)
