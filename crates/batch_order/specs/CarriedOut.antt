-- What carries a commit under way to its end, and where it stops.
use Rattle.std.specs.Prelude.{◌≡◌, ℕ, ◌+◌, ◌*◌, ◌-◌, ◌^◌, ◌<◌, ◌≤◌, ◌++◌, min, IsTrue, IsSome, false, Result, Ok, Err, Option, Some, None, IfSome, List, [], length, take, drop, fold}
use Rattle.rule_model.specs.declared.Rule.{Rule}
use Rattle.tcam_device.specs.declared.Write.{Write}
use Rattle.tcam_device.specs.declared.Action.{Action}
use Rattle.tcam_device.specs.declared.Action.TheVariants.{Written, Drained}
use Rattle.tcam_device.specs.State.{apply, replay, state_after}
use Rattle.tcam_device.specs.Flight.{writes_in}
use Rattle.tcam_device.specs.Hitless.{ShowsOldOrNew}
use Rattle.tcam_device.specs.View.{DeviceView}
use Rattle.tcam_device.specs.Insertion.{is_table_write}
use Rattle.commit_writes.specs.declared.Done.{Done}
use Rattle.commit_writes.specs.Bits.{FieldBits}
use Rattle.batch_order.specs.declared.Unfinished.{Unfinished}
use Rattle.batch_order.specs.declared.Unfinished.TheVariants as unfinished
use Rattle.batch_order.specs.Managed.{Managed, HeldCommit, room_both_ways}
use Rattle.batch_order.specs.Managed.Way.{Back}
use Rattle.batch_order.specs.Steps.{awaits_drain, current_by, is_back, next_of, way_by}

-- the actions that are left to make, on or back
abbrev pub actions_left : Option HeldCommit → List Action
actions_left None = []
actions_left (Some held) = held.actions

-- and the writes
abbrev pub writes_left : Option HeldCommit → List Write
writes_left held = writes_in (actions_left held)

-- a device with so much room has it for them
abbrev pub HasRoomLeft : Option HeldCommit → ℕ → Type 0
HasRoomLeft held spare = IfSome held (λ one. length one.actions ≤ spare)

-- and also where the commit is turned round
abbrev pub HasRoomBothWays : Option HeldCommit → ℕ → Type 0
HasRoomBothWays held spare = IfSome held (λ one. room_both_ways one ≤ spare)

-- a commit under way, if there is one, isn't turned round
abbrev pub GoesForward : Option HeldCommit → Type 0
GoesForward held = IfSome held (λ one. is_back one.way ≡ false)

-- the rules that the commit under way leads to, if there is one, and else the manager's
abbrev pub ahead_of : Option HeldCommit → List Rule → List Rule
ahead_of None rules = rules
ahead_of (Some held) rules = held.rules

abbrev pub ahead : Managed → List Rule
ahead manager = ahead_of manager.held manager.rules

-- and their live ranges
abbrev pub bits_ahead : Option HeldCommit → FieldBits → FieldBits
bits_ahead None bits = bits
bits_ahead (Some held) bits = held.bits

-- the manager once the writes that are left were made and the commit under way, if there is one, has come to its end
abbrev pub finished_of : Option HeldCommit → Managed → Managed
finished_of held manager =
    record manager {
      rules = ahead_of held manager.rules;
      bits = bits_ahead held manager.bits;
      state = state_after manager.state (writes_left held);
      held = None;
    }

abbrev pub finished : Managed → Managed
finished manager = finished_of manager.held manager

-- the numbers of the commit under way, all 0 where there is none
abbrev pub done_of : Option HeldCommit → Done
done_of None = record { writes = 0; words = 0; most = 0; span = 0 }
done_of (Some held) = held.counts

-- The writes from one journal to a longer one: before them and after each of them each key is answered as the old rules
-- or the new ones do.
pub record IsServed (device_slots : ℕ) (before after : List Write) (old new : List Rule) : Type 0 where
  pub written : List Write
  pub since : after ≡ before ++ written
  pub during : (n : ℕ) → ShowsOldOrNew (state_after (replay device_slots before) (take n written)) old new

-- The manager after an action of the commit under way, on or back: on, what undoes a write is kept. With the drain the new
-- ranges count, and with a table word those before the commit.
abbrev pub acted_on : Managed → HeldCommit → Action → Managed
acted_on old held (Written write) =
    record old {
      state = apply old.state write;
      held = Some (record held { actions = drop 1 held.actions; way = way_by old.state write held.way; current = current_by old.bits held.current (is_table_write write) });
    }
acted_on old held Drained = record old { held = Some (record held { actions = drop 1 held.actions; current = held.during }) }

abbrev pub acted_by : Managed → Action → Managed
acted_by old action = elim old.held [ None ↦ old | Some held ↦ acted_on old held action ]

-- and after some actions
abbrev pub acted : Managed → List Action → Managed
acted old actions = fold acted_by old actions

-- What was made on the device and what is left of a commit are together what was left of it before. Each action took its
-- memory, and only failures may have come besides.
pub record HasCarried (old new : Option HeldCommit) (device_old device_new : DeviceView) : Type 0 where
  pub events : device_new.events ++ actions_left new ≡ device_old.events ++ actions_left old
  pub spare : device_new.spare + length (actions_left old) ≡ device_old.spare + length (actions_left new)
  pub flight : device_new.flight ≡ device_old.flight
  pub slots : device_new.slots ≡ device_old.slots

-- Some first part of the actions of the commit under way was made, forward or back, and the rest is held, with so many
-- writes in it.
pub record StopsAt (old new : Managed) (before after : List Write) (left : ℕ) : Type 0 where
  pub held : HeldCommit
  pub under_way : old.held ≡ Some held
  pub made : List Action
  pub rest : List Action
  pub parts : made ++ rest ≡ held.actions
  pub rest_is : actions_left new.held ≡ rest
  pub left_is : left ≡ length (writes_left new.held)
  pub new_is : new ≡ acted old made
  pub state_is : new.state ≡ state_after old.state (writes_in made)
  pub journal : after ≡ before ++ writes_in made

-- A commit that is turned round was taken back by so many undo writes: the rules are the old ones.
pub record Reverts (old new : Managed) (before after : List Write) (undone : ℕ) : Type 0 where
  pub held : HeldCommit
  pub under_way : old.held ≡ Some held
  pub turned : held.way ≡ Back undone
  pub new_is : new ≡ record old { state = state_after old.state (writes_in held.actions); held = None }
  pub journal : after ≡ before ++ writes_in held.actions

-- Why a commit hasn't finished: its next write failed, its drain waits for the words in flight, or it was taken back.
abbrev pub StopsBy : Managed → Managed → List Write → List Write → ℕ → Unfinished → Type 0
StopsBy old new before after words (unfinished.Stuck left) = StopsAt old new before after left × IsSome (next_of new.held)
StopsBy old new before after words (unfinished.Waiting waiting left) =
    StopsAt old new before after left × IsTrue (awaits_drain new.held) × (waiting ≡ words) × (0 < words)
StopsBy old new before after words (unfinished.Reverted undone) = Reverts old new before after undone

-- a write failed
abbrev pub IsStuckBy : Result Done Unfinished → Type 0
IsStuckBy (Ok done) = ⊥
IsStuckBy (Err (unfinished.Stuck left)) = Unit {0}
IsStuckBy (Err (unfinished.Waiting waiting left)) = ⊥
IsStuckBy (Err (unfinished.Reverted undone)) = ⊥

-- A count of failures after so many writes were made, each tried up to so many times: where a write came to no end it rose
-- by each try of that write, or stands at its last value, and by at most the tries but one for each write that was made.
pub record IsTried (tries made : ℕ) (Stuck : Type 0) (before now : ℕ) : Type 0 where
  pub later : before ≤ now
  pub most : ¬ Stuck → now ≤ before + made * (tries - 1)
  pub most_stuck : now ≤ before + made * (tries - 1) + tries
  pub failed : Stuck → min (before + tries) (2 ^ 64 - 1) ≤ now
