-- What stands behind a handle of a memory of whole entries, and what its calls do.
use Rattle.std.specs.Prelude.{◌≡◌, ◌≢◌, ℕ, ◌<◌, ◌≤◌, ◌++◌, ◌∷◌, [], Bool, true, false, Result, Ok, Err, Option, Some, None, List, length}
use Rattle.slot_order.specs.Order.{slot}
use Rattle.rule_model.specs.declared.words.Entry.{Entry}
use Rattle.rule_store.specs.declared.Command.{Command}
use Rattle.rule_store.specs.declared.Mode.{Mode}
use Rattle.tcam_device.specs.declared.Write.{Write}
use Rattle.tcam_device.specs.declared.Write.TheVariants.{Slot, Table}
use Rattle.tcam_device.specs.declared.Action.{Action}
use Rattle.tcam_device.specs.declared.Action.TheVariants.{Written, Drained}
use Rattle.tcam_device.specs.State.{State, apply, replay}
use Rattle.tcam_device.specs.Insertion.{is_table_write}
use Rattle.tcam_device.specs.Flight.{Flight, writes_in}
use Rattle.commit_writes.specs.InFlight.{ArePartOf}
use Rattle.commit_writes.specs.declared.Done.{Done}
use Rattle.batch_order.specs.Managed.{Managed, HeldCommit, Holds, IsOn, Serves, Way, fresh, live_now}
use Rattle.batch_order.specs.Managed.Way.{On, Back}
use Rattle.batch_order.specs.declared.AbortFault.{AbortFault}
use Rattle.batch_order.specs.declared.AbortFault.TheVariants as abort_fault
use Rattle.batch_order.specs.declared.Placement.{Placement}
use Rattle.batch_order.specs.Steps.{Aborts, current_by, left_by, going_back, way_by}
use Rattle.batch_order.specs.Passed.{WayBackFrom}
use Rattle.batch_order.specs.CarriedOut.{HasRoomBothWays}
use Rattle.tcam_c.specs.declared.steps.DueKind.{DueKind}
use Rattle.tcam_c.specs.declared.steps.DueKind.TheVariants as kind

-- a manager, and what was made of its memory since that was blank
pub record Driven : Type 0 where
  pub manager : Managed
  pub events : List Action

-- the writes that were made
abbrev pub journal_of : Driven → List Write
journal_of driven = writes_in driven.events

-- a manager without rules, of a blank memory
abbrev pub fresh_driven : ℕ → Mode → Placement → Driven
fresh_driven slots mode placement = record { manager = fresh slots mode placement; events = [] }

-- The writes that were made leave what the manager takes the memory to hold, and each key is answered as the rules do, and
-- while a commit is under way as the old ones or the new ones do.
abbrev pub IsServing : Driven → Type 0
IsServing driven =
    IsOn driven.manager.slots (journal_of driven) driven.manager
    × Serves (replay driven.manager.slots (journal_of driven)) driven.manager.rules driven.manager.held

-- and so it is where the write that is due was made already
abbrev pub IsServingAhead : Driven → Option Action → Type 0
IsServingAhead driven None = Unit {0}
IsServingAhead driven (Some Drained) = Unit {0}
IsServingAhead driven (Some (Written write)) =
    Serves (apply (replay driven.manager.slots (journal_of driven)) write) driven.manager.rules driven.manager.held

-- a commit under way has a write or a drain left, forward or back
abbrev pub HasDue : Option HeldCommit → Type 0
HasDue None = Unit {0}
HasDue (Some held) = 1 ≤ length held.actions

-- The memory has the manager's slots, what was made is the manager's, there is room for those that are left and to take back
-- those that were made, and no word is in flight, since the caller says that it drained and a drain never waits here. Between
-- two calls a commit under way has something left.
pub record IsHandled (manager : Managed) (slots : ℕ) (events : List Action) (flight : Flight) (spare : ℕ) : Type 0 where
  pub same_slots : slots ≡ manager.slots
  pub on : IsOn manager.slots (writes_in events) manager
  pub room : HasRoomBothWays manager.held spare
  pub still : flight ≡ []
  pub due : HasDue manager.held

-- the first of some actions
abbrev pub first_action : List Action → Option Action
first_action [] = None
first_action (action ∷ actions) = Some action

-- What is due: a write or a drain. Of a commit that is turned round it is an undo write, and never a drain.
abbrev pub due_of : Option HeldCommit → Option Action
due_of None = None
due_of (Some held) = first_action held.actions

-- no slot before this one holds the entry
abbrev pub StandsNotBefore : List (Option Entry) → Entry → ℕ → Type 0
StandsNotBefore slots entry place = (k : ℕ) → k < place → slot slots k ≢ Some entry

-- the least of so many slots that holds the entry, whole, or none where none does
abbrev pub IsLeastHolder : List (Option Entry) → ℕ → Entry → Option ℕ → Type 0
IsLeastHolder slots count entry None = StandsNotBefore slots entry count
IsLeastHolder slots count entry (Some from) = (from < count) × (slot slots from ≡ Some entry) × StandsNotBefore slots entry from

-- Where what is due comes from: an entry from the least slot that holds it now, before the write. Nothing else comes from a slot,
-- nor does an entry that none holds, a new one or one that gets a new result.
abbrev pub ComesFrom : Driven → Option Action → Option ℕ → Type 0
ComesFrom driven None from = from ≡ None
ComesFrom driven (Some Drained) from = from ≡ None
ComesFrom driven (Some (Written (Table field port word))) from = from ≡ None
ComesFrom driven (Some (Written (Slot place None))) from = from ≡ None
ComesFrom driven (Some (Written (Slot place (Some entry)))) from =
    IsLeastHolder (replay driven.manager.slots (journal_of driven)).slots driven.manager.slots entry from

-- what kind of thing that is
abbrev pub kind_of_due : Option Action → DueKind
kind_of_due None = kind.Nothing
kind_of_due (Some (Written write)) = kind.Write
kind_of_due (Some Drained) = kind.Drain

-- something is due
abbrev pub IsDue : DueKind → Type 0
IsDue kind.Nothing = ⊥
IsDue kind.Write = Unit {0}
IsDue kind.Drain = Unit {0}

-- what is due, if anything is
abbrev pub due_actions : Option Action → List Action
due_actions None = []
due_actions (Some action) = action ∷ []

-- a manager whose commit under way, if it has nothing left, has come to its end
abbrev pub settled_by : List Action → HeldCommit → Managed → Managed
settled_by [] held manager = left_by manager held held.way
settled_by (action ∷ actions) held manager = manager

abbrev pub settled_of : Option HeldCommit → Managed → Managed
settled_of None manager = manager
settled_of (Some held) manager = settled_by held.actions held manager

abbrev pub settled : Managed → Managed
settled manager = settled_of manager.held manager

-- A batch was taken: it is planned as the manager's call says, and a plan with nothing to make has finished.
pub record Plans (old : Managed) (batch : List Command) (counts : Done) (new : Managed) : Type 0 where
  pub planned : Managed
  pub holds : Holds old batch counts planned
  pub settled_is : new ≡ settled planned
  pub way_back : WayBackFrom old.state new

pub record Prepares (old : Driven) (batch : List Command) (counts : Done) (new : Driven) : Type 0 where
  pub plans : Plans old.manager batch counts new.manager
  pub events : new.events ≡ old.events

-- The manager after what is due was made, forward or back: a write is applied, and forward what undoes it kept; with a word of a
-- table the ranges before the commit count, and from a drain on the new ones; and where nothing is left it has come to its end.
abbrev pub stepped_on : List Action → HeldCommit → Managed → Managed
stepped_on [] held manager = left_by manager held held.way
stepped_on (Written write ∷ actions) held manager =
    record manager {
      state = apply manager.state write;
      held = Some (record held {
        actions = actions;
        way = way_by manager.state write held.way;
        current = current_by manager.bits held.current (is_table_write write);
      });
    }
stepped_on (Drained ∷ actions) held manager =
    record manager { held = Some (record held { actions = actions; current = held.during }) }

abbrev pub stepped_of : Option HeldCommit → Managed → Managed
stepped_of None manager = manager
stepped_of (Some held) manager = stepped_on held.actions held manager

-- and behind the last one the rules are the new set, or the old one where the commit was turned round
abbrev pub passed_of : Option HeldCommit → Managed → Managed
passed_of held manager = settled (stepped_of held manager)

-- nothing is due exactly where no commit is under way
abbrev pub IsEnded : Option HeldCommit → Option Action → Type 0
IsEnded None due = due ≡ None
IsEnded (Some held) due = ¬ (due ≡ None)

-- words that are current in look-ups under way are so still
abbrev pub KeepsLive : Managed → Managed → Type 0
KeepsLive old new = ArePartOf (live_now new) (live_now old)

-- unless the drain was made
abbrev pub KeepsWords : Option Action → Managed → Managed → Type 0
KeepsWords None old new = KeepsLive old new
KeepsWords (Some (Written write)) old new = KeepsLive old new
KeepsWords (Some Drained) old new = Unit {0}

-- What undoes the writes of the commit under way is kept. That taking it back passes no state that the commit didn't pass, and
-- ends where it began, follows for each manager (`ways_back_go_back` of `batch_order`).
abbrev pub KeepsWayBack : Managed → Managed → Type 0
KeepsWayBack old new = (begun : State) → WayBackFrom begun old → WayBackFrom begun new

-- what telling does that the write or the drain which is due was made
pub record PassesOn (old new : Driven) : Type 0 where
  pub manager : new.manager ≡ passed_of old.manager.held old.manager
  pub events : new.events ≡ old.events ++ due_actions (due_of old.manager.held)
  pub keeps : KeepsWords (due_of old.manager.held) old.manager new.manager
  pub back : KeepsWayBack old.manager new.manager

-- The manager's call turned the commit under way round, if it could, and where nothing is to be undone it is over.
pub record TakesBack (old : Managed) (answer : Result ℕ AbortFault) (new : Managed) : Type 0 where
  pub turned : Managed
  pub aborts : Aborts old old.held answer turned
  pub settled_is : new ≡ settled turned

-- The commit under way, this one, was turned round: these undo writes are due from now on, in their order. Where none was made
-- it is over.
abbrev pub turned_round : HeldCommit → List Write → Managed → Managed
turned_round held undo manager = settled (record manager { held = Some (going_back held undo) })

-- Nothing else changes, and words stay current.
pub record AbortsTo (held : HeldCommit) (undo : List Write) (old new : Driven) : Type 0 where
  pub manager : new.manager ≡ turned_round held undo old.manager
  pub events : new.events ≡ old.events
  pub keeps : KeepsLive old.manager new.manager
  pub back : KeepsWayBack old.manager new.manager

-- A commit under way is turned round, with so many undo writes to make. One that is turned round already stays as it is, with
-- those that are left; and so does one that a restart goes on with. With none under way there is nothing to turn.
abbrev pub AbortsByWay : Way → HeldCommit → Driven → Result ℕ AbortFault → Driven → Type 0
AbortsByWay (On undo) held before answer after = (answer ≡ Ok (length undo)) × AbortsTo held undo before after
AbortsByWay (Back undone) held before answer after = (answer ≡ Err (abort_fault.Back (length (writes_in held.actions)))) × (after ≡ before)

abbrev pub AbortsPrepared : Bool → HeldCommit → Driven → Result ℕ AbortFault → Driven → Type 0
AbortsPrepared true held before answer after = AbortsByWay held.way held before answer after
AbortsPrepared false held before answer after = (answer ≡ Err abort_fault.Restarted) × (after ≡ before)

abbrev pub AbortsHeld : Driven → Option HeldCommit → Result ℕ AbortFault → Driven → Type 0
AbortsHeld before None answer after = (answer ≡ Err abort_fault.Idle) × (after ≡ before)
AbortsHeld before (Some held) answer after = AbortsPrepared held.prepared held before answer after
