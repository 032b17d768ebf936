-- What stands behind a handle of a memory whose results stand beside its slots, and what its calls do. What was made of the
-- memory since that was blank the manager has.
use Rattle.std.specs.Prelude.{◌≡◌, ℕ, ◌≤◌, Bool, true, false, Option, Some, None, IsSome, List, [], ◌∷◌, length, slice_get}
use Rattle.rule_store.specs.declared.Command.{Command}
use Rattle.commit_writes.specs.InFlight.{ServesLive}
use Rattle.batch_order.specs.Managed.{HeldCommit, live_now}
use Rattle.split_device.specs.State.{undivided}
use Rattle.split_device.specs.Flight.{Flight, no_flight}
use Rattle.split_device.specs.Drains.{AreTimely}
use Rattle.split_device.specs.declared.SplitAction.{SplitAction}
use Rattle.split_device.specs.declared.SplitAction.TheVariants.{Written, Drained}
use Rattle.split_writes.specs.declared.SplitDone.{SplitDone}
use Rattle.split_order.specs.Managed.{SplitManaged}
use Rattle.split_order.specs.Left.{ServesSplit, left_of, since_of, state_on}
use Rattle.split_order.specs.Next.{ServesAhead}
use Rattle.split_order.specs.Prepared.{HoldsSplit}
use Rattle.split_order.specs.Steps.{Advances, dropped, ended_split}
use Rattle.tcam_c.specs.Driven.{KeepsLive}
use Rattle.tcam_c.specs.declared.split.Cancelled.{Cancelled}
use Rattle.tcam_c.specs.declared.split.Cancelled.TheVariants as cancelled
use Rattle.tcam_c.specs.declared.steps.DueKind.{DueKind}
use Rattle.tcam_c.specs.declared.steps.DueKind.TheVariants as kind

-- the parts and drains that are left of the commit under way, with a drain before each part for which one is due
abbrev pub parts_left : SplitManaged → List SplitAction
parts_left manager = left_of manager.whole.slots manager

-- what is due: a part or a drain
abbrev pub part_due : SplitManaged → Option SplitAction
part_due manager = slice_get (parts_left manager) 0

-- what kind of thing that is
abbrev pub kind_of_part : Option SplitAction → DueKind
kind_of_part None = kind.Nothing
kind_of_part (Some (Written part)) = kind.Write
kind_of_part (Some Drained) = kind.Drain

-- The memory has the manager's slots, what was made of it is the manager's, there is room for what is left, and nothing is in
-- flight, since the caller says that it drained and a drain never waits here.
pub record IsUnsettled (manager : SplitManaged) (slots : ℕ) (events : List SplitAction) (flight : Flight) (spare : ℕ) : Type 0 where
  pub same_slots : slots ≡ manager.whole.slots
  pub events_are : events ≡ manager.events
  pub room : length (parts_left manager) ≤ spare
  pub still : flight ≡ no_flight

-- Between two calls a commit under way has something left.
pub record IsSplitHandled (manager : SplitManaged) (slots : ℕ) (events : List SplitAction) (flight : Flight) (spare : ℕ) : Type 0 where
  pub unsettled : IsUnsettled manager slots events flight spare
  pub due : IsSome manager.whole.held → 1 ≤ length (parts_left manager)

-- a manager whose commit under way, if it has nothing left, has come to its end
abbrev pub settled_split_by : List SplitAction → Option HeldCommit → SplitManaged → SplitManaged
settled_split_by [] None manager = manager
settled_split_by [] (Some held) manager = ended_split manager held
settled_split_by (action ∷ left) held manager = manager

abbrev pub settled_split : SplitManaged → SplitManaged
settled_split manager = settled_split_by (parts_left manager) manager.whole.held manager

-- Each key is answered as the rules do, and while a commit is under way as the old ones or the new ones do, by the parts that
-- were made.
abbrev pub IsServingSplit : SplitManaged → Type 0
IsServingSplit manager = ServesSplit (state_on manager.whole.slots manager) manager

-- What is known between any two parts: each key is answered so even where the part that is due was made already; the memory
-- serves the ranges that the words of look-ups under way are current for; and each part that is left stands in its time, so no
-- look-up that has found its slot reads a result word of another entry.
pub record ServesOn (manager : SplitManaged) : Type 0 where
  pub serves : IsServingSplit manager
  pub ahead : ServesAhead (parts_left manager) (state_on manager.whole.slots manager) manager
  pub live : ServesLive (live_now manager.whole) (undivided (state_on manager.whole.slots manager))
  pub timely : AreTimely (state_on manager.whole.slots manager) (since_of manager) (parts_left manager)

-- nothing is due exactly where no commit is under way
abbrev pub IsSplitEnded : Option HeldCommit → Option SplitAction → Type 0
IsSplitEnded None due = due ≡ None
IsSplitEnded (Some held) due = ¬ (due ≡ None)

-- words that are current in look-ups under way are so still, unless the drain was made
abbrev pub KeepsSplitWords : SplitAction → SplitManaged → SplitManaged → Type 0
KeepsSplitWords (Written part) old new = KeepsLive old.whole new.whole
KeepsSplitWords Drained old new = Unit {0}

-- A batch was taken: it is planned as the manager's call says, and a plan with nothing to make has finished.
pub record PlansParts (old : SplitManaged) (batch : List Command) (counts : SplitDone) (new : SplitManaged) : Type 0 where
  pub planned : SplitManaged
  pub holds : HoldsSplit old batch counts planned
  pub settled_is : new ≡ settled_split planned

-- what a step does where this is left: it makes the first of it, or ends the commit under way
abbrev pub PassesTo : List SplitAction → SplitManaged → SplitManaged → Type 0
PassesTo [] old new = (new ≡ settled_split_by [] old.whole.held old) × KeepsLive old.whole new.whole
PassesTo (action ∷ left) old new = Advances old.whole.slots action old new × KeepsSplitWords action old new

-- What telling does that this part or drain was made, which was due: it is the first of what was left, and where nothing is
-- left behind it the commit has finished.
pub record PassesPart (action : SplitAction) (old new : SplitManaged) : Type 0 where
  pub passed : SplitManaged
  pub advances : Advances old.whole.slots action old passed
  pub settled_is : new ≡ settled_split passed
  pub keeps : KeepsSplitWords action old new

abbrev pub PassesDue : Option SplitAction → SplitManaged → SplitManaged → Type 0
PassesDue None old new = ⊥
PassesDue (Some action) old new = PassesPart action old new

-- A plan is dropped of which no part and no drain was made. One that is begun stays, and with none under way there is nothing
-- to drop.
abbrev pub CancelsHeld : Option HeldCommit → Bool → SplitManaged → Cancelled → SplitManaged → Type 0
CancelsHeld None begun old answer new = (answer ≡ cancelled.Idle) × (new ≡ old)
CancelsHeld (Some held) true old answer new = (answer ≡ cancelled.Begun) × (new ≡ old)
CancelsHeld (Some held) false old answer new = (answer ≡ cancelled.Dropped) × (new ≡ dropped true old)

abbrev pub cancelled_by : Bool → Bool → Cancelled
cancelled_by true under_way = cancelled.Dropped
cancelled_by false true = cancelled.Begun
cancelled_by false false = cancelled.Idle

abbrev pub Cancels : SplitManaged → Cancelled → SplitManaged → Type 0
Cancels old answer new = CancelsHeld old.whole.held old.begun old answer new
