-- What is next of a commit under way.
use Rattle.std.specs.Prelude.{◌≡◌, ℕ, ◌≤◌, Option, Some, None, List, [], ◌∷◌, drop, take, slice_get}
use Rattle.tcam_device.specs.declared.Write.{Write}
use Rattle.tcam_device.specs.State.{IsInUse}
use Rattle.commit_writes.specs.Undo.{restoring}
use Rattle.batch_order.specs.CarriedOut.{ahead}
use Rattle.batch_order.specs.Steps.{next_of}
use Rattle.split_device.specs.State.{SplitState, split_after, split_apply}
use Rattle.split_device.specs.declared.SplitAction.{SplitAction}
use Rattle.split_device.specs.declared.SplitAction.TheVariants.{Written, Drained}
use Rattle.split_device.specs.Flight.{state_of_events, written}
use Rattle.split_device.specs.Hitless.{ShowsEither}
use Rattle.split_order.specs.declared.due.DuePart.{DuePart}
use Rattle.split_order.specs.declared.steps.Next.{Next}
use Rattle.split_order.specs.declared.steps.Next.TheVariants as next
use Rattle.split_order.specs.Due.{due_parts, standing_by}
use Rattle.split_order.specs.Managed.{SplitManaged}
use Rattle.split_order.specs.Left.{ServesSplit, left_of, state_on}

-- the part of the write that is due that isn't made yet, whether a drain comes before it or not
abbrev pub IsPartDue : SplitManaged → Option DuePart → Type 0
IsPartDue manager None = next_of manager.whole.held ≡ None
IsPartDue manager (Some due) =
    (write : Write) × (next_of manager.whole.held ≡ Some write) × IsInUse manager.whole.slots write
    × (slice_get (due_parts (standing_by (Some (restoring manager.whole.state write))) write) manager.made ≡ Some due)

-- on each device with the slots in use or more this is the first of what is left
abbrev pub IsFirstLeft : SplitManaged → SplitAction → Type 0
IsFirstLeft manager action = (slots : ℕ) → manager.whole.slots ≤ slots → left_of slots manager ≡ action ∷ drop 1 (left_of slots manager)

-- what is next
abbrev pub IsNext : SplitManaged → Next → Type 0
IsNext manager next.Nothing = (slots : ℕ) → manager.whole.slots ≤ slots → left_of slots manager ≡ []
IsNext manager next.Drain = IsFirstLeft manager Drained
IsNext manager (next.Part due) = IsPartDue manager (Some due) × IsFirstLeft manager (Written due.part)

-- the device serves each key also where the part that is next was made already
abbrev pub ServesAhead : List SplitAction → SplitState → SplitManaged → Type 0
ServesAhead [] state manager = Unit {0}
ServesAhead (Written part ∷ left) state manager = ServesSplit (split_apply state part) manager
ServesAhead (Drained ∷ left) state manager = Unit {0}

-- A device of so many slots with these events is led by the manager: nothing but its parts and drains was made of it. It serves
-- each key, and so it does where the part that is next was made already.
pub record LeadsDevice (slots : ℕ) (events : List SplitAction) (manager : SplitManaged) : Type 0 where
  pub on : events ≡ manager.events
  pub serves : ServesSplit (state_of_events slots events) manager
  pub serves_next : ServesAhead (left_of slots manager) (state_of_events slots events) manager

-- on its way each key is answered as the old rules or the new ones do: now, and after each part that is left
abbrev pub ShowsOnWay : ℕ → SplitManaged → Type 0
ShowsOnWay slots manager =
    (n : ℕ) → ShowsEither manager.whole.rules (ahead manager.whole) (split_after (state_on slots manager) (take n (written (left_of slots manager))))
