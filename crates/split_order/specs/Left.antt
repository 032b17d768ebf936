-- What a manager has still to make of a device of so many slots, and in which state.
use Rattle.std.specs.Prelude.{ℕ, Option, Some, None, List, [], ◌∷◌, ◌++◌, drop}
use Rattle.tcam_device.specs.State.{State}
use Rattle.tcam_device.specs.declared.Action.{Action}
use Rattle.tcam_device.specs.declared.Action.TheVariants.{Written, Drained}
use Rattle.batch_order.specs.Managed.{HeldCommit, Serves}
use Rattle.split_device.specs.State.{SplitState, undivided, split_after}
use Rattle.split_device.specs.declared.SplitWrite.{SplitWrite}
use Rattle.split_device.specs.declared.SplitAction.{SplitAction}
use Rattle.split_device.specs.Drains.{SinceDrain, nothing_since, since_all, with_drains}
use Rattle.split_device.specs.Flight.{state_of_events}
use Rattle.split_writes.specs.Parts.{write_parts, made_of}
use Rattle.split_order.specs.Managed.{SplitManaged}

-- the state that its writes left
abbrev pub state_on : ℕ → SplitManaged → SplitState
state_on slots manager = state_of_events slots manager.events

-- and what was done since the last drain
abbrev pub since_of : SplitManaged → SinceDrain
since_of manager = since_all nothing_since manager.events

-- these parts, each with a drain before it where one is due, and then what is made of these actions
abbrev pub made_behind : SplitState → SinceDrain → List SplitWrite → List Action → List SplitAction
made_behind state since parts actions =
    with_drains state since parts ++ made_of (split_after state parts) (since_all since (with_drains state since parts)) actions

-- What is left of some actions, where the planner stands in this state and so many parts of the first write were made.
abbrev pub left_from : SplitState → SinceDrain → State → ℕ → List Action → List SplitAction
left_from state since whole made [] = []
left_from state since whole made (Written write ∷ actions) = made_behind state since (drop made (write_parts whole write)) actions
left_from state since whole made (Drained ∷ actions) = made_of state since (Drained ∷ actions)

abbrev pub left_of_held : SplitState → SinceDrain → State → ℕ → Option HeldCommit → List SplitAction
left_of_held state since whole made None = []
left_of_held state since whole made (Some held) = left_from state since whole made held.actions

-- what is left of the commit under way, nothing where there is none
abbrev pub left_of : ℕ → SplitManaged → List SplitAction
left_of slots manager = left_of_held (state_on slots manager) (since_of manager) manager.whole.state manager.made manager.whole.held

-- each key is answered as the rules do, and while a commit is under way as the old ones or the new ones do
abbrev pub ServesSplit : SplitState → SplitManaged → Type 0
ServesSplit state manager = Serves (undivided state) manager.whole.rules manager.whole.held
