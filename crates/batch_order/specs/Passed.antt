-- The states that a commit passes when it is taken back are those that it passed before.
use Rattle.std.specs.Prelude.{◌≡◌, ℕ, ◌≤◌, IfSome, List, length, take}
use Rattle.tcam_device.specs.declared.Write.{Write}
use Rattle.tcam_device.specs.State.{State, state_after}
use Rattle.commit_writes.specs.Undo.{undo_writes}
use Rattle.batch_order.specs.declared.Step.{Step}
use Rattle.batch_order.specs.Managed.{Managed}
use Rattle.batch_order.specs.Steps.{Steps}
use Rattle.batch_order.specs.Turning.{undo_of}

-- some writes led from the state in which a commit began to this one, and these undo them
pub record HasWayBack (begun state : State) (undo : List Write) : Type 0 where
  pub made : List Write
  pub state_is : state ≡ state_after begun made
  pub undo_is : undo ≡ undo_writes begun made

-- the commit under way, if there is one, has its way back
abbrev pub WayBackFrom : State → Managed → Type 0
WayBackFrom begun manager = IfSome manager.held (λ held. HasWayBack begun manager.state (undo_of held))

-- after so many undo writes the device is where some first of the commit's writes had left it
abbrev pub PassesBack : State → State → List Write → ℕ → Type 0
PassesBack begun state undo n =
    (made : List Write) × (m : ℕ) × (state ≡ state_after begun made) × (state_after state (take n undo) ≡ state_after begun (take m made))

-- a step keeps the way back,
abbrev pub StepsKeepWayBack : Type 0
StepsKeepWayBack =
    (begun : State) (old : Managed) (words : ℕ) (made : Step) (new : Managed) → WayBackFrom begun old → Steps old words old.held made new
    → WayBackFrom begun new

-- and going back passes no state that wasn't passed before.
abbrev pub GoesBackThroughStates : Type 0
GoesBackThroughStates =
    (begun state : State) (undo : List Write) → HasWayBack begun state undo → (n : ℕ) → n ≤ length undo → PassesBack begun state undo n

-- Going back passes no state that the commit didn't pass before, and ends where it began.
pub record GoesBack (begun state : State) (undo : List Write) : Type 0 where
  pub passes : (n : ℕ) → n ≤ length undo → PassesBack begun state undo n
  pub ends : state_after state undo ≡ begun

-- so the way back of the commit under way does, if there is one
abbrev pub GoesBackFrom : State → Managed → Type 0
GoesBackFrom begun manager = IfSome manager.held (λ held. GoesBack begun manager.state (undo_of held))
