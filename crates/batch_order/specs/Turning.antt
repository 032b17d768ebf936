-- What a manager keeps of a commit under way, so that it can be taken back and words in flight stay current.
use Rattle.std.specs.Prelude.{◌≡◌, ℕ, Bool, true, false, Some, None, IfSome, List, [], ◌∷◌}
use Rattle.tcam_device.specs.declared.Write.{Write}
use Rattle.tcam_device.specs.State.{State, state_after}
use Rattle.tcam_device.specs.Flight.{writes_in}
use Rattle.tcam_device.specs.Insertion.{is_table_write}
use Rattle.commit_writes.specs.Bits.{FieldBits}
use Rattle.tcam_device.specs.declared.Action.{Action}
use Rattle.tcam_device.specs.declared.Action.TheVariants.{Written, Drained}
use Rattle.commit_writes.specs.InFlight.{ArePartOf}
use Rattle.batch_order.specs.declared.Step.{Step}
use Rattle.batch_order.specs.declared.Step.TheVariants.{Reverted}
use Rattle.batch_order.specs.Managed.{Managed, HeldCommit, Way}
use Rattle.batch_order.specs.Managed.Way.{On, Back}
use Rattle.batch_order.specs.Steps.{Steps, KeepsCurrent, current_by, is_back}

-- whether a drain is among some actions
abbrev pub has_drain : List Action → Bool
has_drain [] = false
has_drain (Written write ∷ actions) = has_drain actions
has_drain (Drained ∷ actions) = true

-- whether a word of a table is among some actions
abbrev pub has_word : List Action → Bool
has_word [] = false
has_word (Written write ∷ actions) = elim (is_table_write write) [ true ↦ true | false ↦ has_word actions ]
has_word (Drained ∷ actions) = has_word actions

-- The ranges that words in flight are current for lie between those before the commit and those that are live while it is made;
-- what is left when it has finished is a part of these.
pub record IsCurrentRight (before : FieldBits) (held : HeldCommit) : Type 0 where
  pub meanwhile : ArePartOf before held.during
  pub left : ArePartOf held.bits held.during
  pub least : ArePartOf before held.current
  -- on the way on they are those before it while a word of a table is to come, and those meanwhile once no drain is to come
  pub words : is_back held.way ≡ false → has_word held.actions ≡ true → held.current ≡ before
  pub drained : is_back held.way ≡ false → has_drain held.actions ≡ false → ArePartOf held.during held.current
  -- and on the way back no drain is
  pub undrained : is_back held.way ≡ true → has_drain held.actions ≡ false

-- of a commit under way, if there is one
abbrev pub IsHeldRight : Managed → Type 0
IsHeldRight manager = IfSome manager.held (λ held. IsCurrentRight manager.bits held)

-- the undo writes that a commit keeps, or on the way back those that are to come
abbrev pub undo_in : List Action → Way → List Write
undo_in actions (On undo) = undo
undo_in actions (Back undone) = writes_in actions

abbrev pub undo_of : HeldCommit → List Write
undo_of held = undo_in held.actions held.way

-- where they lead to: the state in which the commit began, all the way
abbrev pub begun_in : Managed → State
begun_in manager = elim manager.held [ None ↦ manager.state | Some held ↦ state_after manager.state (undo_of held) ]

-- A step leaves words current unless it drains.
abbrev pub StepsKeepCurrent : Type 0
StepsKeepCurrent =
    (old : Managed) (words : ℕ) (made : Step) (new : Managed) → IsHeldRight old → Steps old words old.held made new → KeepsCurrent old made new

-- On the way on a write leaves the ranges that words in flight are current for as they are: with a word of a table they are those
-- before the commit already.
abbrev pub WritesLeaveCurrent : Type 0
WritesLeaveCurrent =
    (before : FieldBits) (held : HeldCommit) (write : Write) (rest : List Action) → IsCurrentRight before held → is_back held.way ≡ false
    → held.actions ≡ Written write ∷ rest → current_by before held.current (is_table_write write) ≡ held.current

-- the commit is still under way
abbrev pub IsStillUnderWay : Managed → Type 0
IsStillUnderWay manager = (held : HeldCommit) × (manager.held ≡ Some held)

-- A step of a commit that doesn't end it keeps the way back; where it ends one that was turned round, the device holds what it
-- did before it.
abbrev pub StepsKeepTheWayBack : Type 0
StepsKeepTheWayBack =
    (old : Managed) (words : ℕ) (made : Step) (new : Managed) → IsStillUnderWay old → Steps old words old.held made new → IsStillUnderWay new
    → begun_in new ≡ begun_in old

abbrev pub RevertsToTheOldState : Type 0
RevertsToTheOldState =
    (old : Managed) (words undone : ℕ) (new : Managed) → Steps old words old.held (Reverted undone) new
    → (new.state ≡ begun_in old) × (new.rules ≡ old.rules) × (new.bits ≡ old.bits) × (new.held ≡ None)
