-- What a commit under way keeps from action to action: all that making them needs, on or back, and turning it round.
use Rattle.std.specs.Prelude.{◌≡◌, ℕ, ◌≤◌, true, false, IfSome, IsTrue, List, [], ◌∷◌, map}
use Rattle.std.specs.List.{AllByRecursion}
use Rattle.rule_model.specs.declared.Rule.{Rule}
use Rattle.tcam_device.specs.declared.Write.{Write}
use Rattle.tcam_device.specs.declared.Action.{Action}
use Rattle.tcam_device.specs.declared.Action.TheVariants.{Written, Drained}
use Rattle.tcam_device.specs.State.{State, apply, on_device}
use Rattle.tcam_device.specs.Hitless.{ShowsOldOrNew}
use Rattle.tcam_device.specs.Insertion.{is_table_write}
use Rattle.commit_writes.specs.Bits.{FieldBits}
use Rattle.commit_writes.specs.InFlight.{ServesLive}
use Rattle.batch_order.specs.Managed.{HeldCommit, Managed, Way}
use Rattle.batch_order.specs.Managed.Way.{On, Back}
use Rattle.batch_order.specs.Steps.{current_by}
use Rattle.batch_order.specs.Turning.{IsCurrentRight, has_drain, has_word}

-- what stays the same of it, on and back: the slots in use, both sets, and the ranges that are live before it and meanwhile
pub record Around : Type 0 where
  pub slots : ℕ
  pub rules : List Rule
  pub other : List Rule
  pub before : FieldBits
  pub during : FieldBits

abbrev pub around : ℕ → List Rule → FieldBits → HeldCommit → Around
around slots rules before held = record { slots = slots; rules = rules; other = held.rules; before = before; during = held.during }

-- on each device that is wide enough each key has the answer of one set or the other, and the ranges are served that words in
-- flight are current for
pub record Stands (all : Around) (current : FieldBits) (state : State) : Type 0 where
  pub shows : (device_slots : ℕ) → all.slots ≤ device_slots → ShowsOldOrNew (on_device device_slots state) all.rules all.other
  pub serves : (device_slots : ℕ) → all.slots ≤ device_slots → ServesLive current (on_device device_slots state)

-- so it is before each of some actions and behind the last one
abbrev pub GoesOn : Around → FieldBits → State → List Action → Type 0
GoesOn all current state [] = Stands all current state
GoesOn all current state (Written write ∷ actions) =
    Stands all current state × GoesOn all (current_by all.before current (is_table_write write)) (apply state write) actions
GoesOn all current state (Drained ∷ actions) = Stands all current state × GoesOn all all.during state actions

-- some writes are words of the tables
abbrev pub AreWords : List Write → Type 0
AreWords writes = AllByRecursion (λ write. IsTrue (is_table_write write)) writes

-- before a drain come words alone, and none behind it
abbrev pub AreInOrder : List Action → Type 0
AreInOrder [] = Unit {0}
AreInOrder (Written write ∷ actions) = (has_drain actions ≡ true → is_table_write write ≡ true) × AreInOrder actions
AreInOrder (Drained ∷ actions) = (has_drain actions ≡ false) × (has_word actions ≡ false) × AreInOrder actions

-- What turning it round needs on the way on: its undo writes go on from here, and before a drain they are words alone.
pub record CanTurn (all : Around) (current : FieldBits) (state : State) (actions : List Action) (undo : List Write) : Type 0 where
  pub returns : GoesOn all current state (map Written undo)
  pub in_order : AreInOrder actions
  pub words : has_drain actions ≡ true → AreWords undo

abbrev pub CanTurnIf : Around → FieldBits → State → List Action → Way → Type 0
CanTurnIf all current state actions (On undo) = CanTurn all current state actions undo
CanTurnIf all current state actions (Back undone) = Unit {0}

-- A commit under way from here on. Of one that is turned round no drain is due, which `right` says.
pub record IsGoing (slots : ℕ) (rules : List Rule) (before : FieldBits) (state : State) (held : HeldCommit) : Type 0 where
  pub right : IsCurrentRight before held
  pub goes : GoesOn (around slots rules before held) held.current state held.actions
  pub turns : CanTurnIf (around slots rules before held) held.current state held.actions held.way

-- the commit that a manager has under way, if there is one
abbrev pub HasGoing : Managed → Type 0
HasGoing manager = IfSome manager.held (λ held. IsGoing manager.slots manager.rules manager.bits manager.state held)
