-- What the steps of a manager do, forward and back, and what taking a commit back does.
use Rattle.std.specs.Prelude.{◌≡◌, ℕ, zero, suc, ◌≤◌, Bool, true, false, ◌&&◌, Result, Ok, Err, Option, Some, None, IfSome, List, [], ◌∷◌, length, map, nat_eq}
use Rattle.tcam_device.specs.declared.Write.{Write}
use Rattle.tcam_device.specs.State.{State, apply, on_device}
use Rattle.tcam_device.specs.Flight.{writes_in}
use Rattle.tcam_device.specs.Insertion.{is_table_write}
use Rattle.commit_writes.specs.declared.Done.{Done}
use Rattle.commit_writes.specs.Bits.{FieldBits}
use Rattle.tcam_device.specs.declared.Action.{Action}
use Rattle.tcam_device.specs.declared.Action.TheVariants.{Written, Drained}
use Rattle.commit_writes.specs.InFlight.{ArePartOf, ServesLive}
use Rattle.commit_writes.specs.Undo.{restoring}
use Rattle.batch_order.specs.declared.Step.{Step}
use Rattle.batch_order.specs.declared.Step.TheVariants as step
use Rattle.batch_order.specs.declared.AbortFault.{AbortFault}
use Rattle.batch_order.specs.declared.AbortFault.TheVariants as abort_fault
use Rattle.batch_order.specs.Managed.{HeldCommit, Managed, Way, live_now}
use Rattle.batch_order.specs.Managed.Way.{On, Back}

-- the actions that a step made
abbrev pub actions_of : Step → List Action
actions_of (step.Wrote write) = Written write ∷ []
actions_of (step.Finished counts) = []
actions_of step.Idle = []
actions_of step.Drained = Drained ∷ []
actions_of (step.Waiting words) = []
actions_of (step.Reverted undone) = []

-- the next write to make, if one is due now
abbrev pub due_write : List Action → Option Write
due_write [] = None
due_write (Written write ∷ actions) = Some write
due_write (Drained ∷ actions) = None

abbrev pub next_of : Option HeldCommit → Option Write
next_of None = None
next_of (Some held) = due_write held.actions

-- with a table word written, words in flight are current for the ranges before the commit
abbrev pub current_by : FieldBits → FieldBits → Bool → FieldBits
current_by before current true = before
current_by before current false = current

-- on the way on, what undoes a write is kept
abbrev pub way_by : State → Write → Way → Way
way_by state write (On undo) = On (restoring state write ∷ undo)
way_by state write (Back undone) = Back undone

-- what the end answers: the numbers, or how many undo writes there were
abbrev pub end_answer : Way → Done → Step
end_answer (On undo) counts = step.Finished counts
end_answer (Back undone) counts = step.Reverted undone

-- and what it leaves: the new set, or the one before it
abbrev pub left_by : Managed → HeldCommit → Way → Managed
left_by old held (On undo) = record old { rules = held.rules; bits = held.bits; held = None }
left_by old held (Back undone) = record old { held = None }

-- The next action is made, on or back. The drain waits while words are in flight, and from then on the new ranges count. With
-- nothing left the commit ends.
abbrev pub StepsOn : Managed → HeldCommit → ℕ → List Action → Step → Managed → Type 0
StepsOn old held words [] made new =
    (made ≡ end_answer held.way held.counts) × (new ≡ left_by old held held.way)
StepsOn old held words (Written write ∷ actions) made new =
    (made ≡ step.Wrote write)
    × (new ≡ record old {
      state = apply old.state write;
      held = Some (record held { actions = actions; way = way_by old.state write held.way; current = current_by old.bits held.current (is_table_write write) });
    })
StepsOn old held zero (Drained ∷ actions) made new =
    (made ≡ step.Drained) × (new ≡ record old { held = Some (record held { actions = actions; current = held.during }) })
StepsOn old held (suc words) (Drained ∷ actions) made new = (made ≡ step.Waiting (suc words)) × (new ≡ old)

-- What a step does with so many words in flight: it is idle where no commit is under way, and then nothing changes.
abbrev pub Steps : Managed → ℕ → Option HeldCommit → Step → Managed → Type 0
Steps old words None made new = (made ≡ step.Idle) × (new ≡ old)
Steps old words (Some held) made new = StepsOn old held words held.actions made new

-- turned round, what undoes its writes is still to make
abbrev pub going_back : HeldCommit → List Write → HeldCommit
going_back held undo = record held { actions = map Written undo; way = Back (length undo) }

-- a commit under way is turned round, unless it is already;
abbrev pub TurnsBack : Managed → HeldCommit → Way → Result ℕ AbortFault → Managed → Type 0
TurnsBack old held (On undo) result new =
    (result ≡ Ok (length undo)) × (new ≡ record old { held = Some (going_back held undo) })
TurnsBack old held (Back undone) result new = (result ≡ Err (abort_fault.Back (length (writes_in held.actions)))) × (new ≡ old)

-- only one that was prepared is,
abbrev pub TurnsPrepared : Managed → HeldCommit → Bool → Result ℕ AbortFault → Managed → Type 0
TurnsPrepared old held true result new = TurnsBack old held held.way result new
TurnsPrepared old held false result new = (result ≡ Err abort_fault.Restarted) × (new ≡ old)

-- What taking a commit back does: idle where none is under way.
abbrev pub Aborts : Managed → Option HeldCommit → Result ℕ AbortFault → Managed → Type 0
Aborts old None result new = (result ≡ Err abort_fault.Idle) × (new ≡ old)
Aborts old (Some held) result new = TurnsPrepared old held held.prepared result new

-- A device that holds what the manager's writes left serves the ranges that words in flight are current for.
abbrev pub ServesNow : Managed → Type 0
ServesNow manager =
    (device_slots : ℕ) → manager.slots ≤ device_slots → ServesLive (live_now manager) (on_device device_slots manager.state)

-- a step that doesn't drain leaves words current
abbrev pub KeepsCurrent : Managed → Step → Managed → Type 0
KeepsCurrent old step.Drained new = Unit {0}
KeepsCurrent old made new = ArePartOf (live_now new) (live_now old)

-- the drain is the next action
abbrev pub is_drain_next : List Action → Bool
is_drain_next [] = false
is_drain_next (Written write ∷ actions) = false
is_drain_next (Drained ∷ actions) = true

abbrev pub awaits_drain : Option HeldCommit → Bool
awaits_drain None = false
awaits_drain (Some held) = is_drain_next held.actions

-- a commit under way has nothing left to make
abbrev pub IsAllMade : Option HeldCommit → Type 0
IsAllMade held = IfSome held (λ one. one.actions ≡ [])

-- it goes back
abbrev pub is_back : Way → Bool
is_back (On undo) = false
is_back (Back undone) = true

-- a commit under way is turned round
abbrev pub is_turned : Option HeldCommit → Bool
is_turned None = false
is_turned (Some held) = is_back held.way

-- a commit under way goes forward, and `prepare` planned it
abbrev pub IsPlainlyForward : Option HeldCommit → Type 0
IsPlainlyForward held = IfSome held (λ one. (one.prepared ≡ true) × (is_back one.way ≡ false))

-- it goes on, and no write of it was made
abbrev pub on_unmade : Way → Bool
on_unmade (On undo) = nat_eq (length undo) 0
on_unmade (Back undone) = false

-- it was planned by `prepare` or `plan_commit`, and no write of it was made
abbrev pub is_unwritten : Option HeldCommit → Bool
is_unwritten None = false
is_unwritten (Some held) = held.prepared && on_unmade held.way

-- where its plan is dropped the manager is idle, and else as it was
abbrev pub cancelled : Bool → Managed → Managed
cancelled true old = record old { held = None }
cancelled false old = old
