-- What becomes of a commit that was taken, and where it is turned.
use Rattle.std.specs.Prelude.{◌≡◌, ℕ, ◌-◌, ◌<◌, ◌≤◌, ◌++◌, nat_le, nat_lt, ◌&&◌, Bool, true, false, Option, Some, None, IfSome, Result, Ok, Err, List, length}
use Rattle.tcam_device.specs.declared.Action.{Action}
use Rattle.tcam_device.specs.Flight.{writes_in}
use Rattle.commit_writes.specs.Actions.{up_to_writes}
use Rattle.batch_order.specs.Managed.{HeldCommit}
use Rattle.replay.specs.declared.Act.{Act}
use Rattle.replay.specs.declared.Act.TheVariants.{Command, Ask, All, Probe, Packet, Commit, Trial, Crash}
use Rattle.replay.specs.declared.ActFault.{ActFault}
use Rattle.replay.specs.declared.ActFault.TheVariants.{BatchFull, ChangesPending, ProbesFull, Held, Stopped}
use Rattle.replay.specs.declared.RunFault.TheVariants as fault
use Rattle.replay.specs.declared.fate.Fate.{Fate}
use Rattle.replay.specs.declared.fate.Fate.TheVariants.{Finishes, Turns, Turned}
use Rattle.replay.specs.declared.fate.Then.{Then}
use Rattle.replay.specs.declared.fate.Then.TheVariants.{Back, Restart}

-- the act of a commit that is turned behind so many writes: a trial where it is taken back, and a crash where its manager is dropped
abbrev pub turning_act : Then → ℕ → Act
turning_act Back after = Trial after
turning_act Restart after = Crash after

abbrev pub commit_act : Fate → Act
commit_act Finishes = Commit
commit_act (Turns after then) = turning_act then after
commit_act (Turned after then) = turning_act then after

-- an act that crashes
abbrev pub IsCrash : Act → Type 0
IsCrash (Command change) = ⊥
IsCrash (Ask request) = ⊥
IsCrash All = ⊥
IsCrash (Probe key) = ⊥
IsCrash (Packet key) = ⊥
IsCrash Commit = ⊥
IsCrash (Trial most) = ⊥
IsCrash (Crash after) = Unit {0}

-- after how many writes it is turned where it has more, if it is still to be
abbrev pub turn_of : Fate → Option ℕ
turn_of Finishes = None
turn_of (Turns after then) = Some after
turn_of (Turned after then) = None

-- its manager is dropped at its turn
abbrev pub IsRestart : Then → Type 0
IsRestart Back = ⊥
IsRestart Restart = Unit {0}

-- it is still to crash
abbrev pub IsToCrash : Fate → Type 0
IsToCrash Finishes = ⊥
IsToCrash (Turns after then) = IsRestart then
IsToCrash (Turned after then) = ⊥

-- it isn't turned yet
abbrev pub IsAhead : Fate → Type 0
IsAhead Finishes = Unit {0}
IsAhead (Turns after then) = Unit {0}
IsAhead (Turned after then) = ⊥

-- it was taken back
abbrev pub is_taken_back : Fate → Bool
is_taken_back Finishes = false
is_taken_back (Turns after then) = false
is_taken_back (Turned after Back) = true
is_taken_back (Turned after Restart) = false

-- Its manager is the one that was asked for it. Where that took it back it had more of these writes than it made.
abbrev pub IsFirst : Fate → ℕ → Type 0
IsFirst Finishes writes = Unit {0}
IsFirst (Turns after then) writes = Unit {0}
IsFirst (Turned after Back) writes = after < writes
IsFirst (Turned after Restart) writes = ⊥

-- Where there are more writes than so many, what was made comes before a turn behind these, and so does what is left up
-- to there: no drain that is due then is among it.
abbrev pub IsUpTo : ℕ → List Action → List Action → Type 0
IsUpTo more made left =
    more < length (writes_in (made ++ left)) → up_to_writes more (made ++ left) ≡ made ++ up_to_writes (more - length (writes_in made)) left

-- with so many writes told before, where there is a turn
abbrev pub IsBefore : Option ℕ → ℕ → List Action → List Action → Type 0
IsBefore stop told made left = IfSome stop (λ after. IsUpTo (after - told) made left)

-- so many writes are told, and no more than come before the turn
abbrev pub IsWithinTurn : Option ℕ → ℕ → Type 0
IsWithinTurn stop told = IfSome stop (λ after. told ≤ after)

-- the turn is due: so many writes are told, and more are left
abbrev pub turn_due : Option ℕ → ℕ → Option HeldCommit → Bool
turn_due None told held = false
turn_due (Some after) told None = false
turn_due (Some after) told (Some held) = nat_le after told && nat_lt 0 (length (writes_in held.actions))

-- What an answer says of whether a call may follow: none may behind a failure of the sink, and perhaps none where a commit
-- that crashed found no memory.
abbrev pub AnswersBroken : Act → Result (Unit {0}) ActFault → Bool → Type 0
AnswersBroken act (Ok done) broken = broken ≡ false
AnswersBroken act (Err (Stopped fault.Sink)) broken = broken ≡ true
AnswersBroken act (Err (Stopped fault.Device)) broken = broken ≡ false
AnswersBroken act (Err (Stopped fault.Memory)) broken = broken ≡ true → IsCrash act
AnswersBroken act (Err BatchFull) broken = broken ≡ false
AnswersBroken act (Err ChangesPending) broken = broken ≡ false
AnswersBroken act (Err ProbesFull) broken = broken ≡ false
AnswersBroken act (Err (Held left)) broken = broken ≡ false

-- before the sink's failure is remembered: the manager was lost
abbrev pub AnswersLost : Act → Result (Unit {0}) ActFault → Bool → Type 0
AnswersLost act result broken = broken ≡ true → (result ≡ Err (Stopped fault.Memory)) × IsCrash act
