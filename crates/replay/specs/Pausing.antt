-- What comes of the actions of a commit under way where it may be turned behind some of them.
use Rattle.std.specs.Prelude.{◌≡◌, ℕ, ◌-◌, ◌<◌, ◌++◌, Option, Some, None, IfSome, Result, Ok, Err, List, length}
use Rattle.tcam_device.specs.declared.Action.{Action}
use Rattle.tcam_device.specs.Flight.{writes_in}
use Rattle.commit_writes.specs.Actions.{up_to_writes}
use Rattle.replay.specs.declared.steps.Ended.{Ended}
use Rattle.replay.specs.declared.RunFault.{RunFault}
use Rattle.replay.specs.Fates.{IsBefore, IsUpTo, IsWithinTurn}
use Rattle.replay.specs.Carried.{CutsEffects}
use Rattle.replay.specs.Running.{Watching, MakesSome}
use Rattle.replay.specs.Making.{Snapshot, HasCome, MakesAll, StopsAtLine, StopsAtWrite, FailsBy, TellsActions, effects_on}

-- All actions up to the turn are made and told, and more writes are left.
pub record Pauses (Seen : Type 0) (after : ℕ) (watch : Watching) (device_slots : ℕ) (begun now : Snapshot) : Type 0 where
  pub some : MakesSome begun.manager now.manager
  pub before : IsUpTo (after - begun.count.told) some.made some.left
  pub more : after - begun.count.told < length (writes_in (some.made ++ some.left))
  pub reached : now.count.told ≡ after
  pub come : HasCome watch begun.count now.count some.made
  pub events : now.out.events ≡ begun.out.events ++ some.made
  pub report : Seen → TellsActions begun.manager watch device_slots begun.count begun.out.events some.made begun.out.taken now.out.taken

-- Where a turn comes behind so many writes of them, the line that isn't told whole is one of those before.
abbrev pub CutsFirst : Type 0 → Option ℕ → Watching → ℕ → Snapshot → Snapshot → List Action → List Action → Type 0
CutsFirst Seen stop watch device_slots begun now made left =
    IfSome stop (λ after. after - begun.count.told < length (writes_in (made ++ left)) → Seen
    → CutsEffects (effects_on begun.manager watch device_slots begun.count begun.out.events (made ++ up_to_writes (after - begun.count.told - length (writes_in made)) left))
    begun.out.events now.out.events begun.out.taken now.out.taken)

-- some are made up to a line that isn't told whole, or up to a write, and no more than come before the turn
abbrev pub StopsEarlier : Type 0 → Option ℕ → Watching → ℕ → Snapshot → Snapshot → RunFault → Type 0
StopsEarlier Seen stop watch device_slots begun now why =
    FailsBy ((stops : StopsAtLine Seen watch device_slots begun now)
    × IsBefore stop begun.count.told stops.some.made stops.some.left × IsWithinTurn stop now.count.told
    × CutsFirst Seen stop watch device_slots begun now stops.some.made stops.some.left)
    ((stops : StopsAtWrite Seen watch device_slots begun now)
    × IsBefore stop begun.count.told stops.some.made stops.some.left × IfSome stop (λ after. now.count.told < after)) why

-- they are made to the end of the commit, or up to its turn, or some of them are
abbrev pub MakesUntil : Type 0 → Option ℕ → Watching → ℕ → Snapshot → Snapshot → Result (Option Ended) RunFault → Type 0
MakesUntil Seen stop watch device_slots begun now (Ok (Some ended)) =
    MakesAll Seen watch device_slots begun ended now × IsWithinTurn stop now.count.told
MakesUntil Seen stop watch device_slots begun now (Ok None) =
    elim stop [ None ↦ ⊥ | Some after ↦ Pauses Seen after watch device_slots begun now ]
MakesUntil Seen stop watch device_slots begun now (Err fault) = StopsEarlier Seen stop watch device_slots begun now fault

-- they are made up to the turn, or some of them are
abbrev pub MakesUpTo : Type 0 → ℕ → Watching → ℕ → Snapshot → Snapshot → Result (Unit {0}) RunFault → Type 0
MakesUpTo Seen after watch device_slots begun now (Ok done) = Pauses Seen after watch device_slots begun now
MakesUpTo Seen after watch device_slots begun now (Err fault) = StopsEarlier Seen (Some after) watch device_slots begun now fault
