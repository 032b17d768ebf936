-- Where a run of a router's script stands between two lines, and how a report is closed: words that only the contracts of calls need.
use Rattle.std.specs.Prelude.{◌≡◌, ℕ, ◌≤◌, Bool, false, Option, IsSome, List}
use Rattle.call_history.specs.Cause.{IsCounted}
use Rattle.script_lines.specs.Given.{MayGive, counted}
use Rattle.script_lines.specs.Reader.{HeldBytes}
use Rattle.script_runs.specs.declared.Status.{Status}
use Rattle.script_runs.specs.declared.Status.TheVariants.{WriteFault}
use Rattle.script_runs.specs.Outcomes.{RunKind}
use Rattle.script_runs.specs.Rounds.{Closes, SoFar}
use Rattle.split_device.specs.declared.SplitAction.{SplitAction}
use Rattle.split_device.specs.declared.SplitWrite.{SplitWrite}
use Rattle.split_device.specs.Flight.{Flight}
use Rattle.router.specs.declared.Side.{Side}
use Rattle.router.specs.declared.Side.TheVariants as side
use Rattle.router.specs.declared.RouterAct.{RouterAct}
use Rattle.router.specs.Script.{Pending}
use Rattle.router.specs.Run.{Effect, Progress}
use Rattle.router.specs.Routing.{IsIdle, Routing}
use Rattle.router.specs.Carried.{LeavesDevice}
use Rattle.router.specs.Taken.{MadeOfBoth}
use Rattle.router_runs.specs.Promise.{IsPartDue}

-- A call hands the last line of a report to a sink, by either count of the sink's bytes. What was told stays told, and
-- the sink's failure is the status exactly where it is counted.
pub record ClosesRouterReport {S : Type 0} (taken : S → Option (List ℕ)) (accepted : S → List ℕ) (faults : S → ℕ) (old new : S) (line : List ℕ) (last status : Status) : Type 0 where
  pub closes : (which : Bool) → Closes line last status (counted which (taken old) (accepted old)) (counted which (taken new) (accepted new))
  pub told : IsSome (taken old) → IsSome (taken new)
  pub cause : IsCounted (status ≡ WriteFault) (faults old) (faults new)

-- A router between two lines: no commit is under way, the sink hasn't failed, and there are no more commits than bytes
-- taken, since a line takes one.
pub record IsRouterBetweenLines (held : HeldBytes) (router : Routing) : Type 0 where
  pub idle : IsIdle router
  pub whole : router.broken ≡ false
  pub commits : router.commits ≤ held.before
  pub within : held.before ≤ 268435456

-- What a call leaves of both devices, by whether each failed.
pub record LeavesBoth {D : Type 0} (slots : D → ℕ) (events : D → List SplitAction) (flight : D → Flight) (faults : D → ℕ) (list_old list_new routes_old routes_new : D) (Failed : Side → Type 0) : Type 0 where
  pub list : LeavesDevice slots events flight faults list_old list_new (Failed side.List)
  pub routes : LeavesDevice slots events flight faults routes_old routes_new (Failed side.Routes)

-- A part of this table's device failed at each try: it is due behind all that was made, whatever bytes come behind these pieces.
abbrev pub StopsAtPart : RunKind RouterAct Pending Progress Effect (Side × SplitWrite) MadeOfBoth → HeldBytes → Progress → List (List ℕ) → Side → MadeOfBoth → MadeOfBoth → Option (List ℕ) → Type 0
StopsAtPart kind old before pieces which events_old events_new taken_old =
    (bytes left now : List ℕ) (start : Option (List ℕ)) → MayGive left pieces now → SoFar kind bytes old left before events_old start taken_old
    → IsPartDue kind which bytes events_new
