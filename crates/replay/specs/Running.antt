-- What a run keeps, and where it stands by that.
use Rattle.std.specs.Prelude.{◌≡◌, ◌≢◌, ◌⊎◌, ℕ, ◌+◌, ◌-◌, ◌*◌, ◌^◌, ◌<◌, ◌≤◌, ◌++◌, ◌∷◌, Bool, true, false, Option, None, Some, IsSome, Result, Ok, Err, List, [], length, take, codes}
use Rattle.std.specs.List.{AllByRecursion}
use Rattle.slot_order.specs.Order.{most_slots}
use Rattle.rule_model.specs.declared.Key.{Key}
use Rattle.rule_model.specs.declared.IpVersion.{IpVersion}
use Rattle.rule_model.specs.declared.IpVersion.TheVariants.{V4, V6}
use Rattle.rule_store.specs.declared.Mode.{Mode}
use Rattle.rule_store.specs.declared.Command.{Command as Change}
use Rattle.rule_store.specs.Verdict.{Verdict, Accepted, verdict}
use Rattle.tcam_device.specs.declared.Write.{Write}
use Rattle.tcam_device.specs.declared.Action.{Action}
use Rattle.tcam_device.specs.State.{State, Shows, state_after, on_device}
use Rattle.tcam_device.specs.Flight.{Flight, writes_in}
use Rattle.commit_writes.specs.declared.Done.{Done}
use Rattle.commit_writes.specs.Routes.{IsRoute}
use Rattle.commit_writes.specs.Actions.{back_from, commit_actions, up_to_writes}
use Rattle.commit_writes.specs.Bits.{FieldBits}
use Rattle.commit_writes.specs.Undo.{undo_writes}
use Rattle.batch_order.specs.declared.Placement.{Placement}
use Rattle.batch_order.specs.Managed.{Managed, HeldCommit, Holds, OnlyChangesRoutes, Way, commit_of, fresh}
use Rattle.batch_order.specs.Managed.Way.{On, Back}
use Rattle.readback.specs.declared.Parts.{Parts}
use Rattle.batch_order.specs.Restart.{ArePartsOf, Resumes}
use Rattle.replay.specs.declared.Act.{Act}
use Rattle.replay.specs.declared.Act.TheVariants.{Command, Ask, All, Probe, Packet, Commit, Trial, Crash}
use Rattle.settled_changes.specs.declared.requested.Requested.{Requested}
use Rattle.settled_changes.specs.declared.requested.Requested.TheVariants.{Nothing}
use Rattle.settled_changes.specs.Requested.{strict_form}
use Rattle.replay.specs.AskedRoutes.{OnlyAsksRoutes}
use Rattle.replay.specs.declared.fate.Fate.{Fate}
use Rattle.replay.specs.declared.fate.Fate.TheVariants.{Finishes, Turns, Turned}
use Rattle.replay.specs.declared.fate.Then.TheVariants as thens
use Rattle.report_lines.specs.declared.Family.{Family}
use Rattle.report_lines.specs.declared.Family.TheVariants.{Route, Acl, Route6, Acl6}
use Rattle.replay.specs.Effects.{Setting, probes_told, waiting_after}
use Rattle.trace_file.specs.Forms.{IsTraceLineOf}
use Rattle.replay.specs.JsonLines.{change_line}
use Rattle.replay.specs.InFlight.{AreOf}
use Rattle.replay.specs.Run.{Progress}
use Rattle.replay.specs.Fates.{IsBefore, IsFirst, IsWithinTurn, turn_of}
use Rattle.replay.specs.declared.ActFault.{ActFault}
use Rattle.replay.specs.declared.ActFault.TheVariants.{BatchFull, ChangesPending, ProbesFull, Held, Stopped}
use Rattle.replay.specs.declared.RunFault.{RunFault}
use Rattle.replay.specs.declared.RunFault.TheVariants.{Sink, Device, Memory}
use Rattle.replay.specs.Carried.{IsAt, Carries, CutsAtLine, CutsAtWrite, Wants}

-- what is told of each write: how rules are named, whether a trace is wanted, after how many further writes a probe's
-- word is searched, whether all is told in JSON, whether a trace tells what a write does, whether removals go first where
-- they may and whether large batches may wait, which are told of no write, and the keys that are probed
pub record Watching : Type 0 where
  pub family : Family
  pub trace : Bool
  pub depth : ℕ
  pub json : Bool
  pub names : Bool
  pub parts : Bool
  pub large : Bool
  pub probes : List Key

-- The manager, what is told of each write, the pending batch, what is asked for beside it, what the report counts,
-- whether what is pending are removals that go before a rest, how many writes of an unfinished commit were made, each of them told, of how many of these the probes' words are in
-- flight, and what becomes of it; and whether no call may follow.
pub record Running : Type 0 where
  pub manager : Managed
  pub family : Family
  pub trace : Bool
  pub depth : ℕ
  pub json : Bool
  pub names : Bool
  pub parts : Bool
  pub large : Bool
  pub probes : List Key
  pub pending : List Change
  pub asked : Requested
  pub commits : ℕ
  pub writes : ℕ
  pub refused : Bool
  pub early : Bool
  pub told : ℕ
  pub waiting : ℕ
  pub fate : Fate
  pub broken : Bool

-- what a run tells of each write
abbrev pub watching : Running → Watching
watching run = record { family = run.family; trace = run.trace; depth = run.depth; json = run.json; names = run.names; parts = run.parts; large = run.large; probes = run.probes }

-- what the words of a command line asked for
abbrev pub setting_of : Running → Setting
setting_of run =
    record {
      slots = run.manager.slots;
      mode = run.manager.mode;
      placement = run.manager.placement;
      family = run.family;
      trace = run.trace;
      depth = run.depth;
      json = run.json;
      names = run.names;
      parts = run.parts;
      large = run.large;
    }

-- where the run stands, over a device of so many slots
abbrev pub progress_of : ℕ → Running → Progress
progress_of device_slots run =
    record {
      rules = run.manager.rules;
      batch = run.pending;
      asked = run.asked;
      probes = run.probes;
      bits = run.manager.bits;
      state = on_device device_slots run.manager.state;
      commits = run.commits;
      writes = run.writes;
      refused = run.refused;
      early = run.early;
    }

-- a run before its first act
abbrev pub begun : ℕ → Mode → Placement → Family → Bool → ℕ → Bool → Bool → Running
begun slots mode placement family trace depth json names =
    record {
      manager = fresh slots mode placement;
      family = family;
      trace = trace;
      depth = depth;
      json = json;
      names = names;
      parts = false;
      large = false;
      probes = [];
      pending = [];
      asked = Nothing;
      commits = 0;
      writes = 0;
      refused = false;
      early = false;
      told = 0;
      waiting = 0;
      fate = Finishes;
      broken = false;
    }

-- while no commit is under way the slots show the rules, whatever more slots the device has
abbrev pub ShowsRules : Managed → Type 0
ShowsRules manager =
    manager.held ≡ None → (device_slots : ℕ) → manager.slots ≤ device_slots → Shows (on_device device_slots manager.state) manager.rules

-- the verdict on the pending batch
abbrev pub verdict_of : Running → Verdict
verdict_of run = verdict run.manager.slots run.manager.mode run.manager.rules run.pending

-- the commit under way is that of the pending batch
abbrev pub HoldsPending : Running → Type 0
HoldsPending run = (counts : Done) × Holds (record run.manager { held = None }) run.pending counts run.manager

-- on the way on what undoes some writes is kept
abbrev pub way_after : State → List Write → Way → Way
way_after state writes (On undo) = On (undo_writes state writes ++ undo)
way_after state writes (Back undone) = Back undone

-- a commit of which these actions are made, and those are left
abbrev pub held_after : State → HeldCommit → List Action → List Action → FieldBits → HeldCommit
held_after state held made left current = record held { actions = left; way = way_after state (writes_in made) held.way; current = current }

-- some of the actions that are left of a commit under way are made, and the others are left of it
pub record MakesSome (begun now : Managed) : Type 0 where
  pub held : HeldCommit
  pub made : List Action
  pub left : List Action
  pub current : FieldBits
  pub held_is : begun.held ≡ Some held
  pub whole : held.actions ≡ made ++ left
  pub now_is : now ≡ record begun { state = state_after begun.state (writes_in made); held = Some (held_after begun.state held made left current) }

-- a commit that is taken back behind so many writes, from the first of these to the last that undoes them
abbrev pub there_and_back : ℕ → State → HeldCommit → HeldCommit
there_and_back after state held =
    let front = up_to_writes after held.actions in
    record held { actions = back_from state front; way = Back (length (undo_writes state (writes_in front))) }

-- a commit from its first action to its last, by what becomes of it
abbrev pub course_held : Fate → State → HeldCommit → HeldCommit
course_held Finishes state held = held
course_held (Turns after then) state held = held
course_held (Turned after thens.Back) state held = there_and_back after state held
course_held (Turned after thens.Restart) state held = held

abbrev pub course_of : Fate → Managed → HeldCommit → Managed
course_of fate begun held = record begun { held = Some (course_held fate begun.state held) }

-- A commit is unfinished: what was asked for is settled, it was accepted, some of its writes were made, and the rest of
-- them is held. Where it is to be turned it has not come further, and where it was taken back those that undo them are
-- among them.
pub record IsHalfway (run : Running) : Type 0 where
  pub begun : Managed
  pub plain : run.asked ≡ Nothing
  pub holds : HoldsPending (record run { manager = begun })
  pub accepted : verdict_of (record run { manager = begun }) ≡ Accepted
  pub shows : ShowsRules (record begun { held = None })
  pub first : IsFirst run.fate (length holds.1.made)
  pub some : MakesSome (course_of run.fate begun (commit_of begun run.pending holds.1.made holds.0)) run.manager
  pub told : run.told ≡ length (writes_in some.made)
  pub waiting : run.waiting ≡ waiting_after run.depth 0 some.made
  pub before : IsBefore (turn_of run.fate) 0 some.made some.left
  pub within : IsWithinTurn (turn_of run.fate) run.told

-- the actions of a commit up to its crash
abbrev pub first_actions : Running → Managed → List Write → ℕ → List Action
first_actions run begun made after = up_to_writes after (commit_actions begun.mode begun.bits begun.rules run.pending made)

-- One crashed and is unfinished, over a device of so many slots: it was accepted and had more writes than were made before,
-- another manager held the rest by what the device showed, and some of it was made.
pub record IsOnward (device_slots : ℕ) (run : Running) : Type 0 where
  pub after : ℕ
  pub fate_is : run.fate ≡ Turned after thens.Restart
  pub plain : run.asked ≡ Nothing
  pub begun : Managed
  pub holds : HoldsPending (record run { manager = begun })
  pub accepted : verdict_of (record run { manager = begun }) ≡ Accepted
  pub shows : ShowsRules (record begun { held = None })
  pub size : length begun.state.slots ≡ begun.slots
  pub more : after < length holds.1.made
  pub parts : Parts
  pub parts_are : ArePartsOf begun parts
  pub restarted : Managed
  pub resumes : Resumes begun.slots begun.mode begun.placement parts run.pending device_slots
      (state_after (on_device device_slots begun.state) (take after holds.1.made)) restarted
  pub some : MakesSome restarted run.manager
  pub told : run.told ≡ after + length (writes_in some.made)
  pub waiting : run.waiting ≡ waiting_after run.depth 0 (first_actions run begun holds.1.made after ++ some.made)

-- a commit is unfinished by its first manager, or by the one that goes on
abbrev pub IsMidCommit : Running → Type 0
IsMidCommit run = IsHalfway run ⊎ ((device_slots : ℕ) × (run.manager.slots ≤ device_slots) × IsOnward device_slots run)

-- the family of routes of a version of IP
abbrev pub routes_of : IpVersion → Family
routes_of V4 = Route
routes_of V6 = Route6

-- A run between two calls: each commit made few writes. In a script of routes the rules are routes of its version, and
-- the pending changes are changes of such routes. A commit under way is that of the pending batch.
pub record IsRun (run : Running) : Type 0 where
  pub changes : (version : IpVersion) → run.family ≡ routes_of version → OnlyChangesRoutes version run.pending
  pub asks : (version : IpVersion) → run.family ≡ routes_of version → OnlyAsksRoutes version run.asked
  pub routes : (version : IpVersion) → run.family ≡ routes_of version → AllByRecursion (IsRoute version) run.manager.rules
  pub some_slots : 1 ≤ run.manager.slots
  pub most_slots : run.manager.slots ≤ most_slots
  pub size : length run.manager.state.slots ≡ run.manager.slots
  pub few : run.writes ≤ run.commits * (2 ^ 36 - 1)
  pub shows : ShowsRules run.manager
  pub halfway : IsSome run.manager.held → IsMidCommit run
  pub idle : run.manager.held ≡ None → (run.told ≡ 0) × (run.waiting ≡ 0) × (run.fate ≡ Finishes)

-- a change in a script of the family: a route that is added is one of its version, and an access list takes any rule
abbrev pub IsChangeOf : Family → Change → Type 0
IsChangeOf Route change = OnlyChangesRoutes V4 (change ∷ [])
IsChangeOf Acl change = Unit {0}
IsChangeOf Route6 change = OnlyChangesRoutes V6 (change ∷ [])
IsChangeOf Acl6 change = Unit {0}

-- an act of a script of the family
abbrev pub IsActOf : Family → Act → Type 0
IsActOf family (Command change) = IsChangeOf family change
IsActOf family (Ask request) = IsChangeOf family (strict_form request)
IsActOf family All = Unit {0}
IsActOf family (Probe key) = Unit {0}
IsActOf family (Packet key) = Unit {0}
IsActOf family Commit = Unit {0}
IsActOf family (Trial most) = Unit {0}
IsActOf family (Crash after) = Unit {0}

-- An act that a report can tell. In JSON a command, and what a request asks for, is one of a trace of this version, whose
-- numbers are within their limits, and there is no line for a trial and for a crash.
abbrev pub IsToldIn : Bool → IpVersion → Act → Type 0
IsToldIn json version (Command change) = json ≡ true → IsTraceLineOf version (change_line change)
IsToldIn json version (Ask request) = json ≡ true → IsTraceLineOf version (change_line (strict_form request))
IsToldIn json version All = Unit {0}
IsToldIn json version (Probe key) = Unit {0}
IsToldIn json version (Packet key) = Unit {0}
IsToldIn json version Commit = Unit {0}
IsToldIn json version (Trial most) = json ≡ false
IsToldIn json version (Crash after) = json ≡ false

-- nothing is done, not of the run, of the device, or of the sink
pub record NothingIsDone (old new : Running) (events_old events_new : List Action) (taken_old taken_new : Option (List ℕ)) : Type 0 where
  pub run : new ≡ old
  pub events : events_new ≡ events_old
  pub report : taken_new ≡ taken_old

-- what an act answers whose commit comes to this
abbrev pub act_outcome_of : Result (Unit {0}) RunFault → Result (Unit {0}) ActFault
act_outcome_of (Ok done) = Ok tt
act_outcome_of (Err fault) = Err (Stopped fault)

-- What an act comes to, by the answer. Where the device is where the run stands, the act is carried out, or cut at the
-- line or at the write that failed. For want of memory or of room nothing is done, but where a commit crashed: it has
-- made its writes up to then, its manager is lost, and no call may follow.
abbrev pub ComesTo : ℕ → Running → Act → Running → Result (Unit {0}) ActFault → List Action → List Action → Option (List ℕ) → Option (List ℕ) → Type 0
ComesTo device_slots old act new (Ok done) events_old events_new taken_old taken_new =
    IsAt device_slots events_old (progress_of device_slots old)
    → Carries (setting_of old) (progress_of device_slots old) act (progress_of device_slots new) events_old events_new taken_old taken_new
ComesTo device_slots old act new (Err (Stopped Sink)) events_old events_new taken_old taken_new =
    IsAt device_slots events_old (progress_of device_slots old)
    → CutsAtLine (setting_of old) (progress_of device_slots old) act events_old events_new taken_old taken_new
ComesTo device_slots old act new (Err (Stopped Device)) events_old events_new taken_old taken_new =
    IsAt device_slots events_old (progress_of device_slots old)
    → CutsAtWrite (setting_of old) (progress_of device_slots old) act events_old events_new taken_old taken_new
ComesTo device_slots old act new (Err (Stopped Memory)) events_old events_new taken_old taken_new =
    elim new.broken [
      | false ↦
          Wants (setting_of old) (progress_of device_slots old) act events_old events_new taken_old taken_new
          × NothingIsDone old new events_old events_new taken_old taken_new
      | true ↦
          IsAt device_slots events_old (progress_of device_slots old)
          → Wants (setting_of old) (progress_of device_slots old) act events_old events_new taken_old taken_new
    ]
ComesTo device_slots old act new (Err BatchFull) events_old events_new taken_old taken_new =
    NothingIsDone old new events_old events_new taken_old taken_new
ComesTo device_slots old act new (Err ChangesPending) events_old events_new taken_old taken_new =
    NothingIsDone old new events_old events_new taken_old taken_new
ComesTo device_slots old act new (Err ProbesFull) events_old events_new taken_old taken_new =
    NothingIsDone old new events_old events_new taken_old taken_new
ComesTo device_slots old act new (Err (Held left)) events_old events_new taken_old taken_new =
    NothingIsDone old new events_old events_new taken_old taken_new

-- the words in flight are those that a run left: none while no commit is unfinished
abbrev pub AreLeft : Running → Flight → Type 0
AreLeft run flight = elim run.manager.held [ None ↦ flight ≡ [] | Some held ↦ AreOf (probes_told run.json run.probes) run.waiting flight ]

-- What a call leaves in flight, by its answer. Where no call may follow nothing is said.
abbrev pub LeavesWords : Running → Result (Unit {0}) ActFault → Flight → Flight → Type 0
LeavesWords new (Ok done) flight_old flight_new = flight_new ≡ []
LeavesWords new (Err (Stopped Sink)) flight_old flight_new = Unit {0}
LeavesWords new (Err (Stopped Device)) flight_old flight_new = AreLeft new flight_new
LeavesWords new (Err (Stopped Memory)) flight_old flight_new = new.broken ≡ false → flight_new ≡ flight_old
LeavesWords new (Err BatchFull) flight_old flight_new = flight_new ≡ flight_old
LeavesWords new (Err ChangesPending) flight_old flight_new = flight_new ≡ flight_old
LeavesWords new (Err ProbesFull) flight_old flight_new = flight_new ≡ flight_old
LeavesWords new (Err (Held left)) flight_old flight_new = flight_new ≡ flight_old

-- An act is taken only while no commit is unfinished. Else the answer has the number of the writes that are left.
abbrev pub AnswersHeld : Option HeldCommit → Result (Unit {0}) ActFault → Type 0
AnswersHeld (Some held) result = result ≡ Err (Held (length (writes_in held.actions)))
AnswersHeld None result = (left : ℕ) → result ≢ Err (Held left)

-- the sink failed
abbrev pub sink_failed : Result (Unit {0}) ActFault → Bool
sink_failed (Ok done) = false
sink_failed (Err (Stopped Sink)) = true
sink_failed (Err (Stopped Device)) = false
sink_failed (Err (Stopped Memory)) = false
sink_failed (Err BatchFull) = false
sink_failed (Err ChangesPending) = false
sink_failed (Err ProbesFull) = false
sink_failed (Err (Held left)) = false

-- The text of an answer that an act isn't taken, in a script whose commits come to their end: that there is no room, or that
-- changes are pending.
abbrev pub limit_text : Result (Unit {0}) ActFault → Option (List ℕ)
limit_text (Ok done) = None
limit_text (Err BatchFull) = Some (codes "batch full")
limit_text (Err ChangesPending) = Some (codes "changes pending")
limit_text (Err ProbesFull) = Some (codes "too many probes")
limit_text (Err (Held left)) = Some (codes "a commit is unfinished")
limit_text (Err (Stopped why)) = None
