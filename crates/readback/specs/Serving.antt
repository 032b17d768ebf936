-- What packets see of a restart whose look-ups are two events.
use Rattle.std.specs.Prelude.{ℕ, Option, List, length, if◌then◌else◌}
use Rattle.std.specs.List.{AllByRecursion, list_any}
use Rattle.slot_pool.specs.Arrangement.{Slots}
use Rattle.rule_model.specs.declared.Rule.{Rule}
use Rattle.rule_store.specs.declared.Mode.{Mode}
use Rattle.rule_store.specs.declared.Command.{Command}
use Rattle.rule_store.specs.Batch.{set_after}
use Rattle.placement.specs.declared.LivePiece.{LivePiece}
use Rattle.tcam_device.specs.declared.Action.{Action}
use Rattle.tcam_device.specs.declared.Write.{Write}
use Rattle.tcam_device.specs.Flight.{Event, Flight, Pipeline, MayGo, actions_in, searches}
use Rattle.tcam_device.specs.State.{State, IsState, on_device}
use Rattle.commit_writes.specs.Proposal.{proposal}
use Rattle.commit_writes.specs.declared.Rewrite.{Rewrite}
use Rattle.commit_writes.specs.Actions.{commit_actions, with_drain}
use Rattle.commit_writes.specs.Bits.{FieldBits, bits_with}
use Rattle.commit_writes.specs.Commit.{IsSegment}
use Rattle.commit_writes.specs.InFlight.{AreCurrent, IsLookUp, IsOldOrNew, ServesLive, LeadsTo, after_events}
use Rattle.commit_writes.specs.Planned.{IdEntries, Planned}
use Rattle.commit_writes.specs.Segments.{IsFrontOf, MayBegin, live_behind}
use Rattle.commit_writes.specs.Shape.{inserted_pieces}
use Rattle.readback.specs.Halt.{halt_at, parts_as_planned}
use Rattle.readback.specs.Tasks.{Task, stands_in}
use Rattle.readback.specs.Stage.{IsCommitAt}
use Rattle.readback.specs.Going.{needs_drain}
use Rattle.readback.specs.Laws.{CanCommit}
use Rattle.readback.specs.PlannedRest.{restart_writes}
use Rattle.readback.specs.Restart.{IsPlannedRestart}

-- The ranges that words in flight are current for where a commit was stopped: once an inserted piece stands those that are live
-- meanwhile, since the commit has drained then, and else those before it.
abbrev pub stopped_ranges : Mode → FieldBits → List Rule → List Command → State → FieldBits
stopped_ranges mode bits rules batch state =
    let during = bits_with mode rules batch bits in
    if list_any (stands_in state.slots) (inserted_pieces mode during rules batch) then during else bits

-- the writes of a restart, with a drain behind those of the tables where one is due
abbrev pub restart_actions : Mode → FieldBits → List Rule → List Command → State → List Write → List Action
restart_actions mode bits rules batch state writes = with_drain (needs_drain mode bits rules batch state) writes

-- a stage serves these ranges;
abbrev pub StagesServe : Type 0
StagesServe =
    (slots : ℕ) (mode : Mode) (bits : FieldBits) (rules : List Rule) (batch : List Command) (state : State) (done left : List Task)
    → CanCommit mode bits rules batch → IsState (length state.slots) state → IsCommitAt slots mode bits rules batch state done left
    → ServesLive (stopped_ranges mode bits rules batch state) state

-- and the writes and the drain of a planned restart, all of them or the first, serve them on, from the drain on those that
-- are live meanwhile, and behind all of them these.
abbrev pub PlannedRestartsServe : Type 0
PlannedRestartsServe =
    (device_slots : ℕ) (mode : Mode) (bits : FieldBits) (rules : List Rule) (batch : List Command) (state : State) (done left : List Task) (twin : Option ℕ)
    (live : List LivePiece) (slots : Slots) (entries : IdEntries) (planned : List Planned) (rewrites : List Rewrite) (erased : List ℕ)
    → IsPlannedRestart device_slots (proposal mode bits rules batch) state (halt_at done left twin) live slots entries (parts_as_planned planned rewrites erased)
    → let wide = on_device device_slots state in
    let before = stopped_ranges mode bits rules batch wide in
    let actions = restart_actions mode bits rules batch wide (restart_writes (proposal mode bits rules batch) state twin entries slots planned rewrites erased) in
    ((front : List Action) → IsFrontOf front actions → LeadsTo before wide front (live_behind before (bits_with mode rules batch bits) front))
    × LeadsTo before wide actions (bits_with mode rules batch bits)

-- So packets see the old or the new set's answer all through a restart: while its writes and its drain are made in their
-- order, all of them or the first, each search answers what an undivided look-up of its key would answer in the state at that
-- moment, and that is the old or the new set's answer. Translations and searches stand anywhere between.
abbrev pub PlannedRestartsShowOldOrNew : Type 0
PlannedRestartsShowOldOrNew =
    (device_slots : ℕ) (mode : Mode) (bits : FieldBits) (rules : List Rule) (batch : List Command) (state : State) (done left : List Task) (twin : Option ℕ)
    (live : List LivePiece) (slots : Slots) (entries : IdEntries) (planned : List Planned) (rewrites : List Rewrite) (erased : List ℕ) (flight : Flight) (events : List Event)
    → IsPlannedRestart device_slots (proposal mode bits rules batch) state (halt_at done left twin) live slots entries (parts_as_planned planned rewrites erased)
    → let wide = on_device device_slots state in
    let line : Pipeline = record { state = wide; flight = flight } in
    IsFrontOf (actions_in events) (restart_actions mode bits rules batch wide (restart_writes (proposal mode bits rules batch) state twin entries slots planned rewrites erased))
    → AreCurrent (stopped_ranges mode bits rules batch wide) flight → MayGo line events
    → AllByRecursion IsLookUp (searches line events) × AllByRecursion (IsOldOrNew rules (set_after rules batch)) (searches line events)

-- And words are in flight as a restart asks for it: where a commit was stopped, after any of its writes or its drain, those
-- in flight are current for these ranges;
abbrev pub StoppedCommitsAreCurrent : Type 0
StoppedCommitsAreCurrent =
    (mode : Mode) (bits : FieldBits) (rules : List Rule) (batch : List Command) (line : Pipeline) (made : List Write) (events : List Event)
    → MayBegin mode bits rules batch line.state → IsSegment mode bits rules batch line.state made
    → IsFrontOf (actions_in events) (commit_actions mode bits rules batch made) → AreCurrent bits line.flight → MayGo line events
    → AreCurrent (stopped_ranges mode bits rules batch (after_events line events).state) (after_events line events).flight

-- and so they are where a restart was stopped.
abbrev pub StoppedRestartsAreCurrent : Type 0
StoppedRestartsAreCurrent =
    (device_slots : ℕ) (mode : Mode) (bits : FieldBits) (rules : List Rule) (batch : List Command) (state : State) (done left : List Task) (twin : Option ℕ)
    (live : List LivePiece) (slots : Slots) (entries : IdEntries) (planned : List Planned) (rewrites : List Rewrite) (erased : List ℕ) (flight : Flight) (events : List Event)
    → IsPlannedRestart device_slots (proposal mode bits rules batch) state (halt_at done left twin) live slots entries (parts_as_planned planned rewrites erased)
    → let wide = on_device device_slots state in
    let line : Pipeline = record { state = wide; flight = flight } in
    IsFrontOf (actions_in events) (restart_actions mode bits rules batch wide (restart_writes (proposal mode bits rules batch) state twin entries slots planned rewrites erased))
    → AreCurrent (stopped_ranges mode bits rules batch wide) flight → MayGo line events
    → AreCurrent (stopped_ranges mode bits rules batch (after_events line events).state) (after_events line events).flight
