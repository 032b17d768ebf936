-- Runs: what the acts of a script do to the device and to the report, one after the other.
use Rattle.std.specs.Prelude.{◌≡◌, ℕ, ◌+◌, ◌*◌, ◌<◌, ◌≤◌, ◌⊎◌, Bool, true, false, Option, List, [], ◌∷◌, ◌++◌, length, take}
use Rattle.std.specs.List.{AllByRecursion}
use Rattle.rule_model.specs.declared.Key.{Key}
use Rattle.rule_model.specs.declared.Rule.{Rule}
use Rattle.rule_model.specs.RuleSet.{answer}
use Rattle.rule_store.specs.declared.Command.{Command as Change}
use Rattle.rule_store.specs.Batch.{set_after}
use Rattle.rule_store.specs.Verdict.{Verdict, Accepted, Unsound, OutOfBits, OutOfSlots, entries_of}
use Rattle.tcam_device.specs.declared.Write.{Write}
use Rattle.tcam_device.specs.declared.Action.{Action}
use Rattle.tcam_device.specs.State.{State, blank, IsInUse, state_after}
use Rattle.tcam_device.specs.Flight.{writes_in}
use Rattle.tcam_device.specs.Insertion.{Insertion, insertions, IsUncrossed}
use Rattle.commit_writes.specs.Proposal.{proposal}
use Rattle.commit_writes.specs.declared.Done.{Done}
use Rattle.commit_writes.specs.Actions.{back_from, commit_actions, up_to_writes, with_drain}
use Rattle.commit_writes.specs.Bits.{FieldBits, no_bits, bits_with, bits_left}
use Rattle.commit_writes.specs.Commit.{AreCounts, IsSegment}
use Rattle.commit_writes.specs.Shape.{insertions_behind}
use Rattle.readback.specs.Tasks.{Task}
use Rattle.readback.specs.Stage.{IsCommitAt, IsTwinSlot}
use Rattle.readback.specs.Going.{GoesOn, needs_drain}
use Rattle.batch_order.specs.Placing.{IsPlacedBy, IsRestPlacedBy}
use Rattle.script_runs.specs.Runs as runs
use Rattle.report_lines.specs.declared.Family.{Family}
use Rattle.report_lines.specs.declared.Family.TheVariants.{Route, Acl, Route6, Acl6}
use Rattle.replay.specs.declared.Act.{Act}
use Rattle.replay.specs.declared.Act.TheVariants.{Command, Ask, All, Probe, Packet, Commit, Trial, Crash}
use Rattle.settled_changes.specs.declared.requested.Requested.{Requested}
use Rattle.settled_changes.specs.declared.requested.Requested.TheVariants.{Nothing, Changes, Whole}
use Rattle.settled_changes.specs.Requested.{asked_behind, asked_with, batch_behind, batch_with, changes_in, settled_batch, settled_verdict}
use Rattle.replay.specs.Effects.{Setting, Effect, Prints, effects_of, flushed, probes_told, waiting_after}
use Rattle.replay.specs.Reports.{done_line, end_told, opened, packet_told, refusal_line}
use Rattle.replay.specs.Text.{aborted_line, restarted_line}

-- where a run stands: set, pending batch, what is asked for beside it, probes, live ranges, device, commits, writes, and
-- whether a commit was refused
pub record Progress : Type 0 where
  pub rules : List Rule
  pub batch : List Change
  pub asked : Requested
  pub probes : List Key
  pub bits : FieldBits
  pub state : State
  pub commits : ℕ
  pub writes : ℕ
  pub refused : Bool
  pub early : Bool

-- before the first act, over a blank device of so many slots
abbrev pub start : ℕ → Progress
start slots =
    record {
      rules = [];
      batch = [];
      asked = Nothing;
      probes = [];
      bits = no_bits;
      state = blank slots;
      commits = 0;
      writes = 0;
      refused = false;
      early = false;
    }

-- the actions of an accepted commit with these writes
abbrev pub actions_for : Setting → Progress → List Write → List Action
actions_for setting old made = commit_actions setting.mode old.bits old.rules old.batch made

-- what an accepted commit does by its first actions, behind what is told before them
abbrev pub carried_so_far : Setting → Progress → List Action → List Effect
carried_so_far setting old actions =
    opened setting old.commits old.batch ++ effects_of setting (probes_told setting.json old.probes) 0 0 old.state actions

-- All that it does by its actions, before its line: behind the last one the words in flight are searched.
abbrev pub carried : Setting → Progress → List Action → List Effect
carried setting old actions =
    let after = state_after old.state (writes_in actions) in
    carried_so_far setting old actions
    ++ flushed setting.family (probes_told setting.json old.probes) (length (writes_in actions)) after (waiting_after setting.depth 0 actions)

-- where a run stands after an accepted commit
abbrev pub after_segment : Setting → Progress → List Write → Progress
after_segment setting old made =
    record old {
      rules = set_after old.rules old.batch;
      batch = [];
      bits = bits_left (set_after old.rules old.batch) (bits_with setting.mode old.rules old.batch old.bits);
      state = state_after old.state made;
      commits = old.commits + 1;
      writes = old.writes + length made;
    }

-- where a run stands after a commit that was taken back by so many writes both ways: set, live ranges and device are as
-- before
abbrev pub after_return : Progress → ℕ → Progress
after_return old writes = record old { batch = []; commits = old.commits + 1; writes = old.writes + writes }

-- where a run stands after a refused commit
abbrev pub after_refusal : Progress → Progress
after_refusal old = record old { batch = []; commits = old.commits + 1; refused = true }

-- Of routes none of these insertions crosses others, and none takes more writes than a prefix may have lengths: 33, and of
-- IPv6 129.
abbrev pub OfFamily : Family → List Insertion → Type 0
OfFamily Route made = IsUncrossed 33 made
OfFamily Acl made = Unit {0}
OfFamily Route6 made = IsUncrossed 129 made
OfFamily Acl6 made = Unit {0}

-- the slots in use of a device, with its tables
abbrev pub used_slots : Setting → State → State
used_slots setting state = record state { slots = take setting.slots state.slots }

-- These writes are those of an accepted commit: a segment, its insertions by the placement and no others, in the slots in
-- use, with its numbers.
pub record AreCommitWrites (setting : Setting) (old : Progress) (made : List Write) : Type 0 where
  pub segment : IsSegment setting.mode old.bits old.rules old.batch old.state made
  pub placed : IsPlacedBy setting.placement setting.mode old.bits old.rules old.batch (used_slots setting old.state) made
  pub of_family : OfFamily setting.family (insertions old.state made)
  pub in_use : AllByRecursion (IsInUse setting.slots) made
  pub counts : Done
  pub numbers : AreCounts made (insertions old.state made) counts

-- An accepted commit makes its writes with its drain, each with its lines, and prints its numbers.
pub record Commits (setting : Setting) (old : Progress) (effects : List Effect) (new : Progress) : Type 0 where
  pub made : List Write
  pub writes : AreCommitWrites setting old made
  pub effects_are : effects ≡ carried setting old (actions_for setting old made) ++ Prints (done_line setting.json old.early (old.commits + 1) writes.counts) ∷ []
  pub after : new ≡ after_segment setting old made

-- A commit's writes are more than so many, behind which it is taken back or crashes.
pub record GoesPast (setting : Setting) (old : Progress) (most : ℕ) (made : List Write) : Type 0 where
  pub writes : AreCommitWrites setting old made
  pub more : most < length made

-- the actions of a commit that is taken back right after so many writes: no drain that is due then is made
abbrev pub actions_back : Setting → Progress → ℕ → List Write → List Action
actions_back setting old most made = back_from old.state (up_to_writes most (actions_for setting old made))

-- One that is taken back has more writes: it makes the first ones and undoes them, each with its lines, and prints how
-- many both ways.
pub record Returns (setting : Setting) (old : Progress) (most : ℕ) (effects : List Effect) (new : Progress) : Type 0 where
  pub made : List Write
  pub past : GoesPast setting old most made
  pub effects_are : effects ≡ carried setting old (actions_back setting old most made) ++ Prints (aborted_line (old.commits + 1) (2 * most)) ∷ []
  pub after : new ≡ after_return old (2 * most)

-- what a trial of so many writes does: with more it is taken back, and else it finishes
abbrev pub Tries : ℕ → Setting → Progress → List Effect → Progress → Type 0
Tries most setting old effects new =
    ((commits : Commits setting old effects new) × (length commits.made ≤ most)) ⊎ Returns setting old most effects new

-- its actions up to the crash: a drain that is due then isn't made
abbrev pub actions_before : Setting → Progress → ℕ → List Write → List Action
actions_before setting old after made = up_to_writes after (actions_for setting old made)

-- what the device holds at the crash
abbrev pub crash_state : Progress → ℕ → List Write → State
crash_state old after made = state_after old.state (take after made)

-- all of its actions: those up to the crash, and those of a plan that goes on, with its drain where one is due
abbrev pub actions_over : Setting → Progress → ℕ → List Write → List Write → List Action
actions_over setting old after made rest =
    let drains = needs_drain setting.mode old.bits old.rules old.batch (crash_state old after made) in
    actions_before setting old after made ++ with_drain drains rest

-- One that crashes has more writes than it makes before that. Then the manager is dropped, and another one goes on from
-- the stage that the device shows, over the crash with the same numbers and words in flight. The line tells how many
-- writes came before the crash, and how many there were.
pub record Restarts (setting : Setting) (old : Progress) (after : ℕ) (effects : List Effect) (new : Progress) : Type 0 where
  pub made : List Write
  pub crash : GoesPast setting old after made
  pub done : List Task
  pub left : List Task
  pub stage : IsCommitAt setting.slots setting.mode old.bits old.rules old.batch (crash_state old after made) done left
  pub twin : Option ℕ
  pub is_twin : IsTwinSlot (crash_state old after made).slots twin
  pub rest : List Write
  pub goes_on : GoesOn setting.slots setting.mode old.bits old.rules old.batch (crash_state old after made) left twin rest
  pub placed : (device_slots : ℕ) × IsRestPlacedBy setting.placement device_slots (proposal setting.mode old.bits old.rules old.batch) (used_slots setting (crash_state old after made)) done left twin rest
  pub of_family : OfFamily setting.family (insertions_behind goes_on.shape)
  pub in_use : AllByRecursion (IsInUse setting.slots) rest
  pub effects_are : effects ≡ carried setting old (actions_over setting old after made rest) ++ Prints (restarted_line (old.commits + 1) after (after + length rest)) ∷ []
  pub new_is : new ≡ after_segment setting old (take after made ++ rest)

-- what a commit does that crashes behind so many writes: with no more than these it finishes
abbrev pub Crashes : ℕ → Setting → Progress → List Effect → Progress → Type 0
Crashes after setting old effects new =
    ((commits : Commits setting old effects new) × (length commits.made ≤ after)) ⊎ Restarts setting old after effects new

-- A refused one writes nothing, and says why.
abbrev pub Refuses : Setting → Progress → Verdict → List Effect → Progress → Type 0
Refuses setting old reason effects new =
    (effects ≡ Prints (refusal_line setting old.commits reason) ∷ []) × (new ≡ after_refusal old)

-- what a commit does by its verdict
abbrev pub Judged : (Setting → Progress → List Effect → Progress → Type 0) → Setting → Progress → Verdict → List Effect → Progress → Type 0
Judged Does setting old Accepted effects new = Does setting old effects new
Judged Does setting old (Unsound fault) effects new = Refuses setting old (Unsound fault) effects new
Judged Does setting old (OutOfBits field needed free) effects new = Refuses setting old (OutOfBits field needed free) effects new
Judged Does setting old (OutOfSlots needed free) effects new = Refuses setting old (OutOfSlots needed free) effects new

-- where a commit of what is pending stands: it is settled to a batch of strict commands
abbrev pub settled_at : Progress → Progress
settled_at old = record old { batch = settled_batch old.rules old.batch old.asked; asked = Nothing }

-- the verdict on what is pending
abbrev pub pending_verdict : Setting → Progress → Verdict
pending_verdict setting old = settled_verdict setting.slots setting.mode old.rules old.batch old.asked

-- a commit is judged by that, and does what one of the settled batch does
abbrev pub Settles : (Setting → Progress → List Effect → Progress → Type 0) → Setting → Progress → List Effect → Progress → Type 0
Settles Does setting old effects new = Judged Does setting (settled_at old) (pending_verdict setting old) effects new

-- From where the run stands, an act has these effects, and the run stands there.
abbrev pub HasEffects : Setting → Progress → Act → List Effect → Progress → Type 0
HasEffects setting old (Command change) effects new =
    (effects ≡ []) × (new ≡ record old { batch = batch_with old.batch old.asked change; asked = asked_with old.asked change })
HasEffects setting old (Ask request) effects new =
    (effects ≡ []) × (new ≡ record old { batch = batch_behind old.batch old.asked; asked = asked_behind old.batch old.asked request })
HasEffects setting old All effects new = (effects ≡ []) × (new ≡ record old { batch = []; asked = Whole [] })
HasEffects setting old (Probe key) effects new = (effects ≡ []) × (new ≡ record old { probes = old.probes ++ key ∷ [] })
HasEffects setting old (Packet key) effects new =
    (effects ≡ packet_told setting (answer old.rules key)) × (new ≡ old)
HasEffects setting old Commit effects new = Settles Commits setting old effects new
HasEffects setting old (Trial most) effects new = Settles (Tries most) setting old effects new
HasEffects setting old (Crash after) effects new = Settles (Crashes after) setting old effects new

-- An act is cut before an effect that is due, in all that it does: these are its effects before that.
pub record IsCutInStep (setting : Setting) (before : Progress) (act : Act) (effects : List Effect) (due : Effect) : Type 0 where
  pub back : List Effect
  pub after : Progress
  pub step : HasEffects setting before act (effects ++ due ∷ back) after

-- Or it crashes, and is cut in what it does up to then: what goes on isn't planned yet.
pub record IsCutBeforeCrash (setting : Setting) (before : Progress) (act : Act) (effects : List Effect) (due : Effect) : Type 0 where
  pub after : ℕ
  pub act_is : act ≡ Crash after
  pub accepted : pending_verdict setting before ≡ Accepted
  pub made : List Write
  pub crash : GoesPast setting (settled_at before) after made
  pub back : List Effect
  pub parts : carried_so_far setting (settled_at before) (actions_before setting (settled_at before) after made) ≡ effects ++ due ∷ back

-- An act that is cut, either way.
abbrev pub IsCutStep : Setting → Progress → Act → List Effect → Effect → Type 0
IsCutStep setting before act effects due =
    IsCutInStep setting before act effects due ⊎ IsCutBeforeCrash setting before act effects due

-- A commit that crashed found no memory to go on: its writes up to the crash were made and told, and the words that are
-- in flight then are never searched.
pub record StopsAtCrash (setting : Setting) (before : Progress) (after : ℕ) (effects : List Effect) : Type 0 where
  pub made : List Write
  pub crash : GoesPast setting before after made
  pub effects_are : effects ≡ carried_so_far setting before (actions_before setting before after made)

-- What a commit takes memory for before it does anything: a strict batch that is accepted, and whatever is to be settled.
abbrev pub MayWant : Setting → Progress → Requested → Type 0
MayWant setting before Nothing = pending_verdict setting before ≡ Accepted
MayWant setting before (Changes requests) = Unit {0}
MayWant setting before (Whole requests) = Unit {0}

abbrev pub TakesAtOnce : Setting → Progress → List Effect → Type 0
TakesAtOnce setting before effects = MayWant setting before before.asked × (effects ≡ [])

-- An act takes memory when it has had these effects: a change, or a commit that is accepted or to be settled, before any, and
-- one that crashes once more then.
abbrev pub TakesMemory : Setting → Progress → Act → List Effect → Type 0
TakesMemory setting before (Command change) effects = effects ≡ []
TakesMemory setting before (Ask request) effects = effects ≡ []
TakesMemory setting before All effects = ⊥
TakesMemory setting before (Probe key) effects = ⊥
TakesMemory setting before (Packet key) effects = ⊥
TakesMemory setting before Commit effects = TakesAtOnce setting before effects
TakesMemory setting before (Trial most) effects = TakesAtOnce setting before effects
TakesMemory setting before (Crash after) effects =
    TakesAtOnce setting before effects
    ⊎ ((pending_verdict setting before ≡ Accepted) × StopsAtCrash setting (settled_at before) after effects)

-- the acts one after the other
abbrev pub Run : Setting → Progress → List Act → List Effect → Progress → Type 0
Run setting old acts effects new = runs.Run (HasEffects setting) old acts effects new

-- all that a run does over a device of so many slots by its acts, before its last line
abbrev pub Runs : Setting → ℕ → List Act → List Effect → Progress → Type 0
Runs setting device_slots acts effects last = Run setting (start device_slots) acts effects last

-- the last line of a run that came to the end of its acts
abbrev pub ending : Setting → Progress → List ℕ
ending setting progress =
    end_told setting progress.commits (length progress.rules) (entries_of setting.mode progress.rules) progress.writes (changes_in progress.batch progress.asked)
