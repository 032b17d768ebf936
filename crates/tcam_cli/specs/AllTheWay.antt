-- What packets see of a run, in the words of rule sets: the acts lead from set to set, and after each device write
-- every packet key has the answer of one of these sets or of the next one.
use Rattle.std.specs.Prelude.{◌≡◌, ℕ, suc, ◌+◌, ◌-◌, ◌≤◌, ◌⊎◌, Bool, false, Option, Some, IfSome, option_map, List, [], ◌∷◌, ◌++◌, length, take, slice_get}
use Rattle.std.specs.List.{AllByRecursion}
use Rattle.rule_model.specs.declared.Rule.{Rule}
use Rattle.rule_store.specs.declared.Command.{Command as Change}
use Rattle.tcam_device.specs.declared.Write.{Write}
use Rattle.tcam_device.specs.State.{State, blank, Shows, state_after}
use Rattle.tcam_device.specs.Hitless.{ShowsOldOrNew}
use Rattle.replay.specs.declared.Act.{Act}
use Rattle.replay.specs.declared.Act.TheVariants.{Command, Ask, All, Probe, Packet, Commit, Trial, Crash}
use Rattle.settled_changes.specs.declared.requested.Requested.{Requested}
use Rattle.settled_changes.specs.declared.requested.Requested.TheVariants.{Nothing}
use Rattle.replay.specs.Fates.{IsCrash}
use Rattle.report_lines.specs.Sizes.{sizes_by}
use Rattle.replay.specs.Script.{Script, script_of}
use Rattle.replay.specs.Effects.{Setting}
use Rattle.script_runs.specs.declared.Status.{Status}
use Rattle.script_runs.specs.declared.Status.TheVariants.{Done, Refused, Script as ScriptFault, ReadFault, WriteFault, DeviceFault, Memory, Usage}
use Rattle.trace_verify.specs.Verify.{IsHitlessText}
use Rattle.script_runs.specs.Script.{acts_of}
use Rattle.script_runs.specs.Places.{IsFirstPast}
use Rattle.tcam_cli.specs.Headline.{Job, NoJob, Tells, Reads, Makes, Verifies, script_so_far}
use Rattle.tcam_cli.specs.Judgements.{Judgement, Declined, LedTo, LedBack, judgements}
use Rattle.tcam_cli.specs.MadeScript.{made_script}
use Rattle.tcam_cli.specs.Readings.{reading_by}

-- A set that acts lead through: one that stands when its commit is made, or the new one of a trial that is taken back.
pub data Led : Type 0 where
  Stands : (rules : List Rule) → Led
  TakenBack : (rules : List Rule) → Led

abbrev pub rules_in : Led → List Rule
rules_in (Stands rules) = rules
rules_in (TakenBack rules) = rules

-- the rules of the set at this place, where there is one
abbrev pub set_at : List Led → ℕ → Option (List Rule)
set_at sets place = option_map rules_in (slice_get sets place)

-- the sets that these commits lead to
abbrev pub led_by : List Judgement → List Led
led_by [] = []
led_by (Declined ∷ behind) = led_by behind
led_by (LedTo new ∷ behind) = Stands new ∷ led_by behind
led_by (LedBack new old ∷ behind) = TakenBack new ∷ Stands old ∷ led_by behind

-- The sets that acts lead through, by the rule lists and by which accepted trials are taken back: the first, one more
-- for each accepted commit, and for a trial that is taken back the new set and then the old one again.
abbrev pub sets_through : Setting → List Bool → List Rule → List Change → Requested → List Act → List Led
sets_through setting backs rules batch asked acts = Stands rules ∷ led_by (judgements setting backs rules batch asked acts)

-- the sets that a script leads a blank device through: the empty one first
abbrev pub sets_of : Setting → List Bool → Script → List Led
sets_of setting backs script = sets_through setting backs [] [] Nothing (acts_of script)

-- every key has the answer of the set at this place, or of the next one, where there is one
abbrev pub ShowsSetOrNext : State → List Led → ℕ → Type 0
ShowsSetOrNext state sets place =
    (old : List Rule) × (new : List Rule) × (set_at sets place ≡ Some old)
    × ((set_at sets (place + 1) ≡ Some new) ⊎ (new ≡ old)) × ShowsOldOrNew state old new

-- Before the first and after each of the writes every key has the answer of one of the sets or of the next one, and
-- the places of these sets come in their order: none is gone back to. A key's answer may come again all the same, from
-- a later place, or within a commit that replaces a rule. And where a place is first come to or passed, every key has the
-- answer of the set there, but for a trial's that is taken back: so a commit's last write leaves its new set, and no commit
-- is made together with the next.
pub record AnswersAllTheWay (state : State) (sets : List Led) (writes : List Write) : Type 0 where
  pub place : ℕ → ℕ
  pub rises : (n m : ℕ) → n ≤ m → place n ≤ place m
  pub answers : (n : ℕ) → ShowsSetOrNext (state_after state (take n writes)) sets (place n)
  pub whole : (k n : ℕ) (rules : List Rule) → slice_get sets (suc k) ≡ Some (Stands rules) → IsFirstPast place k n → Shows (state_after state (take n writes)) rules

-- Every key has the answer of the first set after some of the writes, that of the second after some more, and so on: each set
-- is shown whole, in turn, but for those of trials that are taken back.
abbrev pub AreShownInTurn : State → List Led → List Write → Type 0
AreShownInTurn state [] writes = Unit {0}
AreShownInTurn state (Stands rules ∷ sets) writes =
    (made : List Write) × (behind : List Write) × (writes ≡ made ++ behind) × Shows (state_after state made) rules
    × AreShownInTurn (state_after state made) sets behind
AreShownInTurn state (TakenBack rules ∷ sets) writes = AreShownInTurn state sets writes

-- the sets are shown in turn, and after all of the writes every key has the answer of the last one
pub record EndsAtLast (state : State) (sets : List Led) (writes : List Write) : Type 0 where
  pub front : List Led
  pub rules : List Rule
  pub sets_are : sets ≡ front ++ Stands rules ∷ []
  pub shows : Shows (state_after state writes) rules
  pub in_turn : AreShownInTurn state sets writes

-- These acts are the first of the script, and so are their sets. All of them are carried out, so the writes end at the
-- last of their sets.
pub record EndsAfter (state : State) (setting : Setting) (backs : List Bool) (script : Script) (done : List Act) (writes : List Write) : Type 0 where
  pub later : List Act
  pub acts : acts_of script ≡ done ++ later
  pub behind : List Led
  pub sets : sets_of setting backs script ≡ sets_through setting backs [] [] Nothing done ++ behind
  pub answers : AnswersAllTheWay state (sets_through setting backs [] [] Nothing done) writes
  pub ends : EndsAtLast state (sets_through setting backs [] [] Nothing done) writes

-- some first acts of the script are carried out whole: all, none, or any number of them
abbrev pub EndsAfterSome : State → Setting → List Bool → Script → List Write → Type 0
EndsAfterSome state setting backs script writes = (done : List Act) × EndsAfter state setting backs script done writes

-- an act that has no line written after a write
abbrev pub IsNoProbe : Act → Type 0
IsNoProbe (Command change) = Unit {0}
IsNoProbe (Ask request) = Unit {0}
IsNoProbe All = Unit {0}
IsNoProbe (Probe key) = ⊥
IsNoProbe (Packet key) = Unit {0}
IsNoProbe Commit = Unit {0}
IsNoProbe (Trial most) = Unit {0}
IsNoProbe (Crash after) = Unit {0}

-- no write has a line of its own: neither a trace nor a report in JSON is wanted, and the script has no probe
abbrev pub TellsNoWrite : Setting → Script → Type 0
TellsNoWrite setting script = (setting.trace ≡ false) × (setting.json ≡ false) × AllByRecursion IsNoProbe (acts_of script)

-- each commit of a run is made in one part
abbrev pub MakesInOne : Setting → Type 0
MakesInOne setting = setting.parts ≡ false

-- no commit of the script crashes
abbrev pub CrashesNowhere : Script → Type 0
CrashesNowhere script = AllByRecursion (λ act. IsCrash act → ⊥) (acts_of script)

-- Where the writes of a run end, by its status: at the last set of the script, of what came of it, or of some first
-- acts. Memory is wanting only before a commit's first write, or where it crashes: so in a script without crashes want of
-- memory leaves no commit half made. A commit prints its line after its last write: so a line that fails leaves none half
-- made where no write has a line of its own. Both hold where each commit is made in one part: of two parts the first may be
-- made alone. A device write that fails each time may leave a commit half made, and so may the line of a write, or a crash
-- that finds no memory: the writes then end within a commit, where each key has the answer of the set before it or of the
-- one after it (`answers` of IsHitlessRun), and nothing more can be said.
abbrev pub EndsAs : State → Setting → List Bool → Script → Script → Status → List Write → Type 0
EndsAs state setting backs script came Done writes = EndsAtLast state (sets_of setting backs script) writes
EndsAs state setting backs script came Refused writes = EndsAtLast state (sets_of setting backs script) writes
EndsAs state setting backs script came ScriptFault writes = EndsAtLast state (sets_of setting backs script) writes
EndsAs state setting backs script came ReadFault writes = EndsAfter state setting backs script (acts_of came) writes
EndsAs state setting backs script came WriteFault writes = TellsNoWrite setting script → MakesInOne setting → EndsAfterSome state setting backs script writes
EndsAs state setting backs script came DeviceFault writes = Unit {0}
EndsAs state setting backs script came Memory writes = CrashesNowhere script → MakesInOne setting → EndsAfterSome state setting backs script writes
EndsAs state setting backs script came Usage writes = ⊥

-- What packets see of a run over a script, on a device that was blank: its trials were taken back, or not, as these
-- say.
pub record IsHitlessRun (setting : Setting) (device_slots : ℕ) (script came : Script) (status : Status) (journal : List Write) : Type 0 where
  pub backs : List Bool
  pub answers : AnswersAllTheWay (blank device_slots) (sets_of setting backs script) journal
  pub ends : EndsAs (blank device_slots) setting backs script came status journal

-- What packets see of a job over a device that was blank, where the source is told; of one that foretells nothing
-- specs/Given.antt speaks, and made commands need none. A job without a script writes
-- nothing; and where the check of a trace ends well, each commit of the trace is hitless, for look-ups of two events too.
abbrev pub IsHitlessJob : Job → ℕ → Status → Option (List ℕ) → Option (List ℕ) → List Write → Type 0
IsHitlessJob NoJob device_slots status left_old left_new journal = journal ≡ []
IsHitlessJob (Tells own) device_slots status left_old left_new journal = journal ≡ []
IsHitlessJob (Reads setting) device_slots status left_old left_new journal =
    IfSome left_old (λ old. IfSome left_new (λ new.
    IsHitlessRun setting device_slots (script_of (sizes_by setting.large) (reading_by setting) old)
    (script_so_far (sizes_by setting.large) (reading_by setting) (take (length old - length new) old)) status journal))
IsHitlessJob (Makes setting seed rules batches) device_slots status left_old left_new journal =
    IsHitlessRun setting device_slots (made_script seed rules batches) (made_script seed rules batches) status journal
IsHitlessJob Verifies device_slots status left_old left_new journal =
    (journal ≡ []) × (status ≡ Done → IfSome left_old (λ text. IfSome left_new (λ _. (commits : ℕ) × (writes : ℕ) × IsHitlessText text commits writes)))
