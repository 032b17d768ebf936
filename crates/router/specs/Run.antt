-- What the acts of a router's script do to both devices and to the report.
use Rattle.std.specs.Prelude.{◌≡◌, ℕ, ◌+◌, suc, Bool, true, false, List, [], ◌∷◌, ◌++◌, if◌then◌else◌, length, take}
use Rattle.std.specs.List.{AllByRecursion}
use Rattle.rule_model.specs.declared.IpVersion.{IpVersion}
use Rattle.rule_model.specs.declared.Rule.{Rule}
use Rattle.rule_model.specs.RuleSet.{answer}
use Rattle.rule_store.specs.declared.Mode.{Mode}
use Rattle.rule_store.specs.declared.Command.{Command}
use Rattle.rule_store.specs.Batch.{set_after}
use Rattle.rule_store.specs.Verdict.{Verdict, Accepted, Unsound, OutOfBits, OutOfSlots, verdict}
use Rattle.tcam_device.specs.State.{State}
use Rattle.commit_writes.specs.Bits.{FieldBits, no_bits, bits_with, bits_left}
use Rattle.batch_order.specs.declared.Placement.{Placement}
use Rattle.batch_order.specs.Placing.{IsPlacedBy}
use Rattle.split_device.specs.State.{IsSplitInUse, SplitState, undivided}
use Rattle.split_device.specs.declared.SplitAction.{SplitAction}
use Rattle.split_device.specs.declared.SplitAction.TheVariants.{Written, Drained}
use Rattle.split_device.specs.Flight.{state_of_events, written}
use Rattle.split_device.specs.Drains.{SinceDrain, nothing_since, since_all}
use Rattle.split_writes.specs.Insertion.{split_insertions, IsSplitUncrossed}
use Rattle.split_writes.specs.Segment.{IsSplitSegment, most_by_parts}
use Rattle.split_writes.specs.UnderWay.{IsUnderWay}
use Rattle.router.specs.declared.Side.{Side}
use Rattle.router.specs.declared.Side.TheVariants as side
use Rattle.router.specs.declared.RouterAct.{RouterAct}
use Rattle.router.specs.declared.RouterAct.TheVariants.{Change, Packet, Commit}
use Rattle.router.specs.Text.{packet_line, accepted_line, action_line, end_line, parts_behind, refused_line}

-- The slots in use of each device, how ranges are tested, where insertions aim, the version of IP, and whether each part has
-- a line.
pub record Setting : Type 0 where
  pub slots : ℕ
  pub mode : Mode
  pub placement : Placement
  pub version : IpVersion
  pub trace : Bool
  pub large : Bool

-- the slots of both devices
pub record DeviceSlots : Type 0 where
  pub listed : ℕ
  pub routed : ℕ

-- what a run does to the outside: it makes a part or a drain of a table's device, or prints a line
pub data Effect : Type 0 where
  Makes : (which : Side) (action : SplitAction) → Effect
  Prints : (line : List ℕ) → Effect

-- what was made of the list's device among some effects
abbrev pub made_of_list : List Effect → List SplitAction
made_of_list [] = []
made_of_list (Makes side.List action ∷ effects) = action ∷ made_of_list effects
made_of_list (Makes side.Routes action ∷ effects) = made_of_list effects
made_of_list (Prints line ∷ effects) = made_of_list effects

-- and of the routes'
abbrev pub made_of_routes : List Effect → List SplitAction
made_of_routes [] = []
made_of_routes (Makes side.List action ∷ effects) = made_of_routes effects
made_of_routes (Makes side.Routes action ∷ effects) = action ∷ made_of_routes effects
made_of_routes (Prints line ∷ effects) = made_of_routes effects

-- how many writes they have of both
abbrev pub writes_of : List Effect → ℕ
writes_of effects = length (written (made_of_list effects)) + length (written (made_of_routes effects))

-- the report of some effects
abbrev pub printed : List Effect → List ℕ
printed [] = []
printed (Makes which action ∷ effects) = printed effects
printed (Prints line ∷ effects) = line ++ printed effects

-- a trace line, where a trace is wanted
abbrev pub traced : Bool → List ℕ → List Effect
traced trace line = if trace then Prints line ∷ [] else []

-- The parts and drains that are made of a table's device, behind so many of its parts, each with its line where a trace is
-- wanted.
abbrev pub told_parts : Bool → IpVersion → Side → ℕ → List SplitAction → List Effect
told_parts trace version which parts [] = []
told_parts trace version which parts (action ∷ made) =
    Makes which action
    ∷ (traced trace (action_line version which (parts_behind parts action) action)
    ++ told_parts trace version which (parts_behind parts action) made)

-- where a table stands: its set, pending batch, live ranges, and what was made of its device since that was blank
pub record Table : Type 0 where
  pub rules : List Rule
  pub batch : List Command
  pub bits : FieldBits
  pub events : List SplitAction

-- the state of its device, of so many slots
abbrev pub table_state : ℕ → Table → SplitState
table_state slots table = state_of_events slots table.events

-- what was done to it since the last drain
abbrev pub since_last : Table → SinceDrain
since_last table = since_all nothing_since table.events

-- where a run stands: both tables, commits, writes, and whether a commit was refused
pub record Progress : Type 0 where
  pub listed : Table
  pub routed : Table
  pub commits : ℕ
  pub writes : ℕ
  pub refused : Bool

-- a table without rules, over a blank device
abbrev pub start_table : Table
start_table = record { rules = []; batch = []; bits = no_bits; events = [] }

-- before the first act, over blank devices
abbrev pub start : Progress
start = record { listed = start_table; routed = start_table; commits = 0; writes = 0; refused = false }

-- the verdict on a table's pending batch
abbrev pub verdict_of : Setting → Table → Verdict
verdict_of setting table = verdict setting.slots setting.mode table.rules table.batch

-- the slots in use of a state, with its tables
abbrev pub used_slots : Setting → State → State
used_slots setting state = record state { slots = take setting.slots state.slots }

-- A table's part of a commit that is made, over a device of so many slots: a segment of its pending batch by parts, which writes
-- no slot past those in use, and whose undivided writes have their insertions by the placement. From its first part to its last
-- each look-up, of one event or three, gets the answer of the old set or of the new one.
pub record IsPartOfCommit (setting : Setting) (slots : ℕ) (old : Table) (made : List SplitAction) : Type 0 where
  pub segment : IsSplitSegment setting.mode old.bits old.rules old.batch (table_state slots old) (since_last old) made
  pub placed : IsPlacedBy setting.placement setting.mode old.bits old.rules old.batch (used_slots setting (undivided (table_state slots old))) segment.writes
  pub in_use : AllByRecursion (IsSplitInUse setting.slots) (written made)
  pub under_way : IsUnderWay old.rules (set_after old.rules old.batch) old.bits (bits_with setting.mode old.rules old.batch old.bits)
      (table_state slots old) (since_last old) made

-- where a table stands after its part
abbrev pub after_part : Setting → Table → List SplitAction → Table
after_part setting old made =
    record {
      rules = set_after old.rules old.batch;
      batch = [];
      bits = bits_left (set_after old.rules old.batch) (bits_with setting.mode old.rules old.batch old.bits);
      events = old.events ++ made;
    }

-- how many drains there are
abbrev pub drains_in : List SplitAction → ℕ
drains_in [] = 0
drains_in (Written part ∷ made) = drains_in made
drains_in (Drained ∷ made) = suc (drains_in made)

-- the line of a commit that was made of these
abbrev pub made_line : Progress → List SplitAction → List SplitAction → List ℕ
made_line old listed routed =
    accepted_line (old.commits + 1) (length (written listed)) (length (written routed)) (drains_in listed + drains_in routed)

-- where a run stands after it
abbrev pub after_commit : Setting → Progress → List SplitAction → List SplitAction → Progress
after_commit setting old listed routed =
    record old {
      listed = after_part setting old.listed listed;
      routed = after_part setting old.routed routed;
      commits = old.commits + 1;
      writes = old.writes + (length (written listed) + length (written routed));
    }

-- A commit that is made: the list's part, then the routes', each with the lines of its trace, and a line with their numbers.
pub record Commits (setting : Setting) (slots : DeviceSlots) (old : Progress) (effects : List Effect) (new : Progress) : Type 0 where
  pub listed : List SplitAction
  pub routed : List SplitAction
  pub list_part : IsPartOfCommit setting slots.listed old.listed listed
  pub route_part : IsPartOfCommit setting slots.routed old.routed routed
  -- no insertion of a route crosses others, nor takes more parts than a prefix may have lengths
  pub of_routes : IsSplitUncrossed (most_by_parts setting.version) (split_insertions (table_state slots.routed old.routed) (written routed))
  pub effects_are : effects ≡ told_parts setting.trace setting.version side.List 0 listed
      ++ (told_parts setting.trace setting.version side.Routes 0 routed ++ Prints (made_line old listed routed) ∷ [])
  pub after : new ≡ after_commit setting old listed routed

-- where a run stands after a refused commit: both batches are dropped
abbrev pub after_refusal : Progress → Progress
after_refusal old =
    record old {
      listed = record old.listed { batch = [] };
      routed = record old.routed { batch = [] };
      commits = old.commits + 1;
      refused = true;
    }

-- A commit that is refused for one table's batch writes nothing, and says why.
abbrev pub Refuses : Setting → Side → Progress → Verdict → List Effect → Progress → Type 0
Refuses setting which old reason effects new =
    (effects ≡ Prints (refused_line setting.version which (old.commits + 1) reason) ∷ []) × (new ≡ after_refusal old)

-- by the routes' verdict, where the list's is that its batch is accepted
abbrev pub JudgedByRoutes : Setting → DeviceSlots → Progress → Verdict → List Effect → Progress → Type 0
JudgedByRoutes setting slots old Accepted effects new = Commits setting slots old effects new
JudgedByRoutes setting slots old (Unsound fault) effects new = Refuses setting side.Routes old (Unsound fault) effects new
JudgedByRoutes setting slots old (OutOfBits field need free) effects new = Refuses setting side.Routes old (OutOfBits field need free) effects new
JudgedByRoutes setting slots old (OutOfSlots need free) effects new = Refuses setting side.Routes old (OutOfSlots need free) effects new

-- what a commit does: the list's verdict is looked at first
abbrev pub Judged : Setting → DeviceSlots → Progress → Verdict → List Effect → Progress → Type 0
Judged setting slots old Accepted effects new = JudgedByRoutes setting slots old (verdict_of setting old.routed) effects new
Judged setting slots old (Unsound fault) effects new = Refuses setting side.List old (Unsound fault) effects new
Judged setting slots old (OutOfBits field need free) effects new = Refuses setting side.List old (OutOfBits field need free) effects new
Judged setting slots old (OutOfSlots need free) effects new = Refuses setting side.List old (OutOfSlots need free) effects new

-- a change joins the batch of its table
abbrev pub with_change : Progress → Side → Command → Progress
with_change old side.List command = record old { listed = record old.listed { batch = old.listed.batch ++ command ∷ [] } }
with_change old side.Routes command = record old { routed = record old.routed { batch = old.routed.batch ++ command ∷ [] } }

-- From where the run stands, an act has these effects, and the run stands there.
abbrev pub HasEffects : Setting → DeviceSlots → Progress → RouterAct → List Effect → Progress → Type 0
HasEffects setting slots old (Change which command) effects new = (effects ≡ []) × (new ≡ with_change old which command)
HasEffects setting slots old (Packet key) effects new =
    (effects ≡ Prints (packet_line setting.version (answer old.listed.rules key) (answer old.routed.rules key)) ∷ []) × (new ≡ old)
HasEffects setting slots old Commit effects new = Judged setting slots old (verdict_of setting old.listed) effects new

-- an act that is cut before an effect that is due: these are its effects before that
pub record IsCutStep (setting : Setting) (slots : DeviceSlots) (before : Progress) (act : RouterAct) (effects : List Effect) (due : Effect) : Type 0 where
  pub back : List Effect
  pub after : Progress
  pub step : HasEffects setting slots before act (effects ++ due ∷ back) after

-- an act that takes memory, before any effect: a change, or a commit whose batch the list accepts
abbrev pub TakesMemory : Setting → Progress → RouterAct → Type 0
TakesMemory setting before (Change which command) = Unit {0}
TakesMemory setting before (Packet key) = ⊥
TakesMemory setting before Commit = verdict_of setting before.listed ≡ Accepted

-- the last line of a run that came to the end of its acts
abbrev pub ending : Progress → List ℕ
ending progress =
    end_line (length progress.listed.rules) (length progress.routed.rules) progress.writes
    (length progress.listed.batch + length progress.routed.batch)
