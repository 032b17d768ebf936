-- What a run does to the outside, and the effects of one commit: its writes, its drain, and the lines of its probes.
use Rattle.std.specs.Prelude.{ℕ, zero, suc, ◌+◌, ◌==◌, Bool, true, false, min, Option, Some, None, List, [], ◌∷◌, ◌++◌, if◌then◌else◌}
use Rattle.rule_model.specs.declared.Key.{Key}
use Rattle.rule_store.specs.declared.Mode.{Mode}
use Rattle.tcam_device.specs.declared.Write.{Write}
use Rattle.tcam_device.specs.declared.Action.{Action}
use Rattle.tcam_device.specs.declared.Action.TheVariants.{Written, Drained}
use Rattle.tcam_device.specs.State.{State, apply, lookup}
use Rattle.tcam_device.specs.Flight.{writes_in}
use Rattle.batch_order.specs.declared.Placement.{Placement}
use Rattle.trace_file.specs.declared.TraceLine.TheVariants as line
use Rattle.json_text.specs.JsonText.{json_line}
use Rattle.report_lines.specs.declared.Family.{Family}
use Rattle.report_lines.specs.declared.deed.Deed.{Deed}
use Rattle.report_lines.specs.Named.{deed_of}
use Rattle.replay.specs.JsonLines.{journal_line, shared_line}
use Rattle.replay.specs.Text.{probe_line, write_line, named_line, drain_line}
use Rattle.report_lines.specs.Text.{family_version}

-- what the words of a command line ask for: the slots in use, the encoding of ranges, where insertions aim, the family,
-- a trace, after how many further writes a probe's word is searched, a report in JSON, a trace by names, removals
-- before the rest of a commit where they may go first, and tables, batches and scripts of the large sizes
pub record Setting : Type 0 where
  pub slots : ℕ
  pub mode : Mode
  pub placement : Placement
  pub family : Family
  pub trace : Bool
  pub depth : ℕ
  pub json : Bool
  pub names : Bool
  pub parts : Bool
  pub large : Bool

-- What a run does to the outside: it writes or drains the device, or it prints a line.
pub data Effect : Type 0 where
  Acts : (action : Action) → Effect
  Prints : (line : List ℕ) → Effect

-- the writes and drains of some effects
abbrev pub events_in : List Effect → List Action
events_in [] = []
events_in (Acts action ∷ effects) = action ∷ events_in effects
events_in (Prints line ∷ effects) = events_in effects

-- their journal
abbrev pub journal_of : List Effect → List Write
journal_of effects = writes_in (events_in effects)

-- the report of some effects
abbrev pub printed : List Effect → List ℕ
printed [] = []
printed (Acts action ∷ effects) = printed effects
printed (Prints line ∷ effects) = line ++ printed effects

-- a trace line, where a trace is wanted
abbrev pub traced : Bool → List ℕ → List Effect
traced trace line = if trace then Prints line ∷ [] else []

-- what a write does, by the state before it, where a trace is to tell that
abbrev pub deed_told : Bool → State → Write → Option Deed
deed_told true state write = Some (deed_of state.slots write)
deed_told false state write = None

-- the trace line of a write, by its number: what it does, where that is to be told, and else the write as the device has it
abbrev pub trace_line : Family → ℕ → Option Deed → Write → List ℕ
trace_line family number None write = write_line family number write
trace_line family number (Some deed) write = named_line family number deed

-- what is told of a write, by its number: its line of a report in JSON, and else its trace line, where a trace is wanted
abbrev pub write_told : Bool → Bool → Family → ℕ → Option Deed → Write → List Effect
write_told json trace family number deed write =
    elim json [ true ↦ Prints (json_line (family_version family) [] (journal_line write)) ∷ [] | false ↦ traced trace (trace_line family number deed write) ]

-- likewise of a drain, after so many writes
abbrev pub drain_told : Bool → Bool → ℕ → List Effect
drain_told json trace number = elim json [ true ↦ Prints (shared_line [] line.Drain) ∷ [] | false ↦ traced trace (drain_line number) ]

-- the probes that a report tells of: in JSON none
abbrev pub probes_told : Bool → List Key → List Key
probes_told json probes = elim json [ true ↦ [] | false ↦ probes ]

-- each probe's answer after so many writes, in the order of the probes: what the device answers its key when its word
-- is searched
abbrev pub searches_of : Family → ℕ → State → ℕ → List Key → List Effect
searches_of family number state probe [] = []
searches_of family number state probe (key ∷ keys) =
    Prints (probe_line family number probe (lookup state key)) ∷ searches_of family number state (probe + 1) keys

-- the words in flight of the probes of so many writes are searched, the oldest first
abbrev pub flushed : Family → List Key → ℕ → State → ℕ → List Effect
flushed family probes number state zero = []
flushed family probes number state (suc more) = searches_of family number state 1 probes ++ flushed family probes number state more

-- The lines behind a write, after which a word of each probe is made: where the words of a depth of writes wait
-- already, the oldest are searched, and of depth 0 the new ones. Making a word is no effect.
abbrev pub searched_after : Setting → List Key → ℕ → ℕ → State → List Effect
searched_after setting probes number waiting state =
    elim (waiting == setting.depth) [ true ↦ searches_of setting.family number state 1 probes | false ↦ [] ]

-- of how many writes the probes' words are in flight after some actions
abbrev pub waiting_after : ℕ → ℕ → List Action → ℕ
waiting_after depth waiting [] = waiting
waiting_after depth waiting (Written write ∷ actions) = waiting_after depth (min (waiting + 1) depth) actions
waiting_after depth waiting (Drained ∷ actions) = waiting_after depth 0 actions

-- What some actions of a commit do, after so many of its writes and with the words of so many of these in flight.
-- Before a drain all words in flight are searched.
abbrev pub effects_of : Setting → List Key → ℕ → ℕ → State → List Action → List Effect
effects_of setting probes number waiting state [] = []
effects_of setting probes number waiting state (Written write ∷ actions) =
    Acts (Written write) ∷ (write_told setting.json setting.trace setting.family (number + 1) (deed_told setting.names state write) write
    ++ (searched_after setting probes (number + 1) waiting (apply state write)
    ++ effects_of setting probes (number + 1) (min (waiting + 1) setting.depth) (apply state write) actions))
effects_of setting probes number waiting state (Drained ∷ actions) =
    flushed setting.family probes number state waiting
    ++ Acts Drained ∷ (drain_told setting.json setting.trace number ++ effects_of setting probes number 0 state actions)
