-- What is known behind some lines of any driver's trace: the set, the commands of the commit under way, and the device.
use Rattle.std.specs.Prelude.{ℕ, ◌+◌, Bool, true, is_none, nat_eq, Option, Some, None, List, [], ◌∷◌, ◌++◌, length, take, drop, replicate, if◌then◌else◌}
use Rattle.rule_model.specs.declared.IpVersion.{IpVersion}
use Rattle.rule_model.specs.declared.IpVersion.TheVariants.{V4}
use Rattle.rule_model.specs.declared.Rule.{Rule}
use Rattle.rule_model.specs.declared.words.Entry.{Entry}
use Rattle.rule_store.specs.declared.Command.{Command}
use Rattle.rule_store.specs.declared.Command.TheVariants as change
use Rattle.rule_store.specs.Batch.{set_after, command_fault}
use Rattle.tcam_device.specs.declared.Write.TheVariants as write
use Rattle.tcam_device.specs.State.{State, blank, apply}
use Rattle.trace_file.specs.declared.TraceLine.{TraceLine}
use Rattle.trace_file.specs.declared.TraceLine.TheVariants.{Head, Add, Set, Del, Put, Erase, Table, Done, End}
use Rattle.trace_check.specs.declared.places.Place.{Place}
use Rattle.trace_check.specs.Places.{place_by}
use Rattle.driver_trace.specs.declared.DriverLine.{DriverLine}
use Rattle.driver_trace.specs.declared.DriverLine.TheVariants.{Common, Move, Back}
use Rattle.driver_trace.specs.DriverLines.{driver_kind}

-- the slots with others from one slot on
abbrev pub with_block : List (Option Entry) → ℕ → List (Option Entry) → List (Option Entry)
with_block slots at block = take at slots ++ (block ++ drop (at + length block) slots)

-- The slots behind a block move, which is one event: what stood in so many slots stands from another one on, and of these
-- slots those that nothing came to are empty.
abbrev pub moved_slots : List (Option Entry) → ℕ → ℕ → ℕ → List (Option Entry)
moved_slots slots from to count = with_block (with_block slots from (replicate count None)) to (take count (drop from slots))

-- the device behind a line of our own traces
abbrev pub state_behind_common : State → TraceLine → State
state_behind_common state (Put slot entry) = apply state (write.Slot slot (Some entry))
state_behind_common state (Erase slot) = apply state (write.Slot slot None)
state_behind_common state (Table field port word) = apply state (write.Table field port word)
state_behind_common state line = state

-- The device behind a line.
abbrev pub state_behind : State → DriverLine → State
state_behind state (Common line) = state_behind_common state line
state_behind state (Move from to count) = record state { slots = moved_slots state.slots from to count }
state_behind state (Back n) = state

-- what is known behind some lines
pub record Known : Type 0 where
  pub version : IpVersion
  pub slots : ℕ
  -- the set, and the commands of the commit under way
  pub rules : List Rule
  pub batch : List Command
  pub state : State
  -- how many writes there were, a block move counted as one, and how many commits that came to an end
  pub writes : ℕ
  pub commits : ℕ

-- before the first commit, over so many slots
abbrev pub first_known : IpVersion → ℕ → Known
first_known version slots =
    record { version = version; slots = slots; rules = []; batch = []; state = blank slots; writes = 0; commits = 0 }

-- the set that the commit under way leads to
abbrev pub rules_ahead : Known → List Rule
rules_ahead now = set_after now.rules now.batch

-- one command more
abbrev pub with_change : Known → Command → Known
with_change now command = record now { batch = now.batch ++ command ∷ [] }

-- one write more
abbrev pub with_event : Known → DriverLine → Known
with_event now line = record now { state = state_behind now.state line; writes = now.writes + 1 }

-- the commit under way came to an end, with this set
abbrev pub with_end : Known → List Rule → Known
with_end now rules = record now { rules = rules; batch = []; commits = now.commits + 1 }

-- what is known behind a line of our own traces
abbrev pub known_on_common : Known → TraceLine → Known
known_on_common now (Head version acl bits slots) = first_known version slots
known_on_common now (Add rule) = with_change now (change.Add rule)
known_on_common now (Set priority answer) = with_change now (change.Set priority answer)
known_on_common now (Del priority) = with_change now (change.Del priority)
known_on_common now (Put slot entry) = with_event now (Common (Put slot entry))
known_on_common now (Erase slot) = with_event now (Common (Erase slot))
known_on_common now (Table field port word) = with_event now (Common (Table field port word))
known_on_common now (Done n) = with_end now (rules_ahead now)
known_on_common now line = now

-- What is known behind one line more. A commit that is taken back leaves the set that it began with.
abbrev pub known_on : Known → DriverLine → Known
known_on now (Common line) = known_on_common now line
known_on now (Move from to count) = with_event now (Move from to count)
known_on now (Back n) = with_end now now.rules

-- what is known before the first line, which says what the others are judged by
abbrev pub unknown : Known
unknown = first_known V4 0

-- a command can be meant: no command of its commit fails over the set
abbrev pub is_meant : Known → Command → Bool
is_meant now command = is_none (command_fault now.rules now.batch command)

-- a line agrees with what is known: a command can be meant, and the writes that a last line tells are those that were made
abbrev pub agrees : Known → DriverLine → Bool
agrees now (Common (Add rule)) = is_meant now (change.Add rule)
agrees now (Common (Set priority answer)) = is_meant now (change.Set priority answer)
agrees now (Common (Del priority)) = is_meant now (change.Del priority)
agrees now (Common (End writes)) = nat_eq writes now.writes
agrees now line = true

-- Where a trace is after one line more, if the line may stand there.
abbrev pub driver_place : Known → Place → DriverLine → Option Place
driver_place now place line = if agrees now line then place_by now.slots place (driver_kind line) else None
