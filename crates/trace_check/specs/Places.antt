-- Which lines a trace may have where: the family first, then commit after commit by their numbers, and a last line.
use Rattle.std.specs.Prelude.{◌≡◌, ◌↔◌, ℕ, ◌+◌, ◌≤◌, Bool, true, nat_lt, nat_eq, IsTrue, Option, Some, None, List, [], ◌∷◌, ◌++◌, length, if◌then◌else◌}
use Rattle.std.specs.List.{AllByRecursion}
use Rattle.rule_model.specs.declared.IpVersion.{IpVersion}
use Rattle.trace_check.specs.declared.places.Place.{Place}
use Rattle.trace_check.specs.declared.places.Place.TheVariants.{AtStart, Between, InBatch, InEvents, AtEnd}
use Rattle.trace_file.specs.declared.TraceLine.{TraceLine}
use Rattle.trace_file.specs.declared.TraceLine.TheVariants.{Head, Commit, Add, Set, Del, Put, Erase, Table, Drain, Done, Refused, End, Fault}

-- the most commands of a commit
abbrev pub trace_commands : ℕ
trace_commands = 12288

-- the kinds of lines
pub data LineKind : Type 0 where
  Heads : LineKind
  Begins : (commit : ℕ) → LineKind
  Changes : LineKind
  -- an event, which names a slot, or none
  Happens : (slot : Option ℕ) → LineKind
  Finishes : (commit : ℕ) → LineKind
  Refuses : (commit : ℕ) → LineKind
  Ends : LineKind

-- the kind of a line
abbrev pub kind_of : TraceLine → LineKind
kind_of (Head version acl bits slots) = Heads
kind_of (Commit n) = Begins n
kind_of (Add rule) = Changes
kind_of (Set priority answer) = Changes
kind_of (Del priority) = Changes
kind_of (Put slot entry) = Happens (Some slot)
kind_of (Erase slot) = Happens (Some slot)
kind_of (Table field port word) = Happens None
kind_of Drain = Happens None
kind_of (Done n) = Finishes n
kind_of (Refused n) = Refuses n
kind_of (End writes) = Ends
kind_of (Fault line) = Ends

-- the slot is one of so many in use
abbrev pub is_slot_in_use : ℕ → Option ℕ → Bool
is_slot_in_use slots None = true
is_slot_in_use slots (Some slot) = nat_lt slot slots

-- a place, if a test passes
abbrev pub only_if : Bool → Place → Option Place
only_if test place = if test then Some place else None

-- where a trace is after one line more, over so many slots, if the line may stand there
abbrev pub place_by : ℕ → Place → LineKind → Option Place
place_by slots AtStart Heads = Some (Between 0)
place_by slots (Between commits) (Begins n) = only_if (nat_eq n (commits + 1)) (InBatch n 0)
place_by slots (Between commits) (Refuses n) = only_if (nat_eq n (commits + 1)) (Between n)
place_by slots (Between commits) Ends = Some AtEnd
place_by slots (InBatch commit commands) Changes = only_if (nat_lt commands trace_commands) (InBatch commit (commands + 1))
place_by slots (InBatch commit commands) (Happens slot) = only_if (is_slot_in_use slots slot) (InEvents commit)
place_by slots (InBatch commit commands) (Finishes n) = only_if (nat_eq n commit) (Between commit)
place_by slots (InEvents commit) (Happens slot) = only_if (is_slot_in_use slots slot) (InEvents commit)
place_by slots (InEvents commit) (Finishes n) = only_if (nat_eq n commit) (Between commit)
place_by slots place kind = None

-- the same of a line
abbrev pub place_after : ℕ → Place → TraceLine → Option Place
place_after slots place line = place_by slots place (kind_of line)

-- lines that lead from a place to another one, over so many slots
abbrev pub LinesLead : ℕ → Place → List TraceLine → Place → Type 0
LinesLead slots place [] end = place ≡ end
LinesLead slots place (line ∷ lines) end = (next : Place) × (place_after slots place line ≡ Some next) × LinesLead slots next lines end

-- In words: what stands for one commit, by its number. It was refused, or it has commands and events.
pub data Part : Type 0 where
  Refusal : Part
  Work : (commands events : List TraceLine) → Part

-- the lines of a commit
abbrev pub part_lines : ℕ → Part → List TraceLine
part_lines n Refusal = Refused n ∷ []
part_lines n (Work commands events) = Commit n ∷ commands ++ (events ++ Done n ∷ [])

-- the lines of commits, from a number on
abbrev pub parts_lines : ℕ → List Part → List TraceLine
parts_lines n [] = []
parts_lines n (part ∷ parts) = part_lines n part ++ parts_lines (n + 1) parts

-- an event, of a slot in use where it names one
abbrev pub IsEvent : ℕ → TraceLine → Type 0
IsEvent slots line = (slot : Option ℕ) × (kind_of line ≡ Happens slot) × IsTrue (is_slot_in_use slots slot)

-- at most 12,288 commands, and events
abbrev pub IsPart : ℕ → Part → Type 0
IsPart slots Refusal = Unit {0}
IsPart slots (Work commands events) =
    (length commands ≤ trace_commands) × AllByRecursion (λ line. kind_of line ≡ Changes) commands × AllByRecursion (IsEvent slots) events

-- a whole trace over so many slots: its head, its commits from 1 on, and its last line
pub record IsWholeTrace (slots : ℕ) (lines : List TraceLine) : Type 0 where
  pub version : IpVersion
  pub acl : Bool
  pub bits : Bool
  pub parts : List Part
  pub last : TraceLine
  pub are_parts : AllByRecursion (IsPart slots) parts
  pub is_last : kind_of last ≡ Ends
  pub lines_are : lines ≡ Head version acl bits slots ∷ (parts_lines 1 parts ++ last ∷ [])

-- a line may stand behind some where a whole trace begins with them and it
abbrev pub MayStand : ℕ → List TraceLine → TraceLine → Type 0
MayStand slots before line = (later : List TraceLine) × IsWholeTrace slots (before ++ line ∷ later)

-- a line is a head over so many slots, where it is a head
abbrev pub IsHeadOf : ℕ → TraceLine → Type 0
IsHeadOf slots (Head version acl bits n) = n ≡ slots
IsHeadOf slots line = Unit {0}

-- and so is the first of some lines, with one more behind them
abbrev pub HasHeadOf : ℕ → List TraceLine → TraceLine → Type 0
HasHeadOf slots [] line = IsHeadOf slots line
HasHeadOf slots (first ∷ lines) line = IsHeadOf slots first

-- the places say the same as the words
abbrev pub PlacesAreExact : Type 0
PlacesAreExact =
    (slots : ℕ) (before : List TraceLine) (place : Place) (line : TraceLine) → LinesLead slots AtStart before place → HasHeadOf slots before line
    → ((next : Place) × (place_after slots place line ≡ Some next)) ↔ MayStand slots before line
