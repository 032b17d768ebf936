-- What a line and the end of a script come to on a sink, by the bytes that it holds, or accepted, before and after.
use Rattle.std.specs.Prelude.{◌≡◌, ◌⊎◌, ℕ, ◌+◌, ◌≤◌, Bool, true, false, Option, Result, Ok, Err, List, [], ◌++◌, length, take}
use Rattle.std.specs.Io.KnownBytes.{Appends}
use Rattle.script_runs.specs.declared.Status.{Status}
use Rattle.script_runs.specs.declared.Status.TheVariants as status
use Rattle.import_lines.specs.Import.{Telling, LineTold, SaidBy, UnsaidBy, end_line, left_out_count, left_out_line, stop_line}
use Rattle.import_lines.specs.Rounds.{Standing}

-- a part of a text was written, perhaps none or all of it
abbrev pub WritesPart : Option (List ℕ) → Option (List ℕ) → List ℕ → Type 0
WritesPart old new text = (n : ℕ) × (n ≤ length text) × Appends old new (take n text)

-- The last text of a script was written whole, and the status follows, or a part of it, and the sink failed.
abbrev pub ClosesBy : List ℕ → Status → Status → Option (List ℕ) → Option (List ℕ) → Type 0
ClosesBy text last result old new =
    ((result ≡ last) × Appends old new text) ⊎ ((result ≡ status.WriteFault) × WritesPart old new text)

-- or memory was wanting before anything was written
abbrev pub LastBy : List ℕ → Status → Status → Option (List ℕ) → Option (List ℕ) → Type 0
LastBy text last result old new = ClosesBy text last result old new ⊎ ((result ≡ status.Memory) × Appends old new [])

-- What stands behind all lines: bytes of the script, behind the count of what is left out, or why it isn't said.
abbrev pub ClosesAs : ℕ → LineTold → Status → Option (List ℕ) → Option (List ℕ) → Type 0
ClosesAs left_out (SaidBy bytes) result old new = LastBy (left_out_count left_out ++ bytes) status.Done result old new
ClosesAs left_out (UnsaidBy why) result old new = LastBy (end_line why) status.Script result old new

-- A text behind which the import goes on was written whole, or the import is at its end.
abbrev pub PassesBy : Result (Unit {0}) Status → List ℕ → Option (List ℕ) → Option (List ℕ) → Type 0
PassesBy (Ok done) text old new = Appends old new text
PassesBy (Err status.Memory) text old new = Appends old new []
PassesBy (Err status.WriteFault) text old new = WritesPart old new text
PassesBy (Err _) text old new = ⊥

-- what a line that isn't said comes to: a comment where it may be left out, and else the last line of the script
abbrev pub NamesBy : Bool → ℕ → List ℕ → Result (Unit {0}) Status → Option (List ℕ) → Option (List ℕ) → Type 0
NamesBy true number why result old new = PassesBy result (left_out_line number why) old new
NamesBy false number why (Ok done) old new = ⊥
NamesBy false number why (Err answer) old new = LastBy (stop_line number why) status.Script answer old new

-- what a line comes to where the import goes on: it is said and known, or left out and counted
abbrev pub PassesAs : {Known : Type 0} → Telling Known → Standing Known → List ℕ → ℕ → LineTold → Standing Known → Option (List ℕ) → Option (List ℕ) → Type 0
PassesAs telling at text number (SaidBy bytes) at_new old new =
    (at_new ≡ record at { known = telling.behind at.known text }) × Appends old new bytes
PassesAs telling at text number (UnsaidBy why) at_new old new =
    (at.leave_out ≡ true) × (at_new ≡ record at { left_out = at.left_out + 1 }) × Appends old new (left_out_line number why)

-- what a line that isn't said has in the script
abbrev pub UnsaidHas : Bool → ℕ → List ℕ → List ℕ → Type 0
UnsaidHas true number why text = text ≡ left_out_line number why
UnsaidHas false number why text = text ≡ stop_line number why

-- what a line has there, whether the import goes on or ends at it
abbrev pub HasText : Bool → ℕ → LineTold → List ℕ → Type 0
HasText leave_out number (SaidBy bytes) text = text ≡ bytes
HasText leave_out number (UnsaidBy why) text = UnsaidHas leave_out number why text

-- and where it ends there: want of memory wrote nothing, a failed sink took a part, and a line that isn't said is named
abbrev pub EndsAs : {Known : Type 0} → Standing Known → ℕ → LineTold → Status → Option (List ℕ) → Option (List ℕ) → Type 0
EndsAs at number told status.Memory old new = Appends old new []
EndsAs at number told status.WriteFault old new = (text : List ℕ) × HasText at.leave_out number told text × WritesPart old new text
EndsAs at number told status.Script old new = (at.leave_out ≡ false) × ((why : List ℕ) × (told ≡ UnsaidBy why) × Appends old new (stop_line number why))
EndsAs at number told _ old new = ⊥

-- What a line comes to.
abbrev pub TellsLine : {Known : Type 0} → Telling Known → Standing Known → List ℕ → ℕ → Result (Unit {0}) Status → Standing Known → Option (List ℕ) → Option (List ℕ) → Type 0
TellsLine telling at text number (Ok done) at_new old new = PassesAs telling at text number (telling.told at.known text) at_new old new
TellsLine telling at text number (Err status) at_new old new = EndsAs at number (telling.told at.known text) status old new
