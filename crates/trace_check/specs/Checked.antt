-- What a checker of traces knows, and what it answers to a line.
use Rattle.std.specs.Prelude.{◌≡◌, Some, None, IsSome, List, [], ◌∷◌, ◌++◌, length}
use Rattle.std.specs.List.{AllByRecursion}
use Rattle.trace_file.specs.declared.TraceLine.{TraceLine}
use Rattle.trace_file.specs.Forms.{IsTraceLine}
use Rattle.trace_check.specs.declared.CheckFault.{CheckFault}
use Rattle.trace_check.specs.declared.CheckFault.TheVariants.{Misplaced, Unordered, Memory}
use Rattle.trace_check.specs.declared.places.Place.{Place}
use Rattle.trace_check.specs.declared.places.Place.TheVariants.{AtStart, AtEnd}
use Rattle.trace_check.specs.Places.{place_after}
use Rattle.trace_check.specs.Orderly.{Tracing, untraced, traced_on, Keeps, IsTrace, IsOrderly}
use Rattle.trace_check.specs.Hitless.{commits_of, trace_writes, AreHitless}

-- the place of a trace, and what is known of it
pub record Checked : Type 0 where
  pub place : Place
  pub now : Tracing

-- without the writes that the commit under way has made, and the state that it began in: no line is judged by these
abbrev pub without_made : Tracing → Tracing
without_made now = record now { begun = now.state; made = [] }

-- before the first line
abbrev pub nothing_checked : Checked
nothing_checked = record { place = AtStart; now = without_made untraced }

-- A line is taken: it may stand there, and keeps the order.
pub record Takes (check : Checked) (line : TraceLine) (next : Checked) : Type 0 where
  pub may_stand : place_after check.now.slots check.place line ≡ Some next.place
  pub keeps : Keeps check.now line
  pub knows : next.now ≡ without_made (traced_on check.now line)

-- A line is refused: no trace has it there, or it may stand there and breaks the order; or for want of memory.
abbrev pub RefusesLine : Checked → TraceLine → CheckFault → Type 0
RefusesLine check line Misplaced = place_after check.now.slots check.place line ≡ None
RefusesLine check line Unordered = IsSome (place_after check.now.slots check.place line) × (Keeps check.now line → ⊥)
RefusesLine check line Memory = Unit {0}

-- some lines are taken, one after the other
abbrev pub TakesAll : Checked → List TraceLine → Checked → Type 0
TakesAll check [] end = check ≡ end
TakesAll check (line ∷ lines) end = (next : Checked) × Takes check line next × TakesAll next lines end

-- What a check says whose lines were all taken, to the last one.
pub record SaysYes (lines : List TraceLine) (end : Checked) : Type 0 where
  pub trace : IsTrace lines
  pub orderly : IsOrderly lines
  pub hitless : AreHitless (commits_of lines)
  pub commits : end.now.accepted ≡ length (commits_of lines)
  pub writes : end.now.writes ≡ length (trace_writes lines)

-- They are an orderly trace then, each commit of it is hitless for every key, and the checker knows their numbers.
abbrev pub TakenTracesAreHitless : Type 0
TakenTracesAreHitless =
    (lines : List TraceLine) (end : Checked) → AllByRecursion IsTraceLine lines → TakesAll nothing_checked lines end → end.place ≡ AtEnd
    → SaysYes lines end

-- And each line of an orderly trace may be taken: none of it is refused but for want of memory.
abbrev pub OrderlyTracesAreTaken : Type 0
OrderlyTracesAreTaken =
    (lines : List TraceLine) (line : TraceLine) (later : List TraceLine) (check : Checked) (fault : CheckFault)
    → TakesAll nothing_checked lines check → IsTrace (lines ++ line ∷ later) → IsOrderly (lines ++ line ∷ later)
    → RefusesLine check line fault → fault ≡ Memory
