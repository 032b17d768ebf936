-- The kinds of lines by which they may stand somewhere, as code has them.
use Rattle.trace_check.specs.Places.{LineKind, Heads, Begins, Changes, Happens, Finishes, Refuses, Ends}
use Rattle.line_judge.specs.declared.kinds.Kind.{Kind}
use Rattle.line_judge.specs.declared.kinds.Kind.TheVariants as kind

-- the kind as definitions have it
abbrev pub kind_as : Kind → LineKind
kind_as kind.Head = Heads
kind_as (kind.Begin n) = Begins n
kind_as kind.Change = Changes
kind_as (kind.Happen slot) = Happens slot
kind_as (kind.Finish n) = Finishes n
kind_as (kind.Refuse n) = Refuses n
kind_as kind.End = Ends
