-- What a judge of lines knows, and what it answers to a line.
use Rattle.std.specs.Prelude.{◌≡◌, ◌≢◌, Some, None, IsSome}
use Rattle.trace_check.specs.declared.places.Place.{Place}
use Rattle.trace_check.specs.declared.places.Place.TheVariants.{AtStart}
use Rattle.driver_trace.specs.declared.Asked.TheVariants.{Nothing}
use Rattle.driver_trace.specs.declared.Compared.{Compared}
use Rattle.driver_trace.specs.declared.DriverLine.{DriverLine}
use Rattle.driver_trace.specs.Judged.{IsHitlessLine, IsLeakAt, asked_by}
use Rattle.driver_trace.specs.Known.{Known, driver_place, known_on, unknown}
use Rattle.line_judge.specs.declared.LineFault.{LineFault}
use Rattle.line_judge.specs.declared.LineFault.TheVariants.{Misplaced, Leaks, NotJudged, Memory}

-- by what answers are compared, the place of a trace, and what is known of it
pub record Followed : Type 0 where
  pub by : Compared
  pub place : Place
  pub now : Known

-- before the first line
abbrev pub nothing_followed : Compared → Followed
nothing_followed by = record { by = by; place = AtStart; now = unknown }

-- A line is taken: it may stand there, and it is hitless.
pub record Takes (judge : Followed) (line : DriverLine) (next : Followed) : Type 0 where
  pub may_stand : driver_place judge.now judge.place line ≡ Some next.place
  pub hitless : IsHitlessLine judge.by judge.now line
  pub knows : next.now ≡ known_on judge.now line
  pub same : next.by ≡ judge.by

-- A line isn't taken: no trace has it there; or it may stand there, and a packet gets a wrong answer behind it, or it wasn't
-- judged; or for want of memory.
abbrev pub RefusesLine : Followed → DriverLine → LineFault → Type 0
RefusesLine judge line Misplaced = driver_place judge.now judge.place line ≡ None
RefusesLine judge line (Leaks leak) = IsSome (driver_place judge.now judge.place line) × IsLeakAt judge.by judge.now line leak
RefusesLine judge line NotJudged = IsSome (driver_place judge.now judge.place line) × (asked_by line ≢ Nothing)
RefusesLine judge line Memory = Unit {0}
