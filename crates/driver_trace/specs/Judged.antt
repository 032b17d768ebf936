-- When the lines of any driver's trace are hitless: behind each write every key gets the answer of the old set or that of
-- the new one, where a commit is done that of the new one, and where it was taken back that of the old one.
use Rattle.std.specs.Prelude.{◌≡◌, ◌≢◌, List, [], ◌∷◌}
use Rattle.rule_model.specs.declared.Rule.{Rule}
use Rattle.rule_model.specs.Key.{IsKey}
use Rattle.rule_model.specs.RuleSet.{Answer, answer}
use Rattle.tcam_device.specs.State.{State, lookup}
use Rattle.trace_file.specs.declared.TraceLine.{TraceLine}
use Rattle.trace_file.specs.declared.TraceLine.TheVariants.{Put, Erase, Table, Done}
use Rattle.driver_trace.specs.declared.DriverLine.{DriverLine}
use Rattle.driver_trace.specs.declared.DriverLine.TheVariants.{Common, Move, Back}
use Rattle.driver_trace.specs.declared.Compared.{Compared}
use Rattle.driver_trace.specs.declared.Leak.{Leak}
use Rattle.driver_trace.specs.declared.Asked.{Asked}
use Rattle.driver_trace.specs.declared.Asked.TheVariants.{OldOrNew, New, Old, Nothing}
use Rattle.driver_trace.specs.Compared.{as_compared, ShowsBy, ShowsOldOrNewBy}
use Rattle.driver_trace.specs.Known.{Known, state_behind, known_on, rules_ahead}

-- what a line asks of the device behind it
abbrev pub asked_by_common : TraceLine → Asked
asked_by_common (Put slot entry) = OldOrNew
asked_by_common (Erase slot) = OldOrNew
asked_by_common (Table field port word) = OldOrNew
asked_by_common (Done n) = New
asked_by_common line = Nothing

abbrev pub asked_by : DriverLine → Asked
asked_by (Common line) = asked_by_common line
asked_by (Move from to count) = OldOrNew
asked_by (Back n) = Old

-- the device shows what is asked
abbrev pub ShowsAsked : Compared → State → List Rule → List Rule → Asked → Type 0
ShowsAsked by state old new OldOrNew = ShowsOldOrNewBy by state old new
ShowsAsked by state old new New = ShowsBy by state new
ShowsAsked by state old new Old = ShowsBy by state old
ShowsAsked by state old new Nothing = Unit {0}

-- A line is hitless, by what is known before it.
abbrev pub IsHitlessLine : Compared → Known → DriverLine → Type 0
IsHitlessLine by now line = ShowsAsked by (state_behind now.state line) now.rules (rules_ahead now) (asked_by line)

-- each of some lines is, by what is known before the first of them
abbrev pub AreHitlessLines : Compared → Known → List DriverLine → Type 0
AreHitlessLines by now [] = Unit {0}
AreHitlessLines by now (line ∷ lines) = IsHitlessLine by now line × AreHitlessLines by (known_on now line) lines

-- an answer is wrong by what is asked, where these are the old and the new one
abbrev pub IsWrong : Compared → Answer → Answer → Answer → Asked → Type 0
IsWrong by gets old new OldOrNew = (as_compared by gets ≢ as_compared by old) × (as_compared by gets ≢ as_compared by new)
IsWrong by gets old new New = as_compared by gets ≢ as_compared by new
IsWrong by gets old new Old = as_compared by gets ≢ as_compared by old
IsWrong by gets old new Nothing = ⊥

-- A leak: a packet's key with what it gets, the old and the new answer, and what it gets is wrong.
pub record IsLeak (by : Compared) (state : State) (old new : List Rule) (asked : Asked) (leak : Leak) : Type 0 where
  pub is_key : IsKey leak.key
  pub gets : leak.gets ≡ lookup state leak.key
  pub old_answer : leak.old ≡ answer old leak.key
  pub new_answer : leak.new ≡ answer new leak.key
  pub wrong : IsWrong by leak.gets leak.old leak.new asked

-- a leak at a line, by what is known before it
abbrev pub IsLeakAt : Compared → Known → DriverLine → Leak → Type 0
IsLeakAt by now line leak = IsLeak by (state_behind now.state line) now.rules (rules_ahead now) (asked_by line) leak

-- a line with a leak isn't hitless
abbrev pub LeaksAreNotHitless : Type 0
LeaksAreNotHitless =
    (by : Compared) (now : Known) (line : DriverLine) (leak : Leak) → IsLeakAt by now line leak → IsHitlessLine by now line → ⊥
