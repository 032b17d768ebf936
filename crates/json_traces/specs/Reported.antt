-- What is told of the trace that a report is.
use Rattle.std.specs.Prelude.{ℕ, ◌≤◌, IsTrue, List, length}
use Rattle.std.specs.List.{AllByRecursion}
use Rattle.script_lines.specs.Reader.{is_of_line}
use Rattle.tcam_device.specs.declared.Write.{Write}
use Rattle.json_text.specs.JsonText.{IsPlainText}
use Rattle.trace_check.specs.Answers.{Yes, IsTraceAnswer}
use Rattle.json_traces.specs.Traces.{IsOrderlyReport}

-- a short text of a fault, which stands in JSON as it is, on one line
pub record IsPlainFault (fault : List ℕ) : Type 0 where
  pub plain : IsPlainText fault
  pub bytes : AllByRecursion (λ byte. IsTrue (is_of_line byte)) fault
  pub short : length fault ≤ 32

-- An orderly report gets yes, with its commits and its writes.
abbrev pub OrderlyReportsGetYes : Type 0
OrderlyReportsGetYes =
    (fault report : List ℕ) (commits : ℕ) (made : List Write) → IsOrderlyReport fault report commits made → IsPlainFault fault
    → IsTraceAnswer report (Yes commits (length made))
