-- The head stands before the line, and either may be cut.
use Rattle.std.proofs.Common.{◌≡◌, ◌∙◌}
use Rattle.report_lines.proofs.Handing.{both-texts, first-part}
use Rattle.replay.specs.JsonLines.{shared_line}
use Rattle.replay.proofs.json_report.write_behind.Goals as goal

pub returns-in_err-write_shared-in-Some : goal.returns-in_err-write_shared-in-Some
returns-in_err-write_shared-in-Some g c =
    rw c.in-Some.is (first-part g.K.Sink.taken g.K.Sink.accepted g.K.Sink.faults _ _ _ _ c.from_residual.result _ c.from_residual.ensures.0 c.in_err-write_shared-in-Some.ensures)

pub returns-in_ok-write_shared-in-Some : goal.returns-in_ok-write_shared-in-Some
returns-in_ok-write_shared-in-Some g c =
    let same : c.as_str-in-Some.result.now ≡ shared_line c.args.fault.now c.args.line.now = c.as_str-in-Some.ensures ∙ c.new-in-Some.ensures in
    rw c.in-Some.is (both-texts g.K.Sink.taken g.K.Sink.accepted g.K.Sink.faults _ _ _ _ _ _ c.write_text-in-Some.result c.in_ok-write_shared-in-Some.ensures (rw same at c.write_text-in-Some.ensures))
