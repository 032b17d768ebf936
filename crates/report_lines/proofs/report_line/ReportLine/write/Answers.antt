-- The bytes handed over are the line with its line feed.
use Rattle.std.proofs.Common.{◌∙◌}
use Rattle.report_lines.proofs.Handing.{writes-line}
use Rattle.report_lines.proofs.report_line.ReportLine.write.Goals as goal

pub returns : goal.returns
returns g c =
    let same = c.as_bytes.ensures.value ∙ (c.as_str.ensures.value ∙ (c.line.view_is ∙ c.text-line.ensures.text)) in
    writes-line g.K.Sink.taken g.K.Sink.accepted g.K.Sink.faults _ _ c.write_all.result _ _ same c.write_all.ensures.whole c.write_all.ensures.part c.write_all.ensures.cause
