-- The lanes stand one behind the other.
use Rattle.std.proofs.Common.{slice_index}
use Rattle.report_lines.specs.Text.{lane_text}
use Rattle.report_lines.proofs.Lines.{five_parts}
use Rattle.report_lines.proofs.report_line.ReportLine.ipv4_lanes.Goals as goal

pub returns-clause-text : goal.returns-clause-text
returns-clause-text c =
    let lane = c.args.word.now.lane in
    rw (c.lane-5.ensures.text, c.lane-4.ensures.text, c.lane-3.ensures.text, c.lane-2.ensures.text, c.lane.ensures.text, c.text.ensures.text)
    (five_parts c.args.self (lane_text (slice_index lane 0)) (lane_text (slice_index lane 4)) (lane_text (slice_index lane 8)) (lane_text (slice_index lane 9)) (lane_text (slice_index lane 10)))
