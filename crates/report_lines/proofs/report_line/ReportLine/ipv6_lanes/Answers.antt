-- The lanes stand one behind the other.
use Rattle.std.proofs.Common.{List, ℕ}
use Rattle.std.specs.Prelude.{slice_index}
use Rattle.report_lines.specs.Text.{lane_text}
use Rattle.report_lines.proofs.Lines.{eleven_parts}
use Rattle.report_lines.proofs.report_line.ReportLine.ipv6_lanes.Goals as goal

pub returns-clause-text : goal.returns-clause-text
returns-clause-text c =
    let at : ℕ → List ℕ = λ place. lane_text (slice_index c.args.word.now.lane place) in
    rw (
      c.lane-11.ensures.text,
      c.lane-10.ensures.text,
      c.lane-9.ensures.text,
      c.lane-8.ensures.text,
      c.lane-7.ensures.text,
      c.lane-6.ensures.text,
      c.lane-5.ensures.text,
      c.lane-4.ensures.text,
      c.lane-3.ensures.text,
      c.lane-2.ensures.text,
      c.lane.ensures.text,
      c.text.ensures.text,
    ) (eleven_parts c.args.self (at 0) (at 1) (at 2) (at 3) (at 4) (at 5) (at 6) (at 7) (at 8) (at 9) (at 10))
