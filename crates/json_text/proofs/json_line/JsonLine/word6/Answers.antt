-- The lanes stand one behind the other, with a comma between them.
use Rattle.std.proofs.Common.{decimal}
use Rattle.std.specs.Prelude.{slice_index}
use Rattle.json_text.proofs.Parts.{eleven_lanes}
use Rattle.json_text.proofs.json_line.JsonLine.word6.Goals as goal

pub returns-clause-text : goal.returns-clause-text
returns-clause-text c =
    let lane = c.args.word.now.lane in
    rw (
      c.more-10.ensures.text,
      c.more-9.ensures.text,
      c.more-8.ensures.text,
      c.more-7.ensures.text,
      c.more-6.ensures.text,
      c.more-5.ensures.text,
      c.more-4.ensures.text,
      c.more-3.ensures.text,
      c.more-2.ensures.text,
      c.more.ensures.text,
      c.digits.ensures.text,
    )
    (eleven_lanes c.args.self (decimal (slice_index lane 0)) (decimal (slice_index lane 1)) (decimal (slice_index lane 2)) (decimal (slice_index lane 3))
    (decimal (slice_index lane 4)) (decimal (slice_index lane 5)) (decimal (slice_index lane 6)) (decimal (slice_index lane 7)) (decimal (slice_index lane 8))
    (decimal (slice_index lane 9)) (decimal (slice_index lane 10)))
