use Rattle.std.proofs.Common.{◌∙◌}
use Rattle.kept_numbers.proofs.Lists.{marks-few}
use Rattle.kept_numbers.proofs.numbering.numbers_for.Goals as goal

pub numbered-requires : goal.numbered-requires
numbered-requires c = marks-few c.args.older.now c.args.lines.now _ (c.as_slice.ensures.value ∙ c.in_ok-marks.ensures) c.requires
