use Rattle.std.proofs.Common.{sym, ◌∙◌}
use Rattle.kept_numbers.proofs.Olders.{passed-put}
use Rattle.kept_numbers.proofs.older.take_line.Goals as goal

pub returns-then-is_passed : goal.returns-then-is_passed
returns-then-is_passed c = passed-put c.args.line.now c.args.into.now.items (sym c.is_passed.ensures ∙ c.if-is_passed.true)
