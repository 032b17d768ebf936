use Rattle.trace_file.proofs.Utf8.{line-utf8}
use Rattle.trace_file.proofs.laws.lines_are_utf8.Goals as goal

pub returns : goal.returns
returns c = line-utf8
