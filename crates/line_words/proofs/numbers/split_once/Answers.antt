use Rattle.std.proofs.Common.{◌==◌, sym}
use Rattle.line_words.proofs.Parts.{slice_split-whole, slice_split-parts}
use Rattle.line_words.proofs.numbers.split_once.Goals as goal

pub returns-in_err-end : goal.returns-in_err-end
returns-in_err-end c =
    rw c.from_residual.ensures (slice_split-whole (λ byte. byte == c.args.separator) c.args.word.now (sym c.in_err-end.ensures))

pub returns : goal.returns
returns c = slice_split-parts (λ byte. byte == c.args.separator) c.args.word.now c.in_ok-end.end (sym c.in_ok-end.ensures)
