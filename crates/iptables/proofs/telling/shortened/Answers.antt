use Rattle.std.proofs.Common.{sym, arith}
use Rattle.std.proofs.lemmas.List.{take_all, length-take-le}
use Rattle.iptables.proofs.telling.shortened.Goals as goal

pub returns-then-word-le-WORD_BYTES : goal.returns-then-word-le-WORD_BYTES
returns-then-word-le-WORD_BYTES c = sym (take_all 64 c.args.word.now (omega arith))

pub slice_bounds-result-end : goal.slice_bounds-result-end
slice_bounds-result-end c = sym (length-take-le 64 c.args.word.now (omega arith))
