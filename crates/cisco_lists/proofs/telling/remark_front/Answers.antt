use Rattle.std.proofs.Common.{sym, arith}
use Rattle.std.proofs.lemmas.List.{take_all, length-take-le}
use Rattle.cisco_lists.proofs.telling.remark_front.Goals as goal

pub returns-then-text-le-REMARK_BYTES : goal.returns-then-text-le-REMARK_BYTES
returns-then-text-le-REMARK_BYTES c = sym (take_all 500 c.args.text.now (omega arith))

pub slice_bounds-result-end : goal.slice_bounds-result-end
slice_bounds-result-end c = sym (length-take-le 500 c.args.text.now (omega arith))
