use Rattle.std.proofs.Common.{refl, ◌∙◌}
use Rattle.std.proofs.lemmas.Result.{err_from_is_err_and}
use Rattle.line_words.proofs.Ranges.{range-made, range-parts}
use Rattle.line_words.proofs.kinds.port_range.Goals as goal

pub returns-in_err-hi : goal.returns-in_err-hi
returns-in_err-hi c =
    let parts = range-parts c.args.first.now c.args.last.now in
    let out = err_from_is_err_and c.from_residual-in_err-hi.result c.from_residual-in_err-hi.ensures.1 in
    rw (out.1, out.2, parts, ← c.in_ok-lo.ensures, ← c.in_err-hi.ensures) refl

pub returns : goal.returns
returns c =
    let parts = range-parts c.args.first.now c.args.last.now in
    let made = range-made c.in_ok-lo.lo c.in_ok-hi.hi c.new.result c.new.ensures.none c.new.ensures.range in
    rw (parts, ← c.in_ok-lo.ensures, ← c.in_ok-hi.ensures) (c.ok_or.ensures.value ∙ made)
