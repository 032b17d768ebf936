use Rattle.std.proofs.Common.{◌≡◌, true, false, drop, sym, ◌∙◌}
use Rattle.std.specs.Prelude.{eqb}
use Rattle.std.specs.List.{starts_with}
use Rattle.std.proofs.lemmas.List.{take_rest}
use Rattle.line_words.proofs.Colons.{two_colons, colons-here, colons-later}
use Rattle.line_words.proofs.ipv6.double_colon.Goals as goal

pub returns-then-starts_with : goal.returns-then-starts_with
returns-then-starts_with c =
    let test = c.starts_with.ensures.value in
    let begins : starts_with eqb (drop c.loop-place.place c.args.word.now) two_colons ≡ true = rw take_rest at (sym test ∙ c.if-starts_with.true) in
    rw take_rest (colons-here c.args.word.now c.loop-place.place begins c.loop-place.invariant)

pub loop-place-preserved : goal.loop-place-preserved
loop-place-preserved c =
    let test = c.starts_with.ensures.value in
    let apart : starts_with eqb (drop c.loop-place.place c.args.word.now) two_colons ≡ false = rw take_rest at (sym test ∙ c.if-starts_with.false) in
    colons-later c.args.word.now c.loop-place.place c.loop-place-test.true apart c.loop-place.invariant
