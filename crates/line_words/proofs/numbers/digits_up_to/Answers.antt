use Rattle.std.proofs.Common.{refl, arith}
use Rattle.line_words.proofs.Digits.{AreRead-exceeds}
use Rattle.line_words.proofs.numbers.digits_up_to.Goals as goal

pub returns-then-value-from-clause-value : goal.returns-then-value-from-clause-value
returns-then-value-from-clause-value c =
    let exceeds =
    AreRead-exceeds c.args.bound c.args.word.now c.loop-digit.digit-index c.loop-digit.value c.loop-digit-test.true
    c.loop-digit.invariant.read (omega arith) in
    rw exceeds refl
