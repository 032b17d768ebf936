use Rattle.std.proofs.Common.{◌≤◌}
use Rattle.line_words.proofs.Digits.{AreRead}
use Rattle.line_words.proofs.numbers.digits_up_to.Given as goal

abbrev pub invariant-loop-digit : goal.invariant-loop-digit
invariant-loop-digit l = record {
  read : AreRead l.word l.digit-index l.value;
  within : l.value ≤ l.bound;
}
