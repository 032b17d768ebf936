use Rattle.option_words.proofs.Numbers.{number-none, number-read}
use Rattle.option_words.proofs.number_of.Goals as goal

pub returns-in-Ok-clause-number : goal.returns-in-Ok-clause-number
returns-in-Ok-clause-number c =
    number-read c.args.least c.args.greatest c.args.text.now c.in-Ok.number c.ranges.greatest.fits c.in-Ok.ensures.value.0 c.if-least-number.true c.if-number-greatest.true

pub returns-in_default-3-clause-number : goal.returns-in_default-3-clause-number
returns-in_default-3-clause-number c =
    number-none c.args.least c.args.greatest c.args.text.now c.ranges.greatest.fits (λ is least most. c.in_default.ensures.value.0 is)
