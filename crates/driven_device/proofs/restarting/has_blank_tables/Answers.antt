use Rattle.std.proofs.Common.{◌≡◌, true, false}
use Rattle.std.proofs.lemmas.Bool.{both_ways}
use Rattle.driven_device.proofs.restarting.has_blank_tables.Goals as goal

pub returns-then-not-is_blank : goal.returns-then-not-is_blank
returns-then-not-is_blank g c = (
  λ yes. absurd (let no : false ≡ true = yes in cc),
  λ blank. absurd (both_ways c.is_blank.result c.if-not-is_blank.true (c.is_blank.ensures.1 blank.src)),
)

pub returns : goal.returns
returns g c = (
  λ yes. record { src = c.is_blank.ensures.0 c.if-not-is_blank.false; dst = c.is_blank-2.ensures.0 yes },
  λ blank. c.is_blank-2.ensures.1 blank.dst,
)
