use Rattle.std.proofs.Common.{◌∙◌}
use Rattle.ip_routes.proofs.Steps.{two-fit, two-text, one-over}
use Rattle.ip_routes.proofs.reading.put_address.Goals as goal

pub returns-then-fits-clause-fits : goal.returns-then-fits-clause-fits
returns-then-fits-clause-fits c = two-fit _ _ _ _ _ _ (c.put_part-fits.ensures.text c.if-fits.true) (c.as_bytes.ensures.value ∙ c.missing_length.ensures) c.put_part.ensures.fits

pub returns-then-fits-clause-text : goal.returns-then-fits-clause-text
returns-then-fits-clause-text c = λ yes. two-text _ _ _ _ _ _ (c.put_part-fits.ensures.text c.if-fits.true) (c.as_bytes.ensures.value ∙ c.missing_length.ensures) (c.put_part.ensures.text yes)

pub returns-clause-fits : goal.returns-clause-fits
returns-clause-fits c = one-over _ _ _ _ c.put_part-fits.ensures.fits c.if-fits.false
