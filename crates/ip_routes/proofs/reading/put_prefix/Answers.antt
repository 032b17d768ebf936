use Rattle.std.proofs.Common.{refl, sym, ◌∙◌}
use Rattle.ip_routes.proofs.Steps.{first-part, first-text, text-default, text-other, fits-default}
use Rattle.ip_routes.proofs.reading.put_prefix.Goals as goal

pub returns-then-is_named-clause-fits : goal.returns-then-is_named-clause-fits
returns-then-is_named-clause-fits c =
    fits-default c.args.version c.args.word.now _ _ (text-default c.args.version c.args.word.now (sym c.is_named.ensures ∙ c.if-is_named.true)) (first-part _ _ _ _ c.requires (c.as_bytes.ensures.value ∙ c.every_address.ensures) c.put_part.ensures.fits)

pub returns-then-is_named-clause-text : goal.returns-then-is_named-clause-text
returns-then-is_named-clause-text c =
    λ yes. first-text _ _ _ _ c.requires (c.as_bytes.ensures.value ∙ c.every_address.ensures) (c.put_part.ensures.text yes) ∙ text-default c.args.version c.args.word.now (sym c.is_named.ensures ∙ c.if-is_named.true)

pub returns-clause-fits : goal.returns-clause-fits
returns-clause-fits c = fits-default c.args.version c.args.word.now _ _ (text-other c.args.version c.args.word.now (sym c.is_named.ensures ∙ c.if-is_named.false)) (first-part _ _ _ _ c.requires refl c.put_address.ensures.fits)

pub returns-clause-text : goal.returns-clause-text
returns-clause-text c = λ yes. first-text _ _ _ _ c.requires refl (c.put_address.ensures.text yes) ∙ text-other c.args.version c.args.word.now (sym c.is_named.ensures ∙ c.if-is_named.false)
