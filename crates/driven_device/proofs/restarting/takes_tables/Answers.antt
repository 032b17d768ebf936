use Rattle.std.proofs.Common.{◌≡◌, refl, sym, ◌∙◌}
use Rattle.rule_store.specs.declared.Mode.TheVariants.{Bits, Cover}
use Rattle.driven_device.proofs.restarting.takes_tables.Goals as goal

pub returns-in-Cover : goal.returns-in-Cover
returns-in-Cover g c = (λ yes covers. c.has_blank_tables.ensures.0 yes, λ plain. c.has_blank_tables.ensures.1 (plain c.in-Cover.is))

pub returns-in-Bits : goal.returns-in-Bits
returns-in-Bits g c = (λ yes covers. absurd (let clash : Bits ≡ Cover = sym c.in-Bits.is ∙ covers in cc), λ plain. refl)
