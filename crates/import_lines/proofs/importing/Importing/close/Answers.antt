use Rattle.std.proofs.Common.{refl, sym, ap, inr, ◌∙◌}
use Rattle.std.proofs.KnownBytes.{Appends-nil}
use Rattle.import_lines.specs.Import.{SaidBy, UnsaidBy}
use Rattle.import_lines.proofs.Tells.{closes-at}
use Rattle.import_lines.proofs.importing.Importing.close.Goals as goal

pub returns-in-Ok-Said-clause-closes : goal.returns-in-Ok-Said-clause-closes
returns-in-Ok-Said-clause-closes g c =
    let h = c.in-Ok-Said in
    let told = rw h.field-0-is at h.ensures.told in
    λ which. closes-at _ g.F.LineFormat.closing _ _ _ _ _ _ c.self.view_is (told ∙ ap SaidBy (sym c.as_slice.ensures.value)) (c.end.ensures.ends which)

pub returns-in-Ok-Unsaid-clause-closes : goal.returns-in-Ok-Unsaid-clause-closes
returns-in-Ok-Unsaid-clause-closes g c =
    let h = c.in-Ok-Unsaid in
    let told = rw h.field-0-is at h.ensures.told in
    λ which. closes-at _ g.F.LineFormat.closing _ _ _ _ _ _ c.self.view_is (told ∙ ap UnsaidBy (sym c.as_slice-in-Ok-Unsaid.ensures.value)) (c.end_short.ensures.ends which)
