use Rattle.std.proofs.Common.{refl, sym, ap, ◌∙◌}
use Rattle.std.proofs.KnownBytes.{Appends-nil}
use Rattle.std.proofs.lemmas.Result.{on_ok_weaker}
use Rattle.script_lines.specs.Lines.{numbered}
use Rattle.import_lines.specs.Import.{telling, UnsaidBy}
use Rattle.import_lines.proofs.Tells.{passes-same, tells-said, tells-named, always, below-fields, below-said, below-left}
use Rattle.import_lines.proofs.importing.Importing.tell.Goals as goal

pub name_line-requires : goal.name_line-requires
name_line-requires g c = record { below = below-fields _ _ _ _ c.self.view_is c.requires.below }

pub returns-in-Ok-Said-clause-below : goal.returns-in-Ok-Said-clause-below
returns-in-Ok-Said-clause-below g c = always c.write_on.result _ (below-said _ _ _ _ c.self.view_is c.requires.below)

pub returns-in-Ok-Unsaid-clause-below : goal.returns-in-Ok-Unsaid-clause-below
returns-in-Ok-Unsaid-clause-below g c =
    on_ok_weaker c.name_line.result (below-left _ _ _ _ _ c.self.view_is c.requires.below) c.name_line.ensures.counted

pub returns-in-Ok-Said-clause-tells : goal.returns-in-Ok-Said-clause-tells
returns-in-Ok-Said-clause-tells g c =
    let h = c.in-Ok-Said in
    let told = rw h.field-0-is at h.ensures.told in
    let said = rw h.field-0-is at h.ensures.said in
    λ which. tells-said _ (telling g.F.LineFormat.told g.F.LineFormat.behind g.F.LineFormat.closing) c.args.self.now _ _ _ _ c.self.view_is c.text_of-text.result.now (numbered c.args.line.now).text c.text_of-text.ensures.text c.args.number _ _ _ _ told (said refl)
    (passes-same _ _ _ _ _ c.as_slice.ensures.value (c.write_on.ensures.passes which))

pub returns-in-Ok-Unsaid-clause-tells : goal.returns-in-Ok-Unsaid-clause-tells
returns-in-Ok-Unsaid-clause-tells g c =
    let h = c.in-Ok-Unsaid in
    let told = rw h.field-0-is at h.ensures.told in
    let unsaid = rw h.field-0-is at h.ensures.unsaid in
    λ which. tells-named _ (telling g.F.LineFormat.told g.F.LineFormat.behind g.F.LineFormat.closing) c.args.self.now _ _ _ _ c.self.view_is c.text_of-text.result.now (numbered c.args.line.now).text c.text_of-text.ensures.text c.args.number _ _ _ _ _
    (told ∙ ap UnsaidBy (sym c.as_slice-in-Ok-Unsaid.ensures.value)) (unsaid refl) c.name_line.ensures.counted (c.name_line.ensures.names which)

pub returns-in-Err-clause-tells : goal.returns-in-Err-clause-tells
returns-in-Err-clause-tells g c = λ which. Appends-nil _
