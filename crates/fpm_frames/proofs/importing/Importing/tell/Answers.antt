use Rattle.std.proofs.Common.{true, refl, sym, ap, ◌∙◌}
use Rattle.import_lines.specs.Import.{UnsaidBy}
use Rattle.fpm_frames.specs.Imported.{telling}
use Rattle.fpm_frames.proofs.Telling.{writes-same, writes-no, tells-said, tells-left-out, tells-stop}
use Rattle.fpm_frames.proofs.importing.Importing.tell.Goals as goal

pub returns-else-leave_out-clause-number : goal.returns-else-leave_out-clause-number
returns-else-leave_out-clause-number g c = writes-no _ _ _ _ _ _ (c.stop.ensures.stops true)

pub returns-in-Ok-Said-clause-tells : goal.returns-in-Ok-Said-clause-tells
returns-in-Ok-Said-clause-tells g c =
    let h = c.in-Ok-Said in
    let told = rw h.field-0-is at h.ensures.told in
    let said = rw h.field-0-is at h.ensures.said in
    λ which pieces. tells-said _ (telling g.F.FrameFormat.told g.F.FrameFormat.behind) c.args.self.now _ _ _ _ _ c.self.view_is pieces c.args.frame.now c.requires.whole _ c.messages_of.ensures _ _ _ _ told (said refl)
    (writes-same _ _ _ _ _ _ c.as_slice.ensures.value (c.write.ensures.writes which))

pub returns-then-leave_out-clause-tells : goal.returns-then-leave_out-clause-tells
returns-then-leave_out-clause-tells g c =
    let h = c.in-Ok-Unsaid in
    let told = rw h.field-0-is at h.ensures.told in
    let unsaid = rw h.field-0-is at h.ensures.unsaid in
    λ which pieces. tells-left-out _ (telling g.F.FrameFormat.told g.F.FrameFormat.behind) c.args.self.now _ _ _ _ _ c.self.view_is pieces c.args.frame.now c.requires.whole _ c.messages_of.ensures _ _ _ _ c.if-leave_out.true
    (told ∙ ap UnsaidBy (sym c.as_slice-then-leave_out.ensures.value)) (unsaid refl) (c.pass.ensures.passes which)

pub returns-else-leave_out-clause-tells : goal.returns-else-leave_out-clause-tells
returns-else-leave_out-clause-tells g c =
    let h = c.in-Ok-Unsaid in
    let told = rw h.field-0-is at h.ensures.told in
    λ which pieces. tells-stop _ (telling g.F.FrameFormat.told g.F.FrameFormat.behind) c.args.self.now _ c.self.inside.format _ _ _ c.self.view_is pieces c.args.frame.now c.requires.whole _ c.messages_of.ensures _ _ _ _ _ c.if-leave_out.false
    (told ∙ ap UnsaidBy (sym c.as_slice-in-Ok-Unsaid.ensures.value)) (c.stop.ensures.stops which)
