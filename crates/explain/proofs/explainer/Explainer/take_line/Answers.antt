use Rattle.std.proofs.Common.{Ok, Err, None, refl, ap, ◌∙◌}
use Rattle.script_lines.specs.Lines.{numbered}
use Rattle.tcam_cli.specs.Readings.{line_told_by, reading_by, told_by}
use Rattle.explain.specs.Explained.{setting_for}
use Rattle.explain.specs.Rounds.{Explained}
use Rattle.explain.proofs.Lines.{line-as, line-here}
use Rattle.explain.proofs.explainer.Explainer.take_line.Goals as goal

pub returns-in-Ok-None : goal.returns-in-Ok-None
returns-in-Ok-None c =
    let h = c.in-Ok-None in
    line-here c.args.line.now.number (λ (e : Explained). reading_by (setting_for e.wanted) (numbered c.args.line.now).text) (λ (e : Explained). Ok None) _ c.args.self.now c.args.self.now c.self.view_is
    (ap (line_told_by c.self.inside.wanted.json) (h.ensures.ok ∙ ap Ok h.field-0-is)) refl

pub returns-in-Ok-Some : goal.returns-in-Ok-Some
returns-in-Ok-Some c =
    let h = c.in-Ok-Some in
    line-as c.take_told.result c.args.line.now.number (λ (e : Explained). reading_by (setting_for e.wanted) (numbered c.args.line.now).text) (λ (e : Explained). told_by e.wanted.json h.act) _ c.args.self.now c.take_told.new.self
    c.self.view_is (ap (line_told_by c.self.inside.wanted.json) (h.ensures.ok ∙ ap Ok h.field-0-is)) c.take_told.ensures

pub returns-in-Err : goal.returns-in-Err
returns-in-Err c =
    line-as c.line_fault.result c.args.line.now.number (λ (e : Explained). reading_by (setting_for e.wanted) (numbered c.args.line.now).text) (λ (e : Explained). Err c.in-Err.fault.now) _ c.args.self.now c.line_fault.new.self
    c.self.view_is (ap (line_told_by c.self.inside.wanted.json) c.in-Err.ensures.err) c.line_fault.ensures
