-- The line of a write names its rule by the family, and may be cut.
use Rattle.std.proofs.Common.{◌≡◌, true, false, [], sym, ap, ◌∙◌}
use Rattle.replay.specs.Running.{Watching}
use Rattle.replay.proofs.lines.Telling.{line-alone, line-cut}
use Rattle.replay.proofs.watch.Watch.tell_write.Goals as goal

pub returns-then-self : goal.returns-then-self
returns-then-self g c =
    let json : c.args.self.now.json ≡ true = ap (λ (watch : Watching). watch.json) (sym c.self.view_is) ∙ c.if-self.true in
    let named : c.self.inside.family ≡ c.args.self.now.family = ap (λ (watch : Watching). watch.family) c.self.view_is in
    rw json (line-alone g.K.Sink.taken g.K.Sink.accepted g.K.Sink.faults _ _ _ c.write_json.result
    (rw (c.journal_line.ensures, c.version.ensures, named) at c.write_json.ensures))

pub returns-in_err-trace_write : goal.returns-in_err-trace_write
returns-in_err-trace_write g c =
    let words : c.args.self.now.json ≡ false = ap (λ (watch : Watching). watch.json) (sym c.self.view_is) ∙ c.if-self.false in
    let asked : c.args.self.now.trace ≡ true = ap (λ (watch : Watching). watch.trace) (sym c.self.view_is) ∙ c.if-self-2.true in
    rw (words, asked) (line-cut g.K.Sink.taken g.K.Sink.accepted g.K.Sink.faults _ [] c.from_residual.result _ _ _ c.from_residual.ensures.0 c.in_err-trace_write.ensures)
