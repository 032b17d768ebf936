-- The line of the drain may be cut.
use Rattle.std.proofs.Common.{◌≡◌, true, false, [], sym, ap, ◌∙◌}
use Rattle.replay.specs.Running.{Watching}
use Rattle.replay.proofs.lines.Telling.{line-alone, line-cut}
use Rattle.replay.proofs.watch.Watch.tell_drain.Goals as goal

pub returns-then-self : goal.returns-then-self
returns-then-self g c =
    let json : c.args.self.now.json ≡ true = ap (λ (watch : Watching). watch.json) (sym c.self.view_is) ∙ c.if-self.true in
    rw json (line-alone g.K.Sink.taken g.K.Sink.accepted g.K.Sink.faults _ _ _ c.write_shared.result c.write_shared.ensures)

pub returns-in_err-write_drain : goal.returns-in_err-write_drain
returns-in_err-write_drain g c =
    let words : c.args.self.now.json ≡ false = ap (λ (watch : Watching). watch.json) (sym c.self.view_is) ∙ c.if-self.false in
    let asked : c.args.self.now.trace ≡ true = ap (λ (watch : Watching). watch.trace) (sym c.self.view_is) ∙ c.if-self-2.true in
    rw (words, asked) (line-cut _ _ _ _ [] c.from_residual.result _ _ _ c.from_residual.ensures.0 c.in_err-write_drain.ensures)
