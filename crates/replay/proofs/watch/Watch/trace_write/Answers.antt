-- The line names its rule by the family.
use Rattle.std.proofs.Common.{◌≡◌, ap}
use Rattle.report_lines.specs.declared.Family.{Family}
use Rattle.replay.specs.Running.{Watching}
use Rattle.replay.specs.Text.{named_line, write_line}
use Rattle.replay.proofs.lines.Telling.{line-named}
use Rattle.replay.proofs.watch.Watch.trace_write.Goals as goal

pub returns-in-None : goal.returns-in-None
returns-in-None g c =
    let named : c.self.inside.family ≡ c.args.self.now.family = ap (λ (watch : Watching). watch.family) c.self.view_is in
    rw c.in-None.is (line-named g.K.Sink.taken g.K.Sink.accepted g.K.Sink.faults _ _ _ (λ (family : Family). write_line family c.args.number c.args.write.now) c.args.self.now.family c.self.inside.family named c.write_trace.ensures)

pub returns-in-Some : goal.returns-in-Some
returns-in-Some g c =
    let named : c.self.inside.family ≡ c.args.self.now.family = ap (λ (watch : Watching). watch.family) c.self.view_is in
    rw c.in-Some.is (line-named g.K.Sink.taken g.K.Sink.accepted g.K.Sink.faults _ _ _ (λ (family : Family). named_line family c.args.number c.in-Some.deed) c.args.self.now.family c.self.inside.family named c.write_named.ensures)
