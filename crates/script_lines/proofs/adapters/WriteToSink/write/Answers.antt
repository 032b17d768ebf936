use Rattle.std.proofs.Common.{◌++◌, ◌∙◌, ap, take}
use Rattle.std.specs.List.{concat}
use Rattle.script_lines.specs.Memory.{Counted}
use Rattle.script_lines.proofs.Pieces.{concat-one}
use Rattle.script_lines.proofs.adapters.WriteToSink.write.Goals as goal

pub returns-in-Some-clause-accepted : goal.returns-in-Some-clause-accepted
returns-in-Some-clause-accepted g c =
    ap concat c.and_piece-self-inside.ensures ∙ concat-one c.self.inside.history.items (take c.in-Some.n c.args.from.now) ∙ ap (λ (s : Counted _). concat s.pieces ++ take c.in-Some.n c.args.from.now) c.self.view_is
