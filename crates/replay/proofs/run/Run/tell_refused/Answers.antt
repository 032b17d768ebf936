-- In JSON the line is told behind the head, where that is due.
use Rattle.std.proofs.Common.{◌≡◌, true, sym, ap, ◌∙◌}
use Rattle.replay.specs.Running.{Running}
use Rattle.replay.proofs.run.Run.tell_refused.Goals as goal

pub returns-then-is_json : goal.returns-then-is_json
returns-then-is_json g c =
    let json : c.args.self.now.json ≡ true = ap (λ (run : Running). run.json) (sym c.self.view_is) ∙ sym c.is_json.ensures ∙ c.if-is_json.true in
    let commits : c.self.inside.commits ≡ c.args.self.now.commits = ap (λ (run : Running). run.commits) c.self.view_is in
    rw json (rw (c.head_due.ensures, commits) at c.write_behind.ensures)
