use Rattle.write_judge.proofs.Lookups.{look_found}
use Rattle.write_judge.proofs.watched.Watched.look.Goals as goal

pub returns : goal.returns
returns c = look_found c.args.self.now _ _ c.args.key.now _ c.held-slots.ensures c.word-word.ensures c.found.ensures
