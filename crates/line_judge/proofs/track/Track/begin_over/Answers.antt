use Rattle.line_judge.proofs.LinesTaken.{head_takes}
use Rattle.line_judge.proofs.track.Track.begin_over.Goals as goal

pub returns-in-Ok-clause-taken : goal.returns-in-Ok-clause-taken
returns-in-Ok-clause-taken c =
    head_takes c.args.self.now c.args.version c.args.acl c.args.bits c.args.slots c.args.rules c.clear.new.self c.in-Ok.device c.requires.none c.clear.ensures c.in-Ok.ensures c.requires.may
