use Rattle.line_judge.proofs.LinesTaken.{end_stops, end_takes}
use Rattle.line_judge.proofs.track.Track.check_count.Goals as goal

pub returns-then-writes-self-clause-taken : goal.returns-then-writes-self-clause-taken
returns-then-writes-self-clause-taken c = end_takes c.args.self.now c.args.writes c.if-writes-self.true c.requires

pub returns-else-writes-self-clause-stopped : goal.returns-else-writes-self-clause-stopped
returns-else-writes-self-clause-stopped c = end_stops c.args.self.now c.args.writes c.if-writes-self.false
