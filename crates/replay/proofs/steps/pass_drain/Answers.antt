-- With no word in flight no write is due where a drain is.
use Rattle.replay.proofs.flight.Drains.{none-due}
use Rattle.replay.proofs.steps.pass_drain.Goals as goal

pub unreachable-requires : goal.unreachable-requires
unreachable-requires g c = none-due _ c.requires.drain c.in-Err.ensures.due
