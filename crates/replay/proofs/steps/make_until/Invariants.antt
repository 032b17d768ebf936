use Rattle.std.proofs.Common.{Bool}
use Rattle.script_lines.specs.Given.{counted}
use Rattle.replay.specs.InFlight.{IsSeen}
use Rattle.replay.specs.Outside.{Leaves}
use Rattle.replay.specs.Fates.{IsBefore, IsWithinTurn}
use Rattle.replay.specs.Making.{TellsActions}
use Rattle.replay.proofs.making.Making.{IsMaking, left_number}
use Rattle.replay.proofs.steps.make_until.Given as goal

abbrev pub invariant-making : goal.invariant-making
invariant-making g l = record {
  making : IsMaking l.fn.manager l.manager l.fn.watch l.fn.count l.count (g.D.Writable.view l.fn.device).events (g.D.Writable.view l.device).events (g.D.Writable.view l.device).flight (g.D.Writable.view l.device).spare;
  told : (which : Bool) → IsSeen (g.D.Writable.view l.fn.device).slots (g.D.Writable.view l.fn.device).events (g.D.Writable.view l.fn.device).flight l.fn.manager
      → TellsActions l.fn.manager l.fn.watch (g.D.Writable.view l.fn.device).slots l.fn.count (g.D.Writable.view l.fn.device).events making.some.made
      (counted which (g.K.Sink.taken l.fn.sink) (g.K.Sink.accepted l.fn.sink)) (counted which (g.K.Sink.taken l.sink) (g.K.Sink.accepted l.sink));
  seen : IsSeen (g.D.Writable.view l.fn.device).slots (g.D.Writable.view l.fn.device).events (g.D.Writable.view l.fn.device).flight l.fn.manager
      → IsSeen (g.D.Writable.view l.fn.device).slots (g.D.Writable.view l.device).events (g.D.Writable.view l.device).flight l.manager;
  before : IsBefore l.fn.stop l.fn.count.told making.some.made making.some.left;
  reach : IsWithinTurn l.fn.stop l.count.told;
  leaves : Leaves (g.K.Sink.taken) (g.K.Sink.faults) l.fn.sink l.sink (g.D.Writable.view l.fn.device) (g.D.Writable.view l.device) ⊥ ⊥;
}

abbrev pub decreases-making : goal.decreases-making
decreases-making g l = left_number l.manager.held
