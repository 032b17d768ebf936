use Rattle.std.proofs.Common.{Bool, ◌≡◌, ◌≤◌, IsSome}
use Rattle.std.specs.Io.KnownBytes.{Appends}
use Rattle.script_lines.specs.Given.{counted}
use Rattle.tcam_device.specs.View.{device_state, IsSameButFlight}
use Rattle.replay.specs.Effects.{printed}
use Rattle.replay.proofs.flight.Flushing.{IsFlushing}
use Rattle.replay.proofs.watch.Watch.search_all.Given as goal

abbrev pub invariant-loop-place : goal.invariant-loop-place
invariant-loop-place g l = record {
  flushing : IsFlushing l.self l.count.told (device_state (g.D.Writable.view l.fn.device)) l.count.waiting (g.D.Writable.view l.fn.device).flight l.place (g.D.Writable.view l.device).flight;
  told : (which : Bool) → Appends (counted which (g.K.Sink.taken l.fn.sink) (g.K.Sink.accepted l.fn.sink)) (counted which (g.K.Sink.taken l.sink) (g.K.Sink.accepted l.sink)) (printed flushing.front);
  within : l.place ≤ l.count.waiting;
  others : IsSameButFlight (g.D.Writable.view l.fn.device) (g.D.Writable.view l.device);
  stays : IsSome (g.K.Sink.taken l.fn.sink) → IsSome (g.K.Sink.taken l.sink);
  faults : g.K.Sink.faults l.sink ≡ g.K.Sink.faults l.fn.sink;
}
