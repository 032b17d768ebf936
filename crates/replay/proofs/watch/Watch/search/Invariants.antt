use Rattle.std.proofs.Common.{Bool, ◌≡◌, ◌≤◌, IsSome, length, take, drop}
use Rattle.std.specs.Io.KnownBytes.{Appends}
use Rattle.script_lines.specs.Given.{counted}
use Rattle.tcam_device.specs.View.{device_state, IsSameButFlight}
use Rattle.replay.specs.Effects.{printed, probes_told}
use Rattle.replay.specs.InFlight.{found_lines}
use Rattle.replay.proofs.watch.Watch.search.Given as goal

abbrev pub invariant-loop-place : goal.invariant-loop-place
invariant-loop-place g l = record {
  told : (which : Bool) → Appends (counted which (g.K.Sink.taken l.fn.sink) (g.K.Sink.accepted l.fn.sink)) (counted which (g.K.Sink.taken l.sink) (g.K.Sink.accepted l.sink))
      (printed (found_lines l.self.family l.number (device_state (g.D.Writable.view l.fn.device)) 1 (take l.place (g.D.Writable.view l.fn.device).flight)));
  flight : (g.D.Writable.view l.device).flight ≡ drop l.place (g.D.Writable.view l.fn.device).flight;
  within : l.place ≤ length (probes_told l.self.json l.self.probes);
  others : IsSameButFlight (g.D.Writable.view l.fn.device) (g.D.Writable.view l.device);
  stays : IsSome (g.K.Sink.taken l.fn.sink) → IsSome (g.K.Sink.taken l.sink);
  faults : g.K.Sink.faults l.sink ≡ g.K.Sink.faults l.fn.sink;
}
