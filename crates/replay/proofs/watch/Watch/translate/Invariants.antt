use Rattle.std.proofs.Common.{◌≡◌, ◌++◌, take}
use Rattle.std.specs.List.{AllByRecursion}
use Rattle.rule_model.specs.Key.{IsKey}
use Rattle.tcam_device.specs.View.{device_state, IsSameButFlight}
use Rattle.replay.specs.Effects.{probes_told}
use Rattle.replay.specs.InFlight.{probe_words}
use Rattle.replay.proofs.watch.Watch.translate.Given as goal

abbrev pub invariant-loop-place : goal.invariant-loop-place
invariant-loop-place g l = record {
  flight : (g.D.Writable.view l.device).flight
      ≡ (g.D.Writable.view l.fn.device).flight ++ probe_words (device_state (g.D.Writable.view l.fn.device)) (take l.place (probes_told l.self.json l.self.probes));
  keys : AllByRecursion IsKey (take l.place (probes_told l.self.json l.self.probes));
  others : IsSameButFlight (g.D.Writable.view l.fn.device) (g.D.Writable.view l.device);
}
