-- The word of one probe more follows those in flight.
use Rattle.std.proofs.Common.{rules, ◌<◌, length}
use Rattle.tcam_device.specs.View.{device_state}
use Rattle.replay.specs.Effects.{probes_told}
use Rattle.replay.proofs.flight.InFlight.{keys-more, translated}
use Rattle.replay.proofs.flight.Views.{same-then}
use Rattle.replay.proofs.watch.Watch.translate.Goals as goal

pub loop-place-preserved : goal.loop-place-preserved
loop-place-preserved g c =
    let i = c.loop-place.invariant in
    let within : c.loop-place.place < length (probes_told c.args.self.now.json c.args.self.now.probes) = search rules in
    let t = c.translate.ensures in
    record {
      flight = translated _ _ c.loop-place.place c.index-key.result.now c.self.view_is within c.index-key.ensures (device_state (g.D.Writable.view c.args.device.now)) _ _ _ i.flight (rw (i.others.slots, i.others.events) at t.flight);
      keys = keys-more _ _ c.loop-place.place c.index-key.result.now c.self.view_is within c.index-key.ensures i.keys c.key_fields.ensures;
      others = same-then _ _ _ i.others t.others;
    }
