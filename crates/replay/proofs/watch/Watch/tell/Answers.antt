-- The trace line stands before those of the words that are searched, and either may be cut.
use Rattle.std.proofs.Common.{rules, ◌≡◌, ◌≤◌, length, subst, sym, arith}
use Rattle.std.specs.Io.KnownBytes.{Appends}
use Rattle.std.proofs.KnownBytes.{Appends-trans}
use Rattle.script_lines.specs.Given.{counted}
use Rattle.tcam_device.specs.View.{device_state}
use Rattle.replay.specs.Effects.{printed, probes_told, write_told}
use Rattle.replay.specs.InFlight.{found_after}
use Rattle.replay.specs.Outside.{CutsLines}
use Rattle.replay.specs.Running.{Watching}
use Rattle.replay.proofs.flight.InFlight.{found-full, room-of, told-few}
use Rattle.replay.proofs.lines.Effects.{printed-append}
use Rattle.replay.proofs.lines.Telling.{cuts-behind}
use Rattle.replay.proofs.watch.Watch.tell.Goals as goal

pub translate-requires : goal.translate-requires
translate-requires g c =
    let all : length c.args.self.now.probes ≤ 16 = subst (λ (one : Watching). length one.probes ≤ 16) c.self.view_is c.self.invariant.0 in
    let few = told-few c.args.self.now.json c.args.self.now.probes 16 all in
    let deep : c.args.self.now.depth ≤ 15 = subst (λ (one : Watching). one.depth ≤ 15) c.self.view_is c.self.invariant.2 in
    let waiting = c.requires.few in
    record { room = room-of _ c.args.waiting _ c.requires.words (omega (arith, deep, waiting)) few }

pub returns-in_err-search-clause-lines : goal.returns-in_err-search-clause-lines
returns-in_err-search-clause-lines g c =
    let watch = c.args.self.now in
    let state = device_state (g.D.Writable.view c.args.device.now) in
    let flight = (g.D.Writable.view c.args.device.now).flight in
    let t = c.translate.ensures in
    let first = c.in_ok-tell_write.ensures in
    let lines = c.in_err-search.ensures.lines in
    let full : c.args.waiting ≡ c.args.self.now.depth = subst (λ (one : Watching). c.args.waiting ≡ one.depth) c.self.view_is c.if-waiting-depth.true in
    record {
      whole = λ which. search rules;
      part = λ which. cuts-behind c.from_residual-in_err-search.result (write_told watch.json watch.trace watch.family c.args.number c.args.deed.now c.args.write.now)
          (found_after watch.family (probes_told watch.json watch.probes) watch.depth c.args.number c.args.waiting state flight)
          (counted which (g.K.Sink.taken c.args.sink.now) (g.K.Sink.accepted c.args.sink.now)) (counted which (g.K.Sink.taken c.tell_write.new.sink) (g.K.Sink.accepted c.tell_write.new.sink)) (counted which (g.K.Sink.taken c.search.new.sink) (g.K.Sink.accepted c.search.new.sink)) (first.whole which)
          (subst (λ more. CutsLines more (counted which (g.K.Sink.taken c.tell_write.new.sink) (g.K.Sink.accepted c.tell_write.new.sink)) (counted which (g.K.Sink.taken c.search.new.sink) (g.K.Sink.accepted c.search.new.sink)))
          (sym (found-full watch.family (probes_told watch.json watch.probes) watch.depth c.args.number c.args.waiting state flight full)) (rw (t.others.slots, t.others.events, t.flight) at (lines.part which)));
      told = λ some. lines.told (first.told some);
      cause = search rules;
    }

pub returns-in_ok-search-clause-lines : goal.returns-in_ok-search-clause-lines
returns-in_ok-search-clause-lines g c =
    let watch = c.args.self.now in
    let state = device_state (g.D.Writable.view c.args.device.now) in
    let flight = (g.D.Writable.view c.args.device.now).flight in
    let t = c.translate.ensures in
    let first = c.in_ok-tell_write.ensures in
    let lines = c.in_ok-search.ensures.lines in
    let full : c.args.waiting ≡ c.args.self.now.depth = subst (λ (one : Watching). c.args.waiting ≡ one.depth) c.self.view_is c.if-waiting-depth.true in
    let here = write_told watch.json watch.trace watch.family c.args.number c.args.deed.now c.args.write.now in
    let found = found_after watch.family (probes_told watch.json watch.probes) watch.depth c.args.number c.args.waiting state flight in
    record {
      whole = λ which.
          let old = counted which (g.K.Sink.taken c.args.sink.now) (g.K.Sink.accepted c.args.sink.now) in
          let mid = counted which (g.K.Sink.taken c.tell_write.new.sink) (g.K.Sink.accepted c.tell_write.new.sink) in
          let new = counted which (g.K.Sink.taken c.search.new.sink) (g.K.Sink.accepted c.search.new.sink) in
          subst (Appends old new) (sym (printed-append here found))
          (Appends-trans old mid new (printed here) (printed found) (first.whole which)
          (subst (λ more. Appends mid new (printed more))
          (sym (found-full watch.family (probes_told watch.json watch.probes) watch.depth c.args.number c.args.waiting state flight full)) (rw (t.others.slots, t.others.events, t.flight) at (lines.whole which))));
      part = λ which. tt;
      told = λ some. lines.told (first.told some);
      cause = search rules;
    }
