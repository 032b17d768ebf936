-- Each word that is searched has its line, and a part of the last one where the sink fails.
use Rattle.std.proofs.Common.{rules, ◌≡◌, ◌<◌, ◌∙◌, length, drop, ap, arith}
use Rattle.tcam_device.specs.View.{device_state}
use Rattle.replay.specs.Effects.{probes_told}
use Rattle.replay.specs.Running.{Watching}
use Rattle.replay.proofs.flight.Searching.{search-left, search-more, search-none, search-part}
use Rattle.replay.proofs.flight.Views.{same-then}
use Rattle.replay.proofs.watch.Watch.search.Goals as goal

pub returns-in_err-write_probe-in-Some-clause-lines : goal.returns-in_err-write_probe-in-Some-clause-lines
returns-in_err-write_probe-in-Some-clause-lines g c =
    let i = c.loop-place.invariant in
    let state = device_state (g.D.Writable.view c.args.device.now) in
    let within : c.loop-place.place < length (probes_told c.args.self.now.json c.args.self.now.probes) = search rules in
    let family : c.self.inside.family ≡ c.args.self.now.family = ap (λ (one : Watching). one.family) c.self.view_is in
    record {
      whole = λ which. search rules;
      part = λ which. search-part _ _ state _ _ c.loop-place.place c.in-Some.found within (rw (i.others.slots, i.others.events, i.flight) at c.in-Some.ensures.answer) _ _ _ (i.told which) c.from_residual.result _ family
          (c.in_err-write_probe-in-Some.ensures.part which);
      told = λ some. c.in_err-write_probe-in-Some.ensures.told (i.stays some);
      cause = search rules;
    }

pub unreachable-requires : goal.unreachable-requires
unreachable-requires g c =
    let i = c.loop-place.invariant in
    let state = device_state (g.D.Writable.view c.args.device.now) in
    let within : c.loop-place.place < length (probes_told c.args.self.now.json c.args.self.now.probes) = search rules in
    let words = c.requires.words in
    search-none state _ c.loop-place.place (omega (arith, within, words)) (rw (i.others.slots, i.others.events, i.flight) at c.in-None.ensures.answer)

pub loop-place-preserved : goal.loop-place-preserved
loop-place-preserved g c =
    let i = c.loop-place.invariant in
    let state = device_state (g.D.Writable.view c.args.device.now) in
    let within : c.loop-place.place < length (probes_told c.args.self.now.json c.args.self.now.probes) = search rules in
    let family : c.self.inside.family ≡ c.args.self.now.family = ap (λ (one : Watching). one.family) c.self.view_is in
    let s = c.in-Some.ensures in
    record {
      told = λ which. search-more _ _ state _ _ c.loop-place.place c.in-Some.found within (rw (i.others.slots, i.others.events, i.flight) at s.answer) _ _ _ (i.told which) _ family (c.in_ok-write_probe-in-Some.ensures.whole which);
      flight = s.flight ∙ ap (λ flight. drop 1 flight) i.flight
          ∙ search-left state _ _ c.loop-place.place c.in-Some.found within (rw (i.others.slots, i.others.events, i.flight) at s.answer);
      within = omega (arith, within);
      others = same-then _ _ _ i.others s.others;
      stays = λ some. c.in_ok-write_probe-in-Some.ensures.told (i.stays some);
      faults = c.in_ok-write_probe-in-Some.ensures.cause.stayed ∙ i.faults;
    }
