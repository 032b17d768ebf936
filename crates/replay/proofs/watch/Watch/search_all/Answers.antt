-- The words of one write after the other are searched, and of the last one a part where the sink fails.
use Rattle.std.proofs.Common.{rules, ◌<◌, ◌≤◌, ◌∙◌, arith}
use Rattle.std.proofs.KnownBytes.{Appends-nil}
use Rattle.replay.proofs.flight.Flushing.{cuts-more, flushing-empty, flushing-enough, flushing-more, flushing-none, flushing-whole, told-more}
use Rattle.replay.proofs.flight.Views.{same-none, same-then}
use Rattle.replay.proofs.watch.Watch.search_all.Goals as goal

pub loop-place-init : goal.loop-place-init
loop-place-init g c = record {
  flushing = flushing-none _ _ _ _ _ c.requires.words;
  told = λ which. Appends-nil _;
  within = omega arith;
  others = same-none _;
  stays = λ some. some;
  faults = search rules;
}

pub search-requires : goal.search-requires
search-requires g c =
    let within : c.loop-place.place < c.args.count.now.waiting = search rules in
    record { words = flushing-enough _ _ _ _ _ c.loop-place.place _ c.loop-place.invariant.flushing within }

pub returns-in_err-search-clause-lines : goal.returns-in_err-search-clause-lines
returns-in_err-search-clause-lines g c =
    let i = c.loop-place.invariant in
    let within : c.loop-place.place < c.args.count.now.waiting = search rules in
    let lines = rw (i.others.slots, i.others.events) at c.in_err-search.ensures.lines in
    record {
      whole = λ which. search rules;
      part = λ which. cuts-more _ _ _ _ _ c.loop-place.place _ i.flushing within c.from_residual.result _ _ _ (i.told which) (lines.part which);
      told = λ some. lines.told (i.stays some);
      cause = search rules;
    }

pub loop-place-preserved : goal.loop-place-preserved
loop-place-preserved g c =
    let i = c.loop-place.invariant in
    let s = c.in_ok-search.ensures in
    let within : c.loop-place.place < c.args.count.now.waiting = search rules in
    let lines = rw (i.others.slots, i.others.events) at s.lines in
    record {
      flushing = flushing-more _ _ _ _ _ c.loop-place.place _ i.flushing within _ s.flight;
      told = λ which. told-more _ _ _ _ _ c.loop-place.place _ i.flushing within _ _ _ (i.told which) (lines.whole which);
      within = omega (arith, within);
      others = same-then _ _ _ i.others s.others;
      stays = λ some. lines.told (i.stays some);
      faults = lines.cause.stayed ∙ i.faults;
    }

pub returns-clause-lines : goal.returns-clause-lines
returns-clause-lines g c =
    let i = c.loop-place.invariant in
    let all : c.args.count.now.waiting ≤ c.loop-place.place = search rules in
    record {
      whole = λ which. flushing-whole _ _ _ _ _ c.loop-place.place _ i.flushing all _ _ (i.told which);
      part = λ which. tt;
      told = i.stays;
      cause = search rules;
    }

pub returns-clause-flight : goal.returns-clause-flight
returns-clause-flight g c =
    let all : c.args.count.now.waiting ≤ c.loop-place.place = search rules in
    flushing-empty _ _ _ _ _ c.loop-place.place _ c.loop-place.invariant.flushing all
