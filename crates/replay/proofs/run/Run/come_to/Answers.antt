-- Its writes are made up to its turn, or up to what failed before.
use Rattle.std.proofs.Common.{true}
use Rattle.replay.proofs.crash.Coming.{asks-few, asks-more, asks-waiting, at-first, comes-first, kind-first, left-first, run-first, setting-first, stands-first}
use Rattle.replay.proofs.between.InStep.{in-step-cut}
use Rattle.replay.proofs.run.Run.come_to.Goals as goal

pub make_up_to-requires-clause-waiting : goal.make_up_to-requires-clause-waiting
make_up_to-requires-clause-waiting g c = asks-waiting _ c.args.after c.args.then _ c.args.self.now c.self.view_is c.self.invariant c.requires.slots c.requires.held c.requires.turns c.requires.more

pub make_up_to-requires-clause-more : goal.make_up_to-requires-clause-more
make_up_to-requires-clause-more g c = asks-more _ c.args.after c.args.then _ c.args.self.now c.self.view_is c.self.invariant c.requires.slots c.requires.held c.requires.turns c.requires.more

pub make_up_to-requires-clause-few : goal.make_up_to-requires-clause-few
make_up_to-requires-clause-few g c = asks-few _ c.args.after c.args.then _ c.args.self.now c.self.view_is c.self.invariant c.requires.slots c.requires.held c.requires.turns c.requires.more

pub invariant_of-self : goal.invariant_of-self
invariant_of-self g c =
    run-first _ c.args.after c.args.then _ c.args.self.now c.self.view_is c.self.invariant c.requires.slots c.requires.held c.requires.turns c.requires.more
    _ c.make_up_to.result c.make_up_to.new.manager c.make_up_to.new.count _ _ _ _ (c.make_up_to.ensures.makes true)

pub returns-clause-comes : goal.returns-clause-comes
returns-clause-comes g c = λ which before front unfinished at current.
    comes-first _ c.args.after c.args.then _ c.args.self.now c.self.view_is c.self.invariant c.requires.slots c.requires.held c.requires.turns c.requires.more
    before front unfinished (g.D.Writable.view c.args.device.now).events (g.D.Writable.view c.args.device.now).flight at current
    c.make_up_to.result c.make_up_to.new.manager c.make_up_to.new.count _ _ _ (g.D.Writable.view c.make_up_to.new.device).flight (c.make_up_to.ensures.makes which) _ c.make_up_to.ensures.leaves.slots c.make_up_to.ensures.seen

pub returns-clause-at_turn : goal.returns-clause-at_turn
returns-clause-at_turn g c =
    at-first _ c.args.after c.args.then _ c.args.self.now c.self.view_is c.self.invariant c.requires.slots c.requires.held c.requires.turns c.requires.more
    _ c.make_up_to.result c.make_up_to.new.manager c.make_up_to.new.count _ _ _ _ (c.make_up_to.ensures.makes true)

pub returns-clause-stands : goal.returns-clause-stands
returns-clause-stands g c =
    stands-first _ c.args.after c.args.then _ c.args.self.now c.self.view_is c.self.invariant c.requires.slots c.requires.held c.requires.turns c.requires.more
    _ c.make_up_to.result c.make_up_to.new.manager c.make_up_to.new.count _ _ _ _ (c.make_up_to.ensures.makes true) _ c.make_up_to.ensures.leaves.slots

pub returns-clause-kind : goal.returns-clause-kind
returns-clause-kind g c =
    kind-first _ c.args.after c.args.then _ c.args.self.now c.self.view_is c.self.invariant c.requires.slots c.requires.held c.requires.turns c.requires.more
    _ c.make_up_to.result c.make_up_to.new.manager c.make_up_to.new.count _ _ _ _ (c.make_up_to.ensures.makes true)

pub returns-clause-setting : goal.returns-clause-setting
returns-clause-setting g c =
    setting-first _ c.args.after c.args.then _ c.args.self.now c.self.view_is c.self.invariant c.requires.slots c.requires.held c.requires.turns c.requires.more
    _ c.make_up_to.result c.make_up_to.new.manager c.make_up_to.new.count _ _ _ _ (c.make_up_to.ensures.makes true)

pub returns-clause-in_flight : goal.returns-clause-in_flight
returns-clause-in_flight g c =
    left-first _ c.args.after c.args.then _ c.args.self.now c.self.view_is c.self.invariant c.requires.slots c.requires.held c.requires.turns c.requires.more
    _ c.make_up_to.result c.make_up_to.new.manager c.make_up_to.new.count _ _ _ _ (c.make_up_to.ensures.makes true) (g.D.Writable.view c.make_up_to.new.device).flight c.make_up_to.ensures.in_flight

pub returns-clause-in_step : goal.returns-clause-in_step
returns-clause-in_step g c = λ not_sink.
    let width = c.make_up_to.ensures.leaves.slots in
    in-step-cut (g.D.Writable.view c.args.device.now).slots _ c.args.self.now c.self.invariant c.self.view_is c.make_up_to.new.manager c.make_up_to.new.count (g.D.Writable.view c.args.device.now).events (g.D.Writable.view c.make_up_to.new.device).events
    (g.D.Writable.view c.args.device.now).flight (g.D.Writable.view c.make_up_to.new.device).flight (rw width at (c.make_up_to.ensures.seen not_sink))
