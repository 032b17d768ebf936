-- Each way of going on says what both leave, and only a crash takes memory.
use Rattle.std.proofs.Common.{OnOk, sym, subst}
use Rattle.replay.specs.Crashing.{IsAtTurn, IsTurned}
use Rattle.replay.proofs.crash.Over.{to-crash-at, where-err}
use Rattle.replay.proofs.run.Run.hand_over.Goals as goal

pub take_back-requires : goal.take_back-requires
take_back-requires g c = record { at_turn = subst (λ then. IsAtTurn c.args.after then c.args.self.now) c.in-Back.is c.requires.at_turn }

pub restart-requires-clause-at_turn : goal.restart-requires-clause-at_turn
restart-requires-clause-at_turn g c = subst (λ then. IsAtTurn c.args.after then c.args.self.now) c.in-Restart.is c.requires.at_turn

pub restart-requires-clause-stands : goal.restart-requires-clause-stands
restart-requires-clause-stands g c = c.requires.stands (to-crash-at c.args.after c.args.then c.args.self.now c.requires.at_turn c.in-Restart.is)

pub returns-in-Back-clause-turned : goal.returns-in-Back-clause-turned
returns-in-Back-clause-turned g c = subst (λ then. IsTurned c.args.after then c.args.self.now c.take_back.new.self) (sym c.in-Back.is) c.take_back.ensures.turned

pub returns-in-Restart-clause-turned : goal.returns-in-Restart-clause-turned
returns-in-Restart-clause-turned g c =
    subst (λ then. OnOk c.restart.result (IsTurned c.args.after then c.args.self.now c.restart.new.self)) (sym c.in-Restart.is) c.restart.ensures.turned

pub returns-in-Restart-clause-kind : goal.returns-in-Restart-clause-kind
returns-in-Restart-clause-kind g c = where-err c.restart.result (to-crash-at c.args.after c.args.then c.args.self.now c.requires.at_turn c.in-Restart.is)
