-- What undoes the writes that were made is left of the commit.
use Rattle.std.proofs.Common.{◌∙◌, ap, subst, sym}
use Rattle.batch_order.specs.CarriedOut.{HasRoomBothWays}
use Rattle.batch_order.specs.Managed.{live_now}
use Rattle.replay.specs.Running.{Running}
use Rattle.replay.proofs.crash.TakenBack.{is-back, progress-back, run-back, setting-back, turns_room, unfinished-back}
use Rattle.replay.proofs.run.Run.take_back.Goals as goal

pub invariant_of-self : goal.invariant_of-self
invariant_of-self c = run-back c.args.after _ c.args.self.now c.self.view_is c.self.invariant c.requires.at_turn _ c.abort-writes.new.self c.abort-writes.ensures.aborts

pub returns-clause-turned : goal.returns-clause-turned
returns-clause-turned c = is-back c.args.after _ c.args.self.now c.self.view_is c.self.invariant c.requires.at_turn _ c.abort-writes.new.self c.abort-writes.ensures.aborts

pub returns-clause-unfinished : goal.returns-clause-unfinished
returns-clause-unfinished c = unfinished-back c.args.after _ c.args.self.now c.self.view_is c.self.invariant c.requires.at_turn _ c.abort-writes.new.self c.abort-writes.ensures.aborts

pub returns-clause-stands : goal.returns-clause-stands
returns-clause-stands c = progress-back c.args.after _ c.args.self.now c.self.view_is c.self.invariant c.requires.at_turn _ c.abort-writes.new.self c.abort-writes.ensures.aborts

pub returns-clause-setting : goal.returns-clause-setting
returns-clause-setting c = setting-back c.args.after _ c.args.self.now c.self.view_is c.self.invariant c.requires.at_turn _ c.abort-writes.new.self c.abort-writes.ensures.aborts

pub returns-clause-current : goal.returns-clause-current
returns-clause-current c = c.abort-writes.ensures.current ∙ ap (λ (run : Running). live_now run.manager) c.self.view_is

pub returns-clause-room : goal.returns-clause-room
returns-clause-room c = λ spare room.
    turns_room _ c.abort-writes.new.self _ c.abort-writes.ensures.aborts spare (subst (λ (run : Running). HasRoomBothWays run.manager.held spare) (sym c.self.view_is) room)
