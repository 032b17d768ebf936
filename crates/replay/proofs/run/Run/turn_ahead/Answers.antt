-- Few writes are made and left, so their number fits.
use Rattle.std.proofs.Common.{◌+◌, ◌^◌, ◌≤◌, rules}
use Rattle.replay.proofs.crash.Coming.{few-told}
use Rattle.replay.proofs.run.Run.turn_ahead.Goals as goal

pub overflow_add-self-inside : goal.overflow_add-self-inside
overflow_add-self-inside c =
    let few : c.self.inside.count.told + c.in_ok-left.left ≤ 2 ^ 36 =
    few-told _ _ _ c.args.self.now c.self.view_is c.self.invariant c.requires.held c.in-Turns.is c.in_ok-left.left (cc) in
    search rules
