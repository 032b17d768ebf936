-- The parts are counted.
use Rattle.std.proofs.Common.{◌+◌, ◌≤◌, ◌^◌, arith}
use Rattle.router.proofs.Kept.{wrote_router}
use Rattle.router.proofs.router.Router.count_writes.Goals as goal

pub invariant_of-self : goal.invariant_of-self
invariant_of-self c =
    let few : c.args.listed + c.args.routed ≤ 2 ^ 42 = (let a = c.requires.list_few in let b = c.requires.route_few in omega arith) in
    rw (c.clear.ensures, c.clear-2.ensures, c.from.ensures, c.from-2.ensures) (wrote_router _ (c.args.listed + c.args.routed) c.self.invariant few)
