use Rattle.std.proofs.Common.{refl}
use Rattle.ip_routes.proofs.Ways.{found-number, found-comment, found-hops, none-number, none-comment, none-hops}
use Rattle.ip_routes.proofs.hops.number_way.Goals as goal

pub returns-in-Some-clause-number : goal.returns-in-Some-clause-number
returns-in-Some-clause-number c = found-number c.args.hops.now c.args.hops.now c.args.way.now _ refl c.in-Some.ensures

pub returns-in-Some-clause-comment : goal.returns-in-Some-clause-comment
returns-in-Some-clause-comment c = found-comment c.args.hops.now c.args.hops.now c.args.way.now _ c.args.into.now.items refl c.in-Some.ensures

pub returns-in-Some-clause-hops : goal.returns-in-Some-clause-hops
returns-in-Some-clause-hops c = found-hops c.args.hops.now c.args.hops.now c.args.way.now _ refl c.in-Some.ensures

pub returns-in-None-clause-number : goal.returns-in-None-clause-number
returns-in-None-clause-number c = none-number c.args.hops.now c.args.way.now _ c.in-None.ensures c.add_way.ensures.number

pub returns-in-None-clause-comment : goal.returns-in-None-clause-comment
returns-in-None-clause-comment c = none-comment c.args.hops.now c.args.way.now _ c.args.into.now.items _ c.in-None.ensures c.add_way.ensures.comment

pub returns-in-None-clause-hops : goal.returns-in-None-clause-hops
returns-in-None-clause-hops c = none-hops c.args.hops.now c.args.way.now _ _ c.in-None.ensures c.add_way.ensures.hops
