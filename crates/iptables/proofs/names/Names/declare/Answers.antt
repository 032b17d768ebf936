use Rattle.iptables.proofs.Naming.{names-found, names-none}
use Rattle.iptables.proofs.names.Names.declare.Goals as goal

pub returns-in-Some : goal.returns-in-Some
returns-in-Some c = names-found c.args.self.now c.args.name.now _ c.in-Some.ensures

pub returns-in-None : goal.returns-in-None
returns-in-None c = names-none c.args.self.now _ c.args.name.now _ c.in-None.ensures c.add.ensures
