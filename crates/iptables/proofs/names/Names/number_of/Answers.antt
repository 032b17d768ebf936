use Rattle.iptables.proofs.Naming.{name-place}
use Rattle.iptables.proofs.names.Names.number_of.Goals as goal

pub returns : goal.returns
returns c = name-place c.args.name.now _ _ _ c.self.view_is c.get_index_of.ensures.index
