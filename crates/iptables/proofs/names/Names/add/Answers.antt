use Rattle.iptables.proofs.Naming.{name-added}
use Rattle.iptables.proofs.names.Names.add.Goals as goal

pub returns : goal.returns
returns c = name-added c.args.name.now _ _ _ _ c.self.view_is c.requires.new c.in_ok-bytes.ensures.items c.in_ok-insert.ensures.keys
