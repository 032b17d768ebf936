use Rattle.iptables.proofs.Again.{come-again}
use Rattle.iptables.proofs.laws.lists_come_again.Goals as goal

pub returns : goal.returns
returns c = come-again
