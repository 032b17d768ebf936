use Rattle.iptables.proofs.ports.+put_list.Given as goal

abbrev pub decreases-put_list : goal.decreases-put_list
decreases-put_list l = l.most
