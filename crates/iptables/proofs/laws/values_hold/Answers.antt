use Rattle.iptables.proofs.Beside.{blocks-hold}
use Rattle.iptables.proofs.Between.{spans-hold}
use Rattle.iptables.proofs.Holding.{met-holds}
use Rattle.iptables.proofs.Ranges.{either-holds, faces-hold, ports-hold, protos-hold}
use Rattle.iptables.specs.Faces.{names_face}
use Rattle.iptables.proofs.laws.values_hold.Goals as goal

pub returns-clause-met : goal.returns-clause-met
returns-clause-met c = met-holds c.lists_answer_as_walks.ensures

pub returns-clause-blocks : goal.returns-clause-blocks
returns-clause-blocks c = blocks-hold

pub returns-clause-spans : goal.returns-clause-spans
returns-clause-spans c = spans-hold c.lists_answer_as_walks.ensures

pub returns-clause-protos : goal.returns-clause-protos
returns-clause-protos c = protos-hold

pub returns-clause-ports : goal.returns-clause-ports
returns-clause-ports c = ports-hold c.lists_answer_as_walks.ensures

pub returns-clause-either : goal.returns-clause-either
returns-clause-either c = either-holds c.lists_answer_as_walks.ensures

pub returns-clause-faces : goal.returns-clause-faces
returns-clause-faces c = λ negated word name. faces-hold negated (names_face word name)
