use Rattle.cisco_lists.proofs.Outcomes.{named-said, named-unsaid}
use Rattle.cisco_lists.proofs.format.CiscoList.take_named.Goals as goal

pub returns-in_ok-enter-in-Said : goal.returns-in_ok-enter-in-Said
returns-in_ok-enter-in-Said c = named-said c.args.self.now c.args.text.now c.args.name.now c.args.at.now _ _ c.take_entry.new.self _ c.in-Said.is c.in_ok-take_entry.ensures c.in_ok-enter-in-Said.ensures

pub returns-in-Unsaid : goal.returns-in-Unsaid
returns-in-Unsaid c = named-unsaid c.args.self.now c.args.text.now c.args.name.now c.args.at.now _ _ _ c.in-Unsaid.is c.in_ok-take_entry.ensures
