use Rattle.rule_entries.proofs.Answering.{set_found}
use Rattle.rule_entries.proofs.laws.rule_entries_answer.Goals as goal

pub returns : goal.returns
returns c = λ rules key src dst set right valid below_src below_dst. set_found key valid src dst below_src below_dst rules right set
