use Rattle.ip_monitor.proofs.Answering.{least-counts}
use Rattle.ip_monitor.proofs.laws.least_metrics_count.Goals as goal

pub returns : goal.returns
returns c = least-counts
