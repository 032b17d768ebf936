use Rattle.import_lines.specs.Import.{telling}
use Rattle.import_lines.proofs.Accounts.{all-are-accounted}
use Rattle.import_lines.proofs.laws.all_lines_are_accounted_for.Goals as goal

pub returns : goal.returns
returns g c = all-are-accounted _ (telling g.F.LineFormat.told g.F.LineFormat.behind g.F.LineFormat.closing)
