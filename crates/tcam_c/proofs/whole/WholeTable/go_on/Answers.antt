use Rattle.tcam_c.proofs.Ways.{some_kind}
use Rattle.tcam_c.proofs.whole.WholeTable.go_on.Goals as goal

pub go_on-requires-clause-due : goal.go_on-requires-clause-due
go_on-requires-clause-due c = some_kind _ (rw (← c.self.view_is) at c.requires)
