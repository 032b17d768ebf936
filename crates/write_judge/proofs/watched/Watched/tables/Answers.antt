use Rattle.std.proofs.Common.{ap}
use Rattle.tcam_device.specs.State.{State}
use Rattle.write_judge.proofs.watched.Watched.tables.Goals as goal

pub returns-clause-src : goal.returns-clause-src
returns-clause-src c = ap (λ (s : State). s.src) c.self.view_is

pub returns-clause-dst : goal.returns-clause-dst
returns-clause-dst c = ap (λ (s : State). s.dst) c.self.view_is
