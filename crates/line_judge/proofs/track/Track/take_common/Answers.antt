use Rattle.std.proofs.Common.{OnOk, IfErr, sym, subst}
use Rattle.driver_trace.specs.declared.DriverLine.TheVariants as driver
use Rattle.line_judge.specs.Tracked.{MayBeTaken, StopsAt, TakesLine}
use Rattle.line_judge.proofs.LinesTaken.{commit_takes, drain_takes, fault_takes, refused_takes}
use Rattle.line_judge.proofs.track.Track.take_common.Goals as goal

pub begin-requires : goal.begin-requires
begin-requires c = subst (λ line. MayBeTaken c.args.self.now (driver.Common line)) c.in-Head.is c.requires

pub returns-in-Head-clause-taken : goal.returns-in-Head-clause-taken
returns-in-Head-clause-taken c = subst (λ line. OnOk c.begin.result (TakesLine c.args.self.now (driver.Common line) c.begin.new.self)) (sym c.in-Head.is) c.begin.ensures.taken

pub returns-in-Head-clause-stopped : goal.returns-in-Head-clause-stopped
returns-in-Head-clause-stopped c = subst (λ line. IfErr c.begin.result (StopsAt c.args.self.now (driver.Common line))) (sym c.in-Head.is) c.begin.ensures.stopped

pub add-requires : goal.add-requires
add-requires c = subst (λ line. MayBeTaken c.args.self.now (driver.Common line)) c.in-Add.is c.requires

pub returns-in-Add-clause-taken : goal.returns-in-Add-clause-taken
returns-in-Add-clause-taken c = subst (λ line. OnOk c.add.result (TakesLine c.args.self.now (driver.Common line) c.add.new.self)) (sym c.in-Add.is) c.add.ensures.taken

pub returns-in-Add-clause-stopped : goal.returns-in-Add-clause-stopped
returns-in-Add-clause-stopped c = subst (λ line. IfErr c.add.result (StopsAt c.args.self.now (driver.Common line))) (sym c.in-Add.is) c.add.ensures.stopped

pub set-requires : goal.set-requires
set-requires c = subst (λ line. MayBeTaken c.args.self.now (driver.Common line)) c.in-Set.is c.requires

pub returns-in-Set-clause-taken : goal.returns-in-Set-clause-taken
returns-in-Set-clause-taken c = subst (λ line. OnOk c.set.result (TakesLine c.args.self.now (driver.Common line) c.set.new.self)) (sym c.in-Set.is) c.set.ensures.taken

pub returns-in-Set-clause-stopped : goal.returns-in-Set-clause-stopped
returns-in-Set-clause-stopped c = subst (λ line. IfErr c.set.result (StopsAt c.args.self.now (driver.Common line))) (sym c.in-Set.is) c.set.ensures.stopped

pub del-requires : goal.del-requires
del-requires c = subst (λ line. MayBeTaken c.args.self.now (driver.Common line)) c.in-Del.is c.requires

pub returns-in-Del-clause-taken : goal.returns-in-Del-clause-taken
returns-in-Del-clause-taken c = subst (λ line. OnOk c.del.result (TakesLine c.args.self.now (driver.Common line) c.del.new.self)) (sym c.in-Del.is) c.del.ensures.taken

pub returns-in-Del-clause-stopped : goal.returns-in-Del-clause-stopped
returns-in-Del-clause-stopped c = subst (λ line. IfErr c.del.result (StopsAt c.args.self.now (driver.Common line))) (sym c.in-Del.is) c.del.ensures.stopped

pub put-requires : goal.put-requires
put-requires c = subst (λ line. MayBeTaken c.args.self.now (driver.Common line)) c.in-Put.is c.requires

pub returns-in-Put-clause-taken : goal.returns-in-Put-clause-taken
returns-in-Put-clause-taken c = subst (λ line. OnOk c.put.result (TakesLine c.args.self.now (driver.Common line) c.put.new.self)) (sym c.in-Put.is) c.put.ensures.taken

pub returns-in-Put-clause-stopped : goal.returns-in-Put-clause-stopped
returns-in-Put-clause-stopped c = subst (λ line. IfErr c.put.result (StopsAt c.args.self.now (driver.Common line))) (sym c.in-Put.is) c.put.ensures.stopped

pub erase-requires : goal.erase-requires
erase-requires c = subst (λ line. MayBeTaken c.args.self.now (driver.Common line)) c.in-Erase.is c.requires

pub returns-in-Erase-clause-taken : goal.returns-in-Erase-clause-taken
returns-in-Erase-clause-taken c = subst (λ line. OnOk c.erase.result (TakesLine c.args.self.now (driver.Common line) c.erase.new.self)) (sym c.in-Erase.is) c.erase.ensures.taken

pub returns-in-Erase-clause-stopped : goal.returns-in-Erase-clause-stopped
returns-in-Erase-clause-stopped c = subst (λ line. IfErr c.erase.result (StopsAt c.args.self.now (driver.Common line))) (sym c.in-Erase.is) c.erase.ensures.stopped

pub write_word-requires : goal.write_word-requires
write_word-requires c = subst (λ line. MayBeTaken c.args.self.now (driver.Common line)) c.in-Table.is c.requires

pub returns-in-Table-clause-taken : goal.returns-in-Table-clause-taken
returns-in-Table-clause-taken c = subst (λ line. OnOk c.write_word.result (TakesLine c.args.self.now (driver.Common line) c.write_word.new.self)) (sym c.in-Table.is) c.write_word.ensures.taken

pub returns-in-Table-clause-stopped : goal.returns-in-Table-clause-stopped
returns-in-Table-clause-stopped c = subst (λ line. IfErr c.write_word.result (StopsAt c.args.self.now (driver.Common line))) (sym c.in-Table.is) c.write_word.ensures.stopped

pub done-requires : goal.done-requires
done-requires c = subst (λ line. MayBeTaken c.args.self.now (driver.Common line)) c.in-Done.is c.requires

pub returns-in-Done-clause-taken : goal.returns-in-Done-clause-taken
returns-in-Done-clause-taken c = subst (λ line. OnOk c.done.result (TakesLine c.args.self.now (driver.Common line) c.done.new.self)) (sym c.in-Done.is) c.done.ensures.taken

pub returns-in-Done-clause-stopped : goal.returns-in-Done-clause-stopped
returns-in-Done-clause-stopped c = subst (λ line. IfErr c.done.result (StopsAt c.args.self.now (driver.Common line))) (sym c.in-Done.is) c.done.ensures.stopped

pub check_count-requires : goal.check_count-requires
check_count-requires c = subst (λ line. MayBeTaken c.args.self.now (driver.Common line)) c.in-End.is c.requires

pub returns-in-End-clause-taken : goal.returns-in-End-clause-taken
returns-in-End-clause-taken c = subst (λ line. OnOk c.check_count.result (TakesLine c.args.self.now (driver.Common line) c.check_count.new.self)) (sym c.in-End.is) c.check_count.ensures.taken

pub returns-in-End-clause-stopped : goal.returns-in-End-clause-stopped
returns-in-End-clause-stopped c = subst (λ line. IfErr c.check_count.result (StopsAt c.args.self.now (driver.Common line))) (sym c.in-End.is) c.check_count.ensures.stopped

pub returns-in-Commit-clause-taken : goal.returns-in-Commit-clause-taken
returns-in-Commit-clause-taken c =
    subst (λ line. TakesLine c.args.self.now (driver.Common line) c.args.self.now) (sym c.in-Commit.is) (commit_takes c.args.self.now _ (subst (λ line. MayBeTaken c.args.self.now (driver.Common line)) c.in-Commit.is c.requires))

pub returns-in-Drain-clause-taken : goal.returns-in-Drain-clause-taken
returns-in-Drain-clause-taken c =
    subst (λ line. TakesLine c.args.self.now (driver.Common line) c.args.self.now) (sym c.in-Drain.is) (drain_takes c.args.self.now (subst (λ line. MayBeTaken c.args.self.now (driver.Common line)) c.in-Drain.is c.requires))

pub returns-in-Refused-clause-taken : goal.returns-in-Refused-clause-taken
returns-in-Refused-clause-taken c =
    subst (λ line. TakesLine c.args.self.now (driver.Common line) c.args.self.now) (sym c.in-Refused.is) (refused_takes c.args.self.now _ (subst (λ line. MayBeTaken c.args.self.now (driver.Common line)) c.in-Refused.is c.requires))

pub returns-in-Fault-clause-taken : goal.returns-in-Fault-clause-taken
returns-in-Fault-clause-taken c =
    subst (λ line. TakesLine c.args.self.now (driver.Common line) c.args.self.now) (sym c.in-Fault.is) (fault_takes c.args.self.now _ (subst (λ line. MayBeTaken c.args.self.now (driver.Common line)) c.in-Fault.is c.requires))
