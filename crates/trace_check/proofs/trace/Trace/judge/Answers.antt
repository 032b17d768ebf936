use Rattle.std.proofs.Common.{OnOk, IfErr, sym, subst}
use Rattle.trace_check.specs.Traced.{Breaks, MayBeJudged, TakesLine}
use Rattle.trace_check.proofs.LinesTaken.{refused_takes, fault_takes}
use Rattle.trace_check.proofs.trace.Trace.judge.Goals as goal

pub begin-requires : goal.begin-requires
begin-requires c = subst (MayBeJudged c.args.self.now) c.in-Head.is c.requires

pub returns-in-Head-clause-taken : goal.returns-in-Head-clause-taken
returns-in-Head-clause-taken c = subst (λ line. OnOk c.begin.result (TakesLine c.args.self.now line c.begin.new.self)) (sym c.in-Head.is) c.begin.ensures.taken

pub returns-in-Head-clause-broken : goal.returns-in-Head-clause-broken
returns-in-Head-clause-broken c = subst (λ line. IfErr c.begin.result (Breaks c.args.self.now line)) (sym c.in-Head.is) c.begin.ensures.broken

pub add-requires : goal.add-requires
add-requires c = subst (MayBeJudged c.args.self.now) c.in-Add.is c.requires

pub returns-in-Add-clause-taken : goal.returns-in-Add-clause-taken
returns-in-Add-clause-taken c = subst (λ line. OnOk c.add.result (TakesLine c.args.self.now line c.add.new.self)) (sym c.in-Add.is) c.add.ensures.taken

pub returns-in-Add-clause-broken : goal.returns-in-Add-clause-broken
returns-in-Add-clause-broken c = subst (λ line. IfErr c.add.result (Breaks c.args.self.now line)) (sym c.in-Add.is) c.add.ensures.broken

pub set-requires : goal.set-requires
set-requires c = subst (MayBeJudged c.args.self.now) c.in-Set.is c.requires

pub returns-in-Set-clause-taken : goal.returns-in-Set-clause-taken
returns-in-Set-clause-taken c = subst (λ line. OnOk c.set.result (TakesLine c.args.self.now line c.set.new.self)) (sym c.in-Set.is) c.set.ensures.taken

pub returns-in-Set-clause-broken : goal.returns-in-Set-clause-broken
returns-in-Set-clause-broken c = subst (λ line. IfErr c.set.result (Breaks c.args.self.now line)) (sym c.in-Set.is) c.set.ensures.broken

pub del-requires : goal.del-requires
del-requires c = subst (MayBeJudged c.args.self.now) c.in-Del.is c.requires

pub returns-in-Del-clause-taken : goal.returns-in-Del-clause-taken
returns-in-Del-clause-taken c = subst (λ line. OnOk c.del.result (TakesLine c.args.self.now line c.del.new.self)) (sym c.in-Del.is) c.del.ensures.taken

pub returns-in-Del-clause-broken : goal.returns-in-Del-clause-broken
returns-in-Del-clause-broken c = subst (λ line. IfErr c.del.result (Breaks c.args.self.now line)) (sym c.in-Del.is) c.del.ensures.broken

pub put-requires : goal.put-requires
put-requires c = subst (MayBeJudged c.args.self.now) c.in-Put.is c.requires

pub returns-in-Put-clause-taken : goal.returns-in-Put-clause-taken
returns-in-Put-clause-taken c = subst (λ line. OnOk c.put.result (TakesLine c.args.self.now line c.put.new.self)) (sym c.in-Put.is) c.put.ensures.taken

pub returns-in-Put-clause-broken : goal.returns-in-Put-clause-broken
returns-in-Put-clause-broken c = subst (λ line. IfErr c.put.result (Breaks c.args.self.now line)) (sym c.in-Put.is) c.put.ensures.broken

pub erase-requires : goal.erase-requires
erase-requires c = subst (MayBeJudged c.args.self.now) c.in-Erase.is c.requires

pub returns-in-Erase-clause-taken : goal.returns-in-Erase-clause-taken
returns-in-Erase-clause-taken c = subst (λ line. OnOk c.erase.result (TakesLine c.args.self.now line c.erase.new.self)) (sym c.in-Erase.is) c.erase.ensures.taken

pub returns-in-Erase-clause-broken : goal.returns-in-Erase-clause-broken
returns-in-Erase-clause-broken c = subst (λ line. IfErr c.erase.result (Breaks c.args.self.now line)) (sym c.in-Erase.is) c.erase.ensures.broken

pub write_word-requires : goal.write_word-requires
write_word-requires c = subst (MayBeJudged c.args.self.now) c.in-Table.is c.requires

pub returns-in-Table-clause-taken : goal.returns-in-Table-clause-taken
returns-in-Table-clause-taken c = subst (λ line. OnOk c.write_word.result (TakesLine c.args.self.now line c.write_word.new.self)) (sym c.in-Table.is) c.write_word.ensures.taken

pub returns-in-Table-clause-broken : goal.returns-in-Table-clause-broken
returns-in-Table-clause-broken c = subst (λ line. IfErr c.write_word.result (Breaks c.args.self.now line)) (sym c.in-Table.is) c.write_word.ensures.broken

pub drain-requires : goal.drain-requires
drain-requires c = subst (MayBeJudged c.args.self.now) c.in-Drain.is c.requires

pub returns-in-Drain-clause-taken : goal.returns-in-Drain-clause-taken
returns-in-Drain-clause-taken c = subst (λ line. OnOk c.drain.result (TakesLine c.args.self.now line c.drain.new.self)) (sym c.in-Drain.is) c.drain.ensures.taken

pub returns-in-Drain-clause-broken : goal.returns-in-Drain-clause-broken
returns-in-Drain-clause-broken c = subst (λ line. IfErr c.drain.result (Breaks c.args.self.now line)) (sym c.in-Drain.is) c.drain.ensures.broken

pub finish-requires : goal.finish-requires
finish-requires c = subst (MayBeJudged c.args.self.now) c.in-Done.is c.requires

pub returns-in-Done-clause-taken : goal.returns-in-Done-clause-taken
returns-in-Done-clause-taken c = subst (λ line. OnOk c.finish.result (TakesLine c.args.self.now line c.finish.new.self)) (sym c.in-Done.is) c.finish.ensures.taken

pub returns-in-Done-clause-broken : goal.returns-in-Done-clause-broken
returns-in-Done-clause-broken c = subst (λ line. IfErr c.finish.result (Breaks c.args.self.now line)) (sym c.in-Done.is) c.finish.ensures.broken

pub check_count-requires : goal.check_count-requires
check_count-requires c = subst (MayBeJudged c.args.self.now) c.in-End.is c.requires

pub returns-in-End-clause-taken : goal.returns-in-End-clause-taken
returns-in-End-clause-taken c = subst (λ line. OnOk c.check_count.result (TakesLine c.args.self.now line c.check_count.new.self)) (sym c.in-End.is) c.check_count.ensures.taken

pub returns-in-End-clause-broken : goal.returns-in-End-clause-broken
returns-in-End-clause-broken c = subst (λ line. IfErr c.check_count.result (Breaks c.args.self.now line)) (sym c.in-End.is) c.check_count.ensures.broken

pub begin_batch-requires : goal.begin_batch-requires
begin_batch-requires c = subst (MayBeJudged c.args.self.now) c.in-Commit.is c.requires

pub returns-in-Commit-clause-taken : goal.returns-in-Commit-clause-taken
returns-in-Commit-clause-taken c = subst (λ line. TakesLine c.args.self.now line c.begin_batch.new.self) (sym c.in-Commit.is) c.begin_batch.ensures

pub returns-in-Refused-clause-taken : goal.returns-in-Refused-clause-taken
returns-in-Refused-clause-taken c =
    subst (λ line. TakesLine c.args.self.now line c.args.self.now) (sym c.in-Refused.is) (refused_takes c.args.self.now _ (subst (MayBeJudged c.args.self.now) c.in-Refused.is c.requires))

pub returns-in-Fault-clause-taken : goal.returns-in-Fault-clause-taken
returns-in-Fault-clause-taken c =
    subst (λ line. TakesLine c.args.self.now line c.args.self.now) (sym c.in-Fault.is) (fault_takes c.args.self.now _ (subst (MayBeJudged c.args.self.now) c.in-Fault.is c.requires))
