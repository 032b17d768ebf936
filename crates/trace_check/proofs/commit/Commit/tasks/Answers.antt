use Rattle.std.proofs.Common.{arith}
use Rattle.trace_check.proofs.CountedTasks.{tasks_size}
use Rattle.trace_check.proofs.commit.Commit.tasks.Goals as goal

pub returns : goal.returns
returns c =
    let s = c.args.self.now in
    let all = tasks_size s.inserted.items s.rewritten.items s.erased.items in
    let a = c.len.ensures in
    let b = c.len-2.ensures in
    let d = c.len-3.ensures in
    omega arith
