use Rattle.std.proofs.Common.{sym, subst, ◌+◌}
use Rattle.std.proofs.lemmas.Result.{on_ok_weaker, IfErr-weaker}
use Rattle.std.proofs.lemmas.Bool.{both_ways}
use Rattle.trace_file.specs.declared.TraceLine.TheVariants as lines
use Rattle.trace_check.specs.declared.trace.Trace.{Trace}
use Rattle.trace_check.specs.Traced.{TakesLine}
use Rattle.trace_check.proofs.LinesTaken.{memory_breaks}
use Rattle.trace_check.proofs.WritesTaken.{not_over, done_takes}
use Rattle.trace_check.proofs.trace.Trace.finish_by.Goals as goal

pub returns-then-not-is_over-clause-broken : goal.returns-then-not-is_over-clause-broken
returns-then-not-is_over-clause-broken c keeps =
    not_over c.args.self.now c.args.commit c.requires.sized c.requires.opened (λ over. both_ways c.is_over.result c.if-not-is_over.true (c.is_over.ensures.1 over)) c.args.n keeps

pub apply_batch-requires : goal.apply_batch-requires
apply_batch-requires c = c.requires.opened.kept.is.may.can.sound

pub returns-in-Err-clause-broken : goal.returns-in-Err-clause-broken
returns-in-Err-clause-broken c = memory_breaks c.args.self.now (lines.Done c.args.n) c.in-Err.fault c.in-Err.ensures.memory

pub returns-clause-taken : goal.returns-clause-taken
returns-clause-taken c =
    on_ok_weaker c.count_commit.result (λ same. subst (TakesLine c.args.self.now (lines.Done c.args.n)) (sym same)
    (subst (λ (m : Trace). TakesLine c.args.self.now (lines.Done c.args.n) (record m { bits = c.bits_left-self.result; counts = record m.counts { commits = m.counts.commits + 1 } })) (sym c.in-Ok.ensures.others)
    (done_takes c.args.self.now c.args.commit c.requires.sized c.requires.opened (c.is_over.ensures.0 c.if-not-is_over.false) c.args.n c.apply_batch.new.self.rules c.bits_left-self.result c.in-Ok.ensures.rules
    c.bits_left-self.ensures))) c.count_commit.ensures.counted

pub returns-clause-broken : goal.returns-clause-broken
returns-clause-broken c = IfErr-weaker c.count_commit.result _ _ (λ fault is. memory_breaks c.args.self.now (lines.Done c.args.n) fault is) c.count_commit.ensures.memory
