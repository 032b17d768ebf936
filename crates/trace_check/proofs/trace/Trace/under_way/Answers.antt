use Rattle.std.proofs.Common.{Option, sym, ◌∙◌, ap}
use Rattle.trace_check.specs.declared.commit.Commit.{Commit}
use Rattle.trace_check.specs.declared.trace.Trace.{Trace}
use Rattle.trace_check.proofs.Opens.{opened_held, judged, begun_opens}
use Rattle.trace_check.proofs.trace.Trace.under_way.Goals as goal

pub returns-in-Some-clause-opened : goal.returns-in-Some-clause-opened
returns-in-Some-clause-opened c = opened_held c.args.self.now c.in-Some.commit _ (sym c.take.ensures.value ∙ c.in-Some.is) c.requires.open

pub returns-in-Some-clause-same : goal.returns-in-Some-clause-same
returns-in-Some-clause-same c = ap (λ (rest : Option Commit). let t : Trace = record c.args.self.now { commit = rest } in t) c.take.ensures.after

pub returns-in-None-clause-same : goal.returns-in-None-clause-same
returns-in-None-clause-same c = ap (λ (rest : Option Commit). let t : Trace = record c.args.self.now { commit = rest } in t) c.take.ensures.after

pub begin_commit-requires : goal.begin_commit-requires
begin_commit-requires c accepted = judged c.args.self.now (sym c.take.ensures.value ∙ c.in-None.is) c.requires.open c.changes_rules.ensures accepted

pub returns-in-None-clause-opened : goal.returns-in-None-clause-opened
returns-in-None-clause-opened c =
    begun_opens c.args.self.now _ c.begin_commit.result c.requires.sized (sym c.take.ensures.value ∙ c.in-None.is) c.requires.open c.begin_commit.ensures.accepted c.begin_commit.ensures.commit
    c.begin_commit.ensures.begun
