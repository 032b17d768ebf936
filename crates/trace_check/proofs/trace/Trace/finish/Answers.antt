use Rattle.std.proofs.Common.{sym, subst}
use Rattle.std.proofs.lemmas.Result.{on_ok_weaker, IfErr-weaker}
use Rattle.trace_file.specs.declared.TraceLine.TheVariants as lines
use Rattle.trace_check.specs.Places.{place_after}
use Rattle.trace_check.specs.Traced.{IsTraceSized}
use Rattle.trace_check.proofs.LinesTaken.{some_place, done_open, takes_from, breaks_from, refused_breaks}
use Rattle.trace_check.proofs.trace.Trace.finish.Goals as goal

pub under_way-requires-clause-open : goal.under_way-requires-clause-open
under_way-requires-clause-open c =
    let n = some_place (place_after c.args.self.now.slots c.args.self.now.place (lines.Done c.args.n)) c.requires.stands in
    done_open c.args.self.now.slots c.args.n c.args.self.now.place n.0 c.args.self.now n.1 c.requires.sound.right

pub finish_by-requires-clause-sized : goal.finish_by-requires-clause-sized
finish_by-requires-clause-sized c = subst IsTraceSized (sym c.in-Ok.ensures.same) c.requires.sound.sized

pub returns-in-Err-clause-broken : goal.returns-in-Err-clause-broken
returns-in-Err-clause-broken c = refused_breaks c.args.self.now (lines.Done c.args.n) c.in-Err.fault c.in-Err.ensures.refused (λ keeps. keeps.0.taken)

pub returns-in-Ok-clause-taken : goal.returns-in-Ok-clause-taken
returns-in-Ok-clause-taken c =
    on_ok_weaker c.finish_by.result (λ takes. takes_from c.args.self.now c.under_way.new.self c.finish_by.new.self (lines.Done c.args.n) c.in-Ok.ensures.same takes) c.finish_by.ensures.taken

pub returns-in-Ok-clause-broken : goal.returns-in-Ok-clause-broken
returns-in-Ok-clause-broken c =
    IfErr-weaker c.finish_by.result _ _ (λ fault broken. breaks_from c.args.self.now c.under_way.new.self (lines.Done c.args.n) fault c.in-Ok.ensures.same broken) c.finish_by.ensures.broken
