use Rattle.std.proofs.Common.{◌<◌, Some, sym, subst}
use Rattle.std.proofs.lemmas.Result.{on_ok_weaker, IfErr-weaker}
use Rattle.trace_file.specs.declared.TraceLine.TheVariants as lines
use Rattle.trace_check.specs.declared.trace.Trace.{Trace}
use Rattle.trace_check.specs.Places.{place_after}
use Rattle.trace_check.specs.Traced.{IsTraceSized}
use Rattle.trace_check.proofs.LinesTaken.{some_place, event_open, event_used, takes_from, breaks_from, refused_breaks}
use Rattle.trace_check.proofs.trace.Trace.put.Goals as goal

pub under_way-requires-clause-open : goal.under_way-requires-clause-open
under_way-requires-clause-open c =
    let n = some_place (place_after c.args.self.now.slots c.args.self.now.place (lines.Put c.args.slot c.args.entry.now)) c.requires.stands in
    event_open c.args.self.now.slots (Some c.args.slot) c.args.self.now.place n.0 c.args.self.now n.1 c.requires.sound.right

pub put_by-requires-clause-sized : goal.put_by-requires-clause-sized
put_by-requires-clause-sized c = subst IsTraceSized (sym c.in-Ok.ensures.same) c.requires.sound.sized

pub put_by-requires-clause-used : goal.put_by-requires-clause-used
put_by-requires-clause-used c =
    let n = some_place (place_after c.args.self.now.slots c.args.self.now.place (lines.Put c.args.slot c.args.entry.now)) c.requires.stands in
    subst (λ (t : Trace). c.args.slot < t.slots) (sym c.in-Ok.ensures.same) (event_used c.args.self.now.slots c.args.slot c.args.self.now.place n.0 n.1)

pub returns-in-Err-clause-broken : goal.returns-in-Err-clause-broken
returns-in-Err-clause-broken c = refused_breaks c.args.self.now (lines.Put c.args.slot c.args.entry.now) c.in-Err.fault c.in-Err.ensures.refused (λ keeps. keeps.0.taken)

pub returns-in-Ok-clause-taken : goal.returns-in-Ok-clause-taken
returns-in-Ok-clause-taken c =
    on_ok_weaker c.put_by.result (λ takes. takes_from c.args.self.now c.under_way.new.self c.put_by.new.self (lines.Put c.args.slot c.args.entry.now) c.in-Ok.ensures.same takes) c.put_by.ensures.taken

pub returns-in-Ok-clause-broken : goal.returns-in-Ok-clause-broken
returns-in-Ok-clause-broken c =
    IfErr-weaker c.put_by.result _ _ (λ fault broken. breaks_from c.args.self.now c.under_way.new.self (lines.Put c.args.slot c.args.entry.now) fault c.in-Ok.ensures.same broken) c.put_by.ensures.broken
