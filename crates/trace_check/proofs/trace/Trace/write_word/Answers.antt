use Rattle.std.proofs.Common.{None, sym, subst}
use Rattle.std.proofs.lemmas.Result.{on_ok_weaker, IfErr-weaker}
use Rattle.trace_file.specs.declared.TraceLine.TheVariants as lines
use Rattle.trace_check.specs.Places.{place_after}
use Rattle.trace_check.specs.Traced.{IsTraceSized}
use Rattle.trace_check.proofs.LinesTaken.{some_place, event_open, takes_from, breaks_from, refused_breaks}
use Rattle.trace_check.proofs.trace.Trace.write_word.Goals as goal

pub under_way-requires-clause-open : goal.under_way-requires-clause-open
under_way-requires-clause-open c =
    let n = some_place (place_after c.args.self.now.slots c.args.self.now.place (lines.Table c.args.field c.args.port c.args.word)) c.requires.stands in
    event_open c.args.self.now.slots None c.args.self.now.place n.0 c.args.self.now n.1 c.requires.sound.right

pub write_word_by-requires-clause-sized : goal.write_word_by-requires-clause-sized
write_word_by-requires-clause-sized c = subst IsTraceSized (sym c.in-Ok.ensures.same) c.requires.sound.sized

pub returns-in-Err-clause-broken : goal.returns-in-Err-clause-broken
returns-in-Err-clause-broken c = refused_breaks c.args.self.now (lines.Table c.args.field c.args.port c.args.word) c.in-Err.fault c.in-Err.ensures.refused (λ keeps. keeps.0.taken)

pub returns-in-Ok-clause-taken : goal.returns-in-Ok-clause-taken
returns-in-Ok-clause-taken c =
    on_ok_weaker c.write_word_by.result (λ takes. takes_from c.args.self.now c.under_way.new.self c.write_word_by.new.self (lines.Table c.args.field c.args.port c.args.word) c.in-Ok.ensures.same takes) c.write_word_by.ensures.taken

pub returns-in-Ok-clause-broken : goal.returns-in-Ok-clause-broken
returns-in-Ok-clause-broken c =
    IfErr-weaker c.write_word_by.result _ _ (λ fault broken. breaks_from c.args.self.now c.under_way.new.self (lines.Table c.args.field c.args.port c.args.word) fault c.in-Ok.ensures.same broken) c.write_word_by.ensures.broken
