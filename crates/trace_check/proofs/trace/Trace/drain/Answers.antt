use Rattle.std.proofs.Common.{None, sym, subst}
use Rattle.trace_file.specs.declared.TraceLine.TheVariants as lines
use Rattle.trace_check.specs.Places.{place_after}
use Rattle.trace_check.specs.Traced.{IsTraceSized}
use Rattle.trace_check.proofs.LinesTaken.{some_place, event_open, takes_from, refused_breaks}
use Rattle.trace_check.proofs.WritesTaken.{drain_takes}
use Rattle.trace_check.proofs.trace.Trace.drain.Goals as goal

pub under_way-requires-clause-open : goal.under_way-requires-clause-open
under_way-requires-clause-open c =
    let n = some_place (place_after c.args.self.now.slots c.args.self.now.place lines.Drain) c.requires.stands in
    event_open c.args.self.now.slots None c.args.self.now.place n.0 c.args.self.now n.1 c.requires.sound.right

pub returns-in-Err-clause-broken : goal.returns-in-Err-clause-broken
returns-in-Err-clause-broken c = refused_breaks c.args.self.now lines.Drain c.in-Err.fault c.in-Err.ensures.refused (λ keeps. keeps.taken)

pub returns-in-Ok-clause-taken : goal.returns-in-Ok-clause-taken
returns-in-Ok-clause-taken c =
    takes_from c.args.self.now c.under_way.new.self _ lines.Drain c.in-Ok.ensures.same
    (drain_takes c.under_way.new.self c.in-Ok.commit (subst IsTraceSized (sym c.in-Ok.ensures.same) c.requires.sound.sized) c.in-Ok.ensures.opened)
