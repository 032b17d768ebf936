use Rattle.std.proofs.Common.{Some, true}
use Rattle.std.proofs.lemmas.Result.{on_ok_weaker, IfErr-weaker}
use Rattle.tcam_device.specs.declared.Write.TheVariants as writes
use Rattle.trace_file.specs.declared.TraceLine.TheVariants as lines
use Rattle.trace_check.proofs.LinesTaken.{stop_breaks}
use Rattle.trace_check.proofs.WritesTaken.{put_takes}
use Rattle.trace_check.proofs.trace.Trace.put_by.Goals as goal

pub may_put-requires : goal.may_put-requires
may_put-requires c = c.requires.opened.kept.is.gives

pub returns-then-not-may_put-clause-broken : goal.returns-then-not-may_put-clause-broken
returns-then-not-may_put-clause-broken c keeps = c.may_put.ensures.must c.if-not-may_put.true keeps.1

pub write_slot-requires-clause-opened : goal.write_slot-requires-clause-opened
write_slot-requires-clause-opened c = record { kept = c.requires.opened.kept; unmoved = c.requires.opened.unmoved }

pub returns-clause-taken : goal.returns-clause-taken
returns-clause-taken c =
    on_ok_weaker c.write_slot.result (λ w. put_takes c.args.self.now c.write_slot.new.self c.args.slot c.args.entry.now (c.may_put.ensures.may c.if-not-may_put.false) w) c.write_slot.ensures.written

pub returns-clause-broken : goal.returns-clause-broken
returns-clause-broken c =
    IfErr-weaker c.write_slot.result _ _ (λ fault stops. stop_breaks c.args.self.now (record c.args.self.now { has_put = true }) (lines.Put c.args.slot c.args.entry.now) (writes.Slot c.args.slot (Some c.args.entry.now)) fault stops
    (λ keeps. keeps.0.stage)) c.write_slot.ensures.broken
