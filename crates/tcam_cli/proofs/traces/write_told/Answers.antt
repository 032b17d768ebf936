use Rattle.std.proofs.Common.{refl, sym, subst}
use Rattle.script_lines.specs.declared.LineFault.TheVariants as line_fault
use Rattle.trace_check.specs.Answers.{Yes, No, Bad, Unread}
use Rattle.tcam_cli.specs.Rounds.{Reports}
use Rattle.tcam_cli.proofs.Closings.{closes-by-status}
use Rattle.tcam_cli.proofs.traces.write_told.Goals as goal

pub returns-in-Yes : goal.returns-in-Yes
returns-in-Yes g c =
    subst (λ v. Reports g.K.Sink.taken g.K.Sink.accepted g.K.Sink.faults c.args.sink.now c.write_yes.new.sink v c.status.result) (sym c.in-Yes.is)
    (Yes _ _, refl, closes-by-status _ _ _ _ _ _ _ c.status.result c.write_yes.result (λ e. cc) c.write_yes.ensures c.status.ensures)

pub returns-in-No : goal.returns-in-No
returns-in-No g c =
    subst (λ v. Reports g.K.Sink.taken g.K.Sink.accepted g.K.Sink.faults c.args.sink.now c.write_no.new.sink v c.status-in-No.result) (sym c.in-No.is)
    (No _, refl, closes-by-status _ _ _ _ _ _ _ c.status-in-No.result c.write_no.result (λ e. cc) c.write_no.ensures c.status-in-No.ensures)

pub returns-in-Bad : goal.returns-in-Bad
returns-in-Bad g c =
    subst (λ v. Reports g.K.Sink.taken g.K.Sink.accepted g.K.Sink.faults c.args.sink.now c.write_fault.new.sink v c.status-in-Bad.result) (sym c.in-Bad.is)
    (Bad _, refl, closes-by-status _ _ _ _ _ _ _ c.status-in-Bad.result c.write_fault.result (λ e. cc) c.write_fault.ensures c.status-in-Bad.ensures)

pub returns-in-TooLong : goal.returns-in-TooLong
returns-in-TooLong g c =
    subst (λ v. Reports g.K.Sink.taken g.K.Sink.accepted g.K.Sink.faults c.args.sink.now c.write_fault-in-TooLong.new.sink v c.status-in-TooLong.result) (sym c.in-TooLong.is)
    (Unread (line_fault.TooLong _), refl, closes-by-status _ _ _ _ _ _ _ c.status-in-TooLong.result c.write_fault-in-TooLong.result (λ e. cc) c.write_fault-in-TooLong.ensures c.status-in-TooLong.ensures)

pub returns-in-BadByte : goal.returns-in-BadByte
returns-in-BadByte g c =
    subst (λ v. Reports g.K.Sink.taken g.K.Sink.accepted g.K.Sink.faults c.args.sink.now c.write_fault-in-BadByte.new.sink v c.status-in-BadByte.result) (sym c.in-BadByte.is)
    (Unread (line_fault.BadByte _), refl, closes-by-status _ _ _ _ _ _ _ c.status-in-BadByte.result c.write_fault-in-BadByte.result (λ e. cc) c.write_fault-in-BadByte.ensures c.status-in-BadByte.ensures)
