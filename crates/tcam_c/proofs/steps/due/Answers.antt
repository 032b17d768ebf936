use Rattle.std.proofs.Common.{sym, subst}
use Rattle.std.specs.Prelude.{IfSome}
use Rattle.tcam_device.specs.State.{IsInUse}
use Rattle.tcam_c.proofs.Ways.{write_due}
use Rattle.tcam_c.proofs.steps.due.Goals as goal

pub returns-in-Some : goal.returns-in-Some
returns-in-Some c =
    let next = c.in-Some.ensures in
    record {
      due = sym (write_due c.args.manager.now.held c.in-Some.write (sym next.next));
      in_use = subst (λ one. IfSome one (IsInUse c.args.manager.now.slots)) next.next next.in_use;
      size = next.size;
    }
