use Rattle.std.proofs.Common.{◌≡◌, ◌∙◌, None, refl, sym, ap, arith}
use Rattle.tcam_device.specs.Flight.{writes_in}
use Rattle.batch_order.specs.Managed.{Managed}
use Rattle.batch_order.proofs.served.Ahead.{by_journal}
use Rattle.tcam_c.specs.Driven.{due_of, kind_of_due}
use Rattle.tcam_c.proofs.Ways.{due_settles, has_due}
use Rattle.tcam_c.proofs.steps.settle.Goals as goal

pub returns-in_default : goal.returns-in_default
returns-in_default c =
    let m : Managed = c.args.manager.now in
    let some : ¬ (due_of m.held ≡ None) = λ is. c.in_default.not-Nothing (c.kind_due.ensures ∙ ap kind_of_due is) in
    record {
      settled = sym (due_settles m.held m some);
      back = λ begun way. way;
      keeps = record { src = λ bit range is. is; dst = λ bit range is. is };
      events = refl;
      driven =
          record {
            same_slots = c.requires.slots;
            on = c.requires.on;
            room = c.requires.room;
            still = c.requires.still;
            due = has_due m.held some;
          };
      serves = by_journal m.slots (writes_in c.args.device.now.events) m (omega arith) c.serving.ensures.serves c.requires.on;
    }
