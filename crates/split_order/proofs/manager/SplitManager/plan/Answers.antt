use Rattle.std.proofs.Common.{◌≡◌, ◌+◌, ◌*◌, ◌≤◌, None, false, length, refl, subst, arith}
use Rattle.batch_order.proofs.planning.Prepared.{unwritten}
use Rattle.split_device.specs.Flight.{written}
use Rattle.split_writes.specs.declared.SplitDone.{SplitDone}
use Rattle.split_order.specs.Left.{left_of}
use Rattle.split_order.specs.Managed.{SplitManaged, no_counts}
use Rattle.split_order.specs.Prepared.{HoldsSplit}
use Rattle.split_order.proofs.Planned.{counted, counted_few, fits, plan_few, plan_holds, plan_kept}
use Rattle.split_order.proofs.manager.SplitManager.plan.Goals as goal

pub parts-requires-clause-few : goal.parts-requires-clause-few
parts-requires-clause-few c =
    let i = c.self.inside in
    let m : SplitManaged = record { whole = i.whole; events = i.events.items; made = i.progress.made; begun = i.progress.begun; counts = i.progress.counts } in
    let idle : m.whole.held ≡ None = rw (← c.self.view_is) at c.requires.idle in
    let m' : SplitManaged = record { whole = c.plan_commit.new.self; events = i.events.items; made = 0; begun = false; counts = no_counts } in
    plan_few i.since i.progress.left m m' c.args.batch.now c.in-Ok.done c.plan_commit.new.self c.self.invariant idle c.in-Ok.ensures.ready (refl, refl, refl, refl)

pub invariant_of-self : goal.invariant_of-self
invariant_of-self c =
    let i = c.self.inside in
    let m : SplitManaged = record { whole = i.whole; events = i.events.items; made = i.progress.made; begun = i.progress.begun; counts = i.progress.counts } in
    let idle : m.whole.held ≡ None = rw (← c.self.view_is) at c.requires.idle in
    let counts : SplitDone = record { writes = c.parts.result; words = c.in-Ok.done.words; most = c.most_parts.result; span = c.in-Ok.done.span } in
    let m' : SplitManaged = record { whole = c.plan_commit.new.self; events = i.events.items; made = 0; begun = false; counts = counts } in
    plan_kept i.since i.progress.left m m' c.args.batch.now c.in-Ok.done c.plan_commit.new.self c.self.invariant idle c.in-Ok.ensures.ready (refl, refl, refl, refl) c.parts.result c.parts.ensures

pub returns-in-Ok-clause-ready : goal.returns-in-Ok-clause-ready
returns-in-Ok-clause-ready c =
    let i = c.self.inside in
    let m : SplitManaged = record { whole = i.whole; events = i.events.items; made = i.progress.made; begun = i.progress.begun; counts = i.progress.counts } in
    let idle : m.whole.held ≡ None = rw (← c.self.view_is) at c.requires.idle in
    let counts : SplitDone = record { writes = c.parts.result; words = c.in-Ok.done.words; most = c.most_parts.result; span = c.in-Ok.done.span } in
    let m' : SplitManaged = record { whole = c.plan_commit.new.self; events = i.events.items; made = 0; begun = false; counts = counts } in
    let view : m ≡ c.args.self.now = c.self.view_is in
    subst (λ (old : SplitManaged). HoldsSplit old c.args.batch.now counts m') view (plan_holds i.since i.progress.left m m' c.args.batch.now c.in-Ok.done c.plan_commit.new.self c.self.invariant idle c.in-Ok.ensures.ready (refl, refl, refl, refl) counts c.parts.ensures refl (c.most_parts.ensures.plan (unwritten m.whole c.plan_commit.new.self c.args.batch.now c.in-Ok.done c.in-Ok.ensures.ready)) refl refl)

pub returns-in-Ok-clause-fits : goal.returns-in-Ok-clause-fits
returns-in-Ok-clause-fits c slots within =
    let i = c.self.inside in
    let m : SplitManaged = record { whole = i.whole; events = i.events.items; made = i.progress.made; begun = i.progress.begun; counts = i.progress.counts } in
    let idle : m.whole.held ≡ None = rw (← c.self.view_is) at c.requires.idle in
    let counts : SplitDone = record { writes = c.parts.result; words = c.in-Ok.done.words; most = c.most_parts.result; span = c.in-Ok.done.span } in
    let m' : SplitManaged = record { whole = c.plan_commit.new.self; events = i.events.items; made = 0; begun = false; counts = counts } in
    let wide : m.whole.slots ≤ slots = rw (← c.self.view_is) at within in
    let room : length (left_of slots m') ≤ 2 * length (written (left_of slots m')) + 1 = fits i.since i.progress.left m m' c.args.batch.now c.in-Ok.done c.plan_commit.new.self c.self.invariant idle c.in-Ok.ensures.ready (refl, refl, refl, refl) slots wide in
    let parts : c.parts.result ≡ length (written (left_of slots m')) = counted i.since i.progress.left m m' c.args.batch.now c.in-Ok.done c.plan_commit.new.self c.self.invariant idle c.in-Ok.ensures.ready (refl, refl, refl, refl) c.parts.result c.parts.ensures slots wide in
    let all : length (left_of slots m') ≤ 2 * c.parts.result + 1 = omega (arith, room, parts) in
    all

pub returns-in-Ok-clause-few : goal.returns-in-Ok-clause-few
returns-in-Ok-clause-few c =
    let i = c.self.inside in
    let m : SplitManaged = record { whole = i.whole; events = i.events.items; made = i.progress.made; begun = i.progress.begun; counts = i.progress.counts } in
    let idle : m.whole.held ≡ None = rw (← c.self.view_is) at c.requires.idle in
    let counts : SplitDone = record { writes = c.parts.result; words = c.in-Ok.done.words; most = c.most_parts.result; span = c.in-Ok.done.span } in
    let m' : SplitManaged = record { whole = c.plan_commit.new.self; events = i.events.items; made = 0; begun = false; counts = counts } in
    counted_few i.since i.progress.left m m' c.args.batch.now c.in-Ok.done c.plan_commit.new.self c.self.invariant idle c.in-Ok.ensures.ready (refl, refl, refl, refl) c.parts.result c.parts.ensures
