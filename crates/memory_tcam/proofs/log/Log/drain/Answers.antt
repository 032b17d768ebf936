use Rattle.std.proofs.Common.{◌≡◌, ◌+◌, ◌-◌, ◌∙◌, sym, ap, length, sum, ◌++◌, ◌∷◌, [], arith}
use Rattle.tcam_device.specs.declared.Action.TheVariants.{Drained}
use Rattle.tcam_device.specs.Flight.{writes_in}
use Rattle.memory_tcam.specs.Tcam.{Logged, events_of}
use Rattle.memory_tcam.proofs.Logged.{writes_in-events_of, events_of-drain}
use Rattle.memory_tcam.proofs.log.Log.drain.Goals as goal

pub returns-clause-logged : goal.returns-clause-logged
returns-clause-logged c =
    let log = c.self.invariant in
    let before = log.before in
    let inside = log.inside in
    let size = c.len-written.ensures in
    let whole : sum c.self.inside.gaps.items + (c.len-written.result - c.self.inside.drained) ≡ length c.self.inside.journal.items = omega arith in
    ap (events_of c.self.inside.journal.items) c.push_reserved.ensures.items
    ∙ events_of-drain c.self.inside.journal.items c.self.inside.gaps.items _ whole
    ∙ ap (λ (l : Logged). l.events ++ Drained ∷ []) c.self.view_is

pub returns-clause-journal : goal.returns-clause-journal
returns-clause-journal c =
    writes_in-events_of c.self.inside.journal.items c.push_reserved.new.self.items ∙ sym (writes_in-events_of c.self.inside.journal.items c.self.inside.gaps.items)
    ∙ ap (λ (l : Logged). writes_in l.events) c.self.view_is
