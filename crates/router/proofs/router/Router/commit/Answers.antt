-- A commit that one table refuses.
use Rattle.std.proofs.Common.{◌≡◌, ◌+◌, subst}
use Rattle.report_lines.specs.Outside.{WritesLine}
use Rattle.report_lines.specs.Told.{verdict_told}
use Rattle.router.specs.Text.{refused_line}
use Rattle.router.specs.Routing.{Routing, slots_of, with_refusal}
use Rattle.router.specs.Taken.{IsUnplannedBy}
use Rattle.router.proofs.Acts.{refuse_comes, refused_by}
use Rattle.router.proofs.router.Router.commit.Goals as goal

pub returns-in-Err-Refused-clause-acts : goal.returns-in-Err-Refused-clause-acts
returns-in-Err-Refused-clause-acts g c = λ which.
    let slots = slots_of (g.D.SplitDevice.slot_count c.args.list.now) (g.D.SplitDevice.slot_count c.args.routes.now) in
    let b = c.in-Err-Refused in
    let e = c.in-Err-Refused.ensures in
    let why : IsUnplannedBy c.args.self.now b.field-0 = e.unplanned in
    let judged = refused_by c.args.self.now b.side b.rejection (rw b.field-0-is at why) in
    let line : WritesLine g.K.Sink.taken g.K.Sink.accepted g.K.Sink.faults c.args.sink.now c.refuse.new.sink (refused_line c.args.self.now.version b.side (c.args.self.now.commits + 1) (verdict_told b.rejection)) c.refuse.result =
    subst (λ (r : Routing). WritesLine g.K.Sink.taken g.K.Sink.accepted g.K.Sink.faults c.args.sink.now c.refuse.new.sink (refused_line r.version b.side (r.commits + 1) (verdict_told b.rejection)) c.refuse.result) e.unchanged c.refuse.ensures.line in
    let refused : c.refuse.new.self ≡ with_refusal c.args.self.now = subst (λ (r : Routing). c.refuse.new.self ≡ with_refusal r) e.unchanged c.refuse.ensures.refused in
    rw (e.list.events_are, e.routes.events_are)
    (refuse_comes c.refuse.result slots c.args.self.now c.refuse.new.self b.side b.rejection (g.D.SplitDevice.events c.args.list.now) (g.D.SplitDevice.events c.args.routes.now) _ _
    c.refuse.ensures.kind judged refused (line.whole which) (line.part which))
