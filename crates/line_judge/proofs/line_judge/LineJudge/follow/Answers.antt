use Rattle.std.proofs.Common.{◌≡◌, None, Some, refl, sym, subst}
use Rattle.std.specs.Prelude.{IsSome}
use Rattle.trace_check.specs.Places.{place_by}
use Rattle.driver_trace.specs.Judged.{IsHitlessLine}
use Rattle.line_judge.specs.Followed.{Followed}
use Rattle.line_judge.proofs.LinesTaken.{placed_at}
use Rattle.line_judge.proofs.Followed.{refuses, refuses_place, takes}
use Rattle.line_judge.proofs.line_judge.LineJudge.follow.Goals as goal

pub follow-requires-clause-may : goal.follow-requires-clause-may
follow-requires-clause-may c =
    let t = c.self.inside.track in
    record { right = c.self.invariant; stands = subst (λ kind. IsSome (place_by t.slots t.place kind)) c.kind_of-kind.ensures (subst IsSome c.in-Some.ensures refl) }

pub invariant_of-result : goal.invariant_of-result
invariant_of-result c =
    let t = c.self.inside.track in
    placed_at c.in-Some.next c.in-Some.next c.follow.new.self
    (c.in-Ok.ensures.taken.right c.in-Some.next (subst (λ kind. place_by t.slots t.place kind ≡ Some c.in-Some.next) c.kind_of-kind.ensures (sym c.in-Some.ensures)))

pub returns-in-Ok-clause-taken : goal.returns-in-Ok-clause-taken
returns-in-Ok-clause-taken c =
    let t = c.self.inside.track in
    takes t c.follow.new.self c.args.line.now c.in-Some.next _ c.self.view_is
    (subst (λ kind. place_by t.slots t.place kind ≡ Some c.in-Some.next) c.kind_of-kind.ensures (sym c.in-Some.ensures)) c.in-Ok.ensures.taken

pub returns-in-Err-clause-refused : goal.returns-in-Err-clause-refused
returns-in-Err-clause-refused c =
    let t = c.self.inside.track in
    refuses t c.args.line.now c.in-Some.next c.in-Err.fault _ c.self.view_is
    (subst (λ kind. place_by t.slots t.place kind ≡ Some c.in-Some.next) c.kind_of-kind.ensures (sym c.in-Some.ensures)) c.in-Err.ensures.stopped

pub returns-in-None-clause-refused : goal.returns-in-None-clause-refused
returns-in-None-clause-refused c =
    let t = c.self.inside.track in
    refuses_place t c.args.line.now _ c.self.view_is (subst (λ kind. place_by t.slots t.place kind ≡ None) c.kind_of-kind.ensures (sym c.in-None.ensures))

pub follow-requires-clause-hitless : goal.follow-requires-clause-hitless
follow-requires-clause-hitless c = subst (λ (judge : Followed). IsHitlessLine judge.by judge.now c.args.line.now) (sym c.self.view_is) c.requires
