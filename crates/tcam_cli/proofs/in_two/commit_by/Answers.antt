-- A commit in one part, or in two.
use Rattle.std.proofs.Common.{◌≡◌, true, Option, None, Err, ap, ◌∙◌, subst}
use Rattle.script_lines.specs.Given.{counted}
use Rattle.batch_order.specs.Managed.{HeldCommit}
use Rattle.replay.specs.Running.{AnswersHeld, Running}
use Rattle.tcam_cli.proofs.TwoParts.{comes-both, comes-first, comes-unparted, comes-whole, mid-empty}
use Rattle.tcam_cli.proofs.in_two.commit_by.Goals as goal

pub join-requires-clause-none_pending : goal.join-requires-clause-none_pending
join-requires-clause-none_pending g c =
    let p = rw c.in-Ok-Some.field-0-is at c.in-Ok-Some.ensures.parts in
    (mid-empty (g.D.Writable.view c.args.device.now).slots c.args.run.now c.part.new.self (p.0, p.1) p.3 c.apply-in-Ok-Some.new.self
    (g.D.Writable.view c.args.device.now).events (g.D.Writable.view c.apply-in-Ok-Some.new.device).events (g.K.Sink.taken c.args.sink.now) (g.K.Sink.taken c.apply-in-Ok-Some.new.sink)
    c.in-Ok.ensures.setting c.requires.at (c.in-Ok.ensures.acts true)).0

pub join-requires-clause-strict : goal.join-requires-clause-strict
join-requires-clause-strict g c =
    let p = rw c.in-Ok-Some.field-0-is at c.in-Ok-Some.ensures.parts in
    (mid-empty (g.D.Writable.view c.args.device.now).slots c.args.run.now c.part.new.self (p.0, p.1) p.3 c.apply-in-Ok-Some.new.self
    (g.D.Writable.view c.args.device.now).events (g.D.Writable.view c.apply-in-Ok-Some.new.device).events (g.K.Sink.taken c.args.sink.now) (g.K.Sink.taken c.apply-in-Ok-Some.new.sink)
    c.in-Ok.ensures.setting c.requires.at (c.in-Ok.ensures.acts true)).1

-- there was no memory to part it
pub returns-in-Err-clause-acts : goal.returns-in-Err-clause-acts
returns-in-Err-clause-acts g c = λ which.
    comes-unparted (g.D.Writable.view c.args.device.now).slots c.args.run.now c.part.new.self (g.D.Writable.view c.args.device.now).events (counted which (g.K.Sink.taken c.args.sink.now) (g.K.Sink.accepted c.args.sink.now))
    c.in-Err.ensures.wants c.in-Err.ensures.unchanged

pub returns-in-Ok-None-clause-acts : goal.returns-in-Ok-None-clause-acts
returns-in-Ok-None-clause-acts g c = λ which.
    let p = rw c.in-Ok-None.field-0-is at c.in-Ok-None.ensures.parts in
    comes-whole (g.D.Writable.view c.args.device.now).slots c.args.run.now c.part.new.self c.apply.new.self c.apply.result _ _ _ _ p.0 p.1 (c.apply.ensures.acts which)

-- the first part is stopped, or it is made, and then the rest
pub returns-in-Err-apply-clause-acts : goal.returns-in-Err-apply-clause-acts
returns-in-Err-apply-clause-acts g c = λ which.
    let p = rw c.in-Ok-Some.field-0-is at c.in-Ok-Some.ensures.parts in
    let idle : c.part.new.self.manager.held ≡ None = ap (λ (run : Running). run.manager.held) p.3 ∙ c.requires.idle in
    let h = c.in-Err-apply in
    comes-first (g.D.Writable.view c.args.device.now).slots c.args.run.now c.part.new.self (p.0, p.1) p.3 c.apply-in-Ok-Some.new.self h.fault _ _ _ _
    (h.ensures.limit idle, subst (λ (held : Option HeldCommit). AnswersHeld held (Err h.fault)) idle h.ensures.held) (h.ensures.acts which)

pub returns-in-Ok-clause-acts : goal.returns-in-Ok-clause-acts
returns-in-Ok-clause-acts g c = λ which.
    let p = rw c.in-Ok-Some.field-0-is at c.in-Ok-Some.ensures.parts in
    let idle : c.join.new.self.manager.held ≡ None = ap (λ (run : Running). run.manager.held) c.join.ensures ∙ c.in-Ok.ensures.idle in
    comes-both (g.D.Writable.view c.args.device.now).slots c.args.run.now c.part.new.self (p.0, p.1) p.3 c.apply-in-Ok-Some.new.self
    (g.D.Writable.view c.args.device.now).events (g.D.Writable.view c.apply-in-Ok-Some.new.device).events
    (counted which (g.K.Sink.taken c.args.sink.now) (g.K.Sink.accepted c.args.sink.now)) (counted which (g.K.Sink.taken c.apply-in-Ok-Some.new.sink) (g.K.Sink.accepted c.apply-in-Ok-Some.new.sink))
    c.in-Ok.ensures.setting c.requires.at (c.in-Ok.ensures.acts which) c.in-Ok-Some.rest c.join.new.self c.apply-in-Ok.new.self c.apply-in-Ok.result
    (g.D.Writable.view c.apply-in-Ok.new.device).events (counted which (g.K.Sink.taken c.apply-in-Ok.new.sink) (g.K.Sink.accepted c.apply-in-Ok.new.sink))
    p.2 c.join.ensures (c.apply-in-Ok.ensures.limit idle, subst (λ (held : Option HeldCommit). AnswersHeld held c.apply-in-Ok.result) idle c.apply-in-Ok.ensures.held)
    (rw c.in-Ok.ensures.leaves.slots at (c.apply-in-Ok.ensures.acts which))
