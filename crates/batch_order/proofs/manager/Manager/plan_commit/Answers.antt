use Rattle.std.proofs.Common.{◌≡◌, List, length, ℕ, Option, Some, None, Err, refl, sym, ap, subst}
use Rattle.std.specs.Prelude.{option_map}
use Rattle.rule_store.specs.declared.Command.{Command}
use Rattle.rule_store.specs.Batch.{batch_fault}
use Rattle.rule_store.specs.Verdict.{verdict, verdict_by, room_verdict}
use Rattle.readback.specs.declared.Rejection.{Rejection}
use Rattle.readback.specs.declared.Rejection.TheVariants as rejection
use Rattle.readback.specs.Judged.{judgement}
use Rattle.tcam_device.specs.Flight.{writes_in}
use Rattle.batch_order.specs.declared.Refusal.TheVariants as refusal
use Rattle.batch_order.specs.Managed.{Managed, HeldCommit, Judges, Answers}
use Rattle.batch_order.proofs.manager.Manager.plan_commit.Goals as goal

-- no commit is under way where none has a number of writes left
idle_from : (held : Option HeldCommit) (left : Option ℕ) → left ≡ option_map (λ one. length (writes_in one.actions)) held → ((n : ℕ) → left ≡ Some n → ⊥) → held ≡ None
idle_from None left is none = refl
idle_from (Some held) left is none = absurd (none (length (writes_in held.actions)) is)

-- a batch is rejected as it is judged
rejected_answer : (manager : Managed) (held : Option HeldCommit) (batch : List Command) (rejection : Rejection) → held ≡ None
    → judgement (verdict manager.slots manager.mode manager.rules batch) ≡ Err rejection → Judges manager held batch (Err (refusal.Rejected rejection))
rejected_answer manager held batch rejection none is =
    subst (λ h. Judges manager h batch (Err (refusal.Rejected rejection))) (sym none)
    (subst (λ judged. Answers judged (Err (refusal.Rejected rejection))) (sym is) refl)

pub returns-in-Err-clause-judged : goal.returns-in-Err-clause-judged
returns-in-Err-clause-judged c =
    let now = c.args.self.now in
    let idle = idle_from now.held c.left.result c.left.ensures (λ n is. c.in_default.not-Some n is) in
    let fault : batch_fault now.rules c.args.batch.now ≡ Some c.in-Err.fault = subst (λ (m : Managed). batch_fault m.rules c.args.batch.now ≡ Some c.in-Err.fault) c.self.view_is c.in-Err.ensures in
    rejected_answer now now.held c.args.batch.now (rejection.Unsound c.in-Err.fault) idle
    (ap (λ one. judgement (verdict_by one (room_verdict now.slots now.mode now.rules c.args.batch.now))) fault)

pub returns-in-Err-check_room-clause-judged : goal.returns-in-Err-check_room-clause-judged
returns-in-Err-check_room-clause-judged c =
    let now = c.args.self.now in
    let idle = idle_from now.held c.left.result c.left.ensures (λ n is. c.in_default.not-Some n is) in
    rejected_answer now now.held c.args.batch.now c.in-Err-check_room.rejection idle c.in-Err-check_room.ensures.short
