use Rattle.std.proofs.Common.{◌≡◌, ℕ, List, Some, refl, sym, subst, ap₂}
use Rattle.rule_store.specs.declared.Mode.{Mode}
use Rattle.rule_store.specs.declared.Command.{Command}
use Rattle.tcam_device.specs.State.{State, replay}
use Rattle.tcam_device.specs.Flight.{writes_in}
use Rattle.tcam_device.specs.View.{device_state}
use Rattle.readback.specs.declared.Parts.{Parts}
use Rattle.batch_order.specs.declared.Placement.{Placement}
use Rattle.batch_order.specs.CarriedOut.{GoesForward}
use Rattle.batch_order.specs.Managed.{Managed, Serves}
use Rattle.batch_order.specs.Restart.{Resumes}
use Rattle.batch_order.specs.Standing.{managed_by}
use Rattle.batch_order.proofs.restarted.RestartFaults.{memory_answers, stage_answers}
use Rattle.batch_order.proofs.manager.Manager.restart.Goals as goal

pub returns-in-Err-show_commit-clause-answers : goal.returns-in-Err-show_commit-clause-answers
returns-in-Err-show_commit-clause-answers g c =
    stage_answers c.args.slots c.args.mode c.args.placement c.args.parts c.args.batch.now (g.D.Writable.view c.args.device.now).slots
    (device_state (g.D.Writable.view c.args.device.now)) c.in-Err-show_commit.fault c.in-Ok.ensures.accepted c.in-Err-show_commit.ensures.stage

pub returns-clause-answers : goal.returns-clause-answers
returns-clause-answers g c =
    memory_answers c.args.slots c.args.mode c.args.placement c.args.parts c.args.batch.now (g.D.Writable.view c.args.device.now).slots
    (device_state (g.D.Writable.view c.args.device.now)) c.resume.new.parts c.in-Ok.ensures.accepted c.in-Err-resume.ensures.same

-- behind each write of a manager that goes on, and before the first, each key has the old or the new answer
serves_both : (slots : ℕ) (mode : Mode) (placement : Placement) (parts : Parts) (batch : List Command) (device_slots : ℕ) (state : State) (new : Managed) → Resumes slots mode placement parts batch device_slots state new
    → Serves state new.rules new.held
serves_both slots mode placement parts batch device_slots state new resumes =
    subst (λ (m : Managed). Serves state m.rules m.held) (sym resumes.new_is) (resumes.goes_on.during 0)

pub returns-in-Ok-resume-clause-serves : goal.returns-in-Ok-resume-clause-serves
returns-in-Ok-resume-clause-serves g c =
    let state : State = device_state (g.D.Writable.view c.args.device.now) in
    let now : State = device_state (g.D.Writable.view c.resume.new.device) in
    let same : now ≡ state = ap₂ (λ n events. replay n (writes_in events)) c.in-Ok-resume.ensures.others.slots c.in-Ok-resume.ensures.others.events in
    let made = c.in-Ok-resume.resumed in
    let m : Managed = managed_by c.args.placement made.translation c.resume.new.parts.rules made.live made.arrangement (Some made.held) in
    subst (λ (s : State). Serves s m.rules m.held) (sym same)
    (serves_both c.args.slots c.args.mode c.args.placement c.args.parts c.args.batch.now (g.D.Writable.view c.args.device.now).slots state m c.in-Ok-resume.ensures.resumes)

-- it goes on, with nothing made
pub returns-in-Ok-resume-clause-forward : goal.returns-in-Ok-resume-clause-forward
returns-in-Ok-resume-clause-forward g c = subst (λ (m : Managed). GoesForward m.held) (sym c.in-Ok-resume.ensures.resumes.new_is) refl
