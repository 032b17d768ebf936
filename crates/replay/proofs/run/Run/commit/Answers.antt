-- What is pending is committed as it is, where it is strict commands alone, and else settled first, or refused.
use Rattle.std.proofs.Common.{◌≡◌, refl, sym, ap, ◌∙◌, subst}
use Rattle.rule_store.specs.Verdict.{Unsound}
use Rattle.settled_changes.specs.declared.requested.Requested.TheVariants.{Nothing}
use Rattle.settled_changes.specs.Requested.{IsAsked}
use Rattle.report_lines.specs.Told.{verdict_told}
use Rattle.replay.specs.Running.{Running, progress_of, setting_of}
use Rattle.replay.proofs.between.Exits.{refused-told}
use Rattle.replay.proofs.between.InStep.{in-step-kept}
use Rattle.replay.proofs.between.Leaving.{leaves-line, line-counted, no-write}
use Rattle.settled_changes.proofs.AskedFor.{none-asked, verdict-fault}
use Rattle.replay.proofs.between.Settled.{may-settle}
use Rattle.replay.proofs.between.SettledActs.{stays-plain, wants-comes}
use Rattle.replay.proofs.flight.Leftover.{words-kept}
use Rattle.replay.proofs.run.Run.commit.Goals as goal

-- nothing is asked for
strict-now : {inside run : Running} → inside ≡ run → (IsAsked inside.asked → ⊥) → run.asked ≡ Nothing
strict-now same none = sym (ap (λ (run : Running). run.asked) same) ∙ none-asked _ none

pub commit_batch-requires-clause-strict : goal.commit_batch-requires-clause-strict
commit_batch-requires-clause-strict g c = strict-now c.self.view_is (λ is. let some = c.is_any.ensures.1 is in let none = c.if-not-is_any.true in absurd (cc))

pub settled-requires : goal.settled-requires
settled-requires g c = record { asked = subst (λ (run : Running). IsAsked run.asked) c.self.view_is (c.is_any.ensures.0 c.if-not-is_any.false) }

pub commit_settled-requires-clause-asked : goal.commit_settled-requires-clause-asked
commit_settled-requires-clause-asked g c = subst (λ (run : Running). IsAsked run.asked) c.self.view_is (c.is_any.ensures.0 c.if-not-is_any.false)

pub returns-then-not-is_any-clause-unfinished : goal.returns-then-not-is_any-clause-unfinished
returns-then-not-is_any-clause-unfinished g c = λ which cut at.
    stays-plain (g.D.Writable.view c.args.device.now).slots c.args.fate c.args.self.now c.commit_batch.new.self _ _ _
    (strict-now c.self.view_is (λ is. let some = c.is_any.ensures.1 is in let none = c.if-not-is_any.true in absurd (cc)))
    (c.commit_batch.ensures.unfinished which cut at)

pub returns-in-Err-Unsound-clause-acts : goal.returns-in-Err-Unsound-clause-acts
returns-in-Err-Unsound-clause-acts g c = λ which.
    let run = c.args.self.now in
    let slots = (g.D.Writable.view c.args.device.now).slots in
    let judged = verdict-fault run.manager.slots run.manager.mode run.manager.rules run.pending run.asked c.in-Err-Unsound.fault (rw c.in-Err-Unsound.field-0-is at c.in-Err-Unsound.ensures.fault) in
    refused-told c.args.fate c.refuse.result slots run c.refuse.new.self (Unsound c.in-Err-Unsound.fault) (verdict_told c.unsound.result) (g.D.Writable.view c.args.device.now).events _ _ judged (λ accepted. cc)
    c.refuse.ensures.refused c.refuse.ensures.kind (c.refuse.ensures.line.whole which) (c.refuse.ensures.line.part which) (rw (c.unsound.ensures, c.in-Err-Unsound.field-0-is) refl)

pub returns-in-Err-Unsound-clause-leaves : goal.returns-in-Err-Unsound-clause-leaves
returns-in-Err-Unsound-clause-leaves g c =
    let line = c.refuse.ensures.line in
    leaves-line _ _ _ _ _ _ _ _ line.told refl refl refl (line-counted c.refuse.result _ _ c.refuse.ensures.kind line.cause) (no-write c.refuse.result c.refuse.ensures.kind)

pub returns-in-Err-Unsound-clause-in_flight : goal.returns-in-Err-Unsound-clause-in_flight
returns-in-Err-Unsound-clause-in_flight g c =
    words-kept c.refuse.new.self c.refuse.result (g.D.Writable.view c.args.device.now).flight (g.D.Writable.view c.args.device.now).flight refl c.requires.none_in_flight (no-write c.refuse.result c.refuse.ensures.kind)

pub returns-in-Err-Unsound-clause-in_step : goal.returns-in-Err-Unsound-clause-in_step
returns-in-Err-Unsound-clause-in_step g c = λ not_sink.
    in-step-kept (g.D.Writable.view c.args.device.now).slots c.args.self.now c.refuse.new.self (g.D.Writable.view c.args.device.now).events (g.D.Writable.view c.args.device.now).flight
    (ap (λ (run : Running). run.manager) c.refuse.ensures.refused)

pub returns-in-Err-Memory-clause-acts : goal.returns-in-Err-Memory-clause-acts
returns-in-Err-Memory-clause-acts g c = λ which.
    let run = c.args.self.now in
    let slots = (g.D.Writable.view c.args.device.now).slots in
    wants-comes c.args.fate slots run run (g.D.Writable.view c.args.device.now).events _ _ _ (may-settle (setting_of run) (progress_of slots run) run.asked (subst (λ (one : Running). IsAsked one.asked) c.self.view_is (c.is_any.ensures.0 c.if-not-is_any.false))) record { run = refl; events = refl; report = refl }
