-- What a commit of the settled batch comes to, and what waits where it wants memory.
use Rattle.std.proofs.Common.{◌≡◌, false, List, Err, ◌∙◌, sym, ap, subst}
use Rattle.rule_store.specs.declared.Command.{Command as Change}
use Rattle.rule_store.specs.Batch.{IsSound}
use Rattle.replay.specs.declared.ActFault.TheVariants.{Stopped}
use Rattle.replay.specs.declared.RunFault.TheVariants as fault
use Rattle.settled_changes.specs.declared.requested.Requested.TheVariants.{Nothing}
use Rattle.settled_changes.specs.Requested.{settled_batch}
use Rattle.replay.specs.Running.{Running}
use Rattle.replay.proofs.between.SettledActs.{back-is, back-run, comes-back, comes-forth, in-step-settled, lost-by, stays-settled}
use Rattle.replay.proofs.run.Run.commit_settled.Goals as goal

-- the run in which the batch was put
put-is : {put : Running} (run : Running) {batch : List Change} → put ≡ record run { pending = batch; asked = Nothing } → batch ≡ settled_batch run.manager.rules run.pending run.asked
    → put ≡ record run { pending = settled_batch run.manager.rules run.pending run.asked; asked = Nothing }
put-is run put settled = put ∙ ap (λ (some : List Change). record run { pending = some; asked = Nothing }) settled

-- no manager was lost
not-lost : {inside run : Running} → inside ≡ run → inside.broken ≡ false → run.broken ≡ false
not-lost same whole = ap (λ (r : Running). r.broken) (sym same) ∙ whole

pub put_back-requires : goal.put_back-requires
put_back-requires g c =
    let wants = c.waits_on.ensures.0 c.if-waits_on.true in
    back-run c.args.self.now c.put_settled-pending.new.self c.commit_batch-outcome.new.self c.args.batch _ _ c.put_settled-pending.ensures.was c.put_settled-pending.ensures.waits
    (c.commit_batch-outcome.ensures.kept wants.0 (not-lost c.self.view_is wants.1)) c.put_settled-pending.ensures.pending c.put_settled-pending.ensures.asked

pub returns-then-waits_on-clause-acts : goal.returns-then-waits_on-clause-acts
returns-then-waits_on-clause-acts g c = λ which.
    let run = c.args.self.now in
    let wants = c.waits_on.ensures.0 c.if-waits_on.true in
    let whole = not-lost c.self.view_is wants.1 in
    let back = c.put_back.ensures ∙ back-is run c.put_settled-pending.new.self c.commit_batch-outcome.new.self c.args.batch _ _ c.put_settled-pending.ensures.waits
    (c.commit_batch-outcome.ensures.kept wants.0 whole) c.put_settled-pending.ensures.pending c.put_settled-pending.ensures.asked in
    comes-back (g.D.Writable.view c.args.device.now).slots run c.args.fate c.requires.asked c.requires.taken (subst (IsSound run.manager.rules) c.requires.settled c.requires.sound)
    c.put_settled-pending.new.self (put-is run c.put_settled-pending.ensures.waits c.requires.settled) c.commit_batch-outcome.result c.commit_batch-outcome.new.self c.put_back.new.self _ _ _ _
    wants.0 whole back (c.commit_batch-outcome.ensures.acts which)

pub returns-then-waits_on-clause-unfinished : goal.returns-then-waits_on-clause-unfinished
returns-then-waits_on-clause-unfinished g c = λ which cut at.
    let wants = c.waits_on.ensures.0 c.if-waits_on.true in
    absurd (let bad : Err (Stopped fault.Memory) ≡ Err (Stopped fault.Device) = sym wants.0 ∙ cut in cc)

pub returns-clause-acts : goal.returns-clause-acts
returns-clause-acts g c = λ which.
    let run = c.args.self.now in
    comes-forth (g.D.Writable.view c.args.device.now).slots run c.args.fate c.requires.asked c.requires.taken (subst (IsSound run.manager.rules) c.requires.settled c.requires.sound)
    c.put_settled-pending.new.self (put-is run c.put_settled-pending.ensures.waits c.requires.settled) c.commit_batch-outcome.result c.commit_batch-outcome.new.self _ _ _ _
    c.commit_batch-outcome.ensures.limit (λ wants. ap (λ (r : Running). r.broken) (sym c.self.view_is) ∙ lost-by _ _ _ c.waits_on.ensures.1 c.if-waits_on.false wants) (c.commit_batch-outcome.ensures.acts which)

pub returns-clause-unfinished : goal.returns-clause-unfinished
returns-clause-unfinished g c = λ which cut at.
    let run = c.args.self.now in
    stays-settled (g.D.Writable.view c.args.device.now).slots run c.args.fate c.requires.asked c.requires.taken (subst (IsSound run.manager.rules) c.requires.settled c.requires.sound)
    c.put_settled-pending.new.self (put-is run c.put_settled-pending.ensures.waits c.requires.settled) c.commit_batch-outcome.new.self (g.D.Writable.view c.args.device.now).events _ _ _
    (c.commit_batch-outcome.ensures.unfinished which cut) at

pub returns-clause-in_step : goal.returns-clause-in_step
returns-clause-in_step g c = λ not_sink.
    let run = c.args.self.now in
    in-step-settled (g.D.Writable.view c.args.device.now).slots run c.args.fate c.requires.asked c.requires.taken (subst (IsSound run.manager.rules) c.requires.settled c.requires.sound)
    c.put_settled-pending.new.self (put-is run c.put_settled-pending.ensures.waits c.requires.settled) c.commit_batch-outcome.new.self (g.D.Writable.view c.args.device.now).events (g.D.Writable.view c.commit_batch-outcome.new.device).events
    (g.D.Writable.view c.args.device.now).flight (g.D.Writable.view c.commit_batch-outcome.new.device).flight (c.commit_batch-outcome.ensures.in_step not_sink)
