use Rattle.std.proofs.Common.{refl, ap, ◌∙◌, length, Ok, Err, arith}
use Rattle.ip_routes.proofs.Steps.{read-end, read-on, read-stop}
use Rattle.ip_routes.proofs.reading.Reading.read.Goals as goal

pub words-init : goal.words-init
words-init c = record { same = refl }

pub words-preserved : goal.words-preserved
words-preserved c = record { same = c.words.invariant.same ∙ read-on _ _ _ _ _ _ _ c.in-Some.ensures c.in-Ok-step.ensures }

pub words-smaller : goal.words-smaller
words-smaller c = let more = ap length c.in-Some.ensures in omega (arith, more)

pub returns-in-Ok : goal.returns-in-Ok
returns-in-Ok c = c.words.invariant.same ∙ read-end _ _ _ _ (Ok tt) c.in-None.ensures c.in-Ok.ensures

pub returns-in-Err : goal.returns-in-Err
returns-in-Err c = c.words.invariant.same ∙ read-end _ _ _ _ (Err c.in-Err.why) c.in-None.ensures c.in-Err.ensures

pub returns-in-Err-step : goal.returns-in-Err-step
returns-in-Err-step c = c.words.invariant.same ∙ read-stop _ _ _ _ _ _ _ c.in-Some.ensures c.in-Err-step.ensures
