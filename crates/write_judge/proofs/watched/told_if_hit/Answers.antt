use Rattle.std.proofs.Common.{sym, ◌∙◌, ap}
use Rattle.std.proofs.lemmas.Bool.{cond-false, cond-true}
use Rattle.tcam_device.specs.State.{told}
use Rattle.write_judge.proofs.watched.told_if_hit.Goals as goal

pub returns-then-hits : goal.returns-then-hits
returns-then-hits c = sym (ap told (cond-true _ _ _ (sym c.hits.ensures ∙ c.if-hits.true)))

pub returns-else-hits : goal.returns-else-hits
returns-else-hits c = sym (ap told (cond-false _ _ _ (sym c.hits.ensures ∙ c.if-hits.false)))
