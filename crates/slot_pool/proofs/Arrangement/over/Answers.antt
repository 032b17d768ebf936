use Rattle.std.proofs.Common.{Some, None, ◌∙◌, ap}
use Rattle.std.specs.Prelude.{slice_set}
use Rattle.std.proofs.lemmas.List.{set-set}
use Rattle.slot_pool.proofs.Arrangement.over.Goals as goal

pub returns : goal.returns
returns c = c.put.ensures ∙ (ap (λ slots. slice_set slots c.args.slot (Some c.args.id)) c.erase.ensures ∙ set-set c.args.self.now c.args.slot None (Some c.args.id))
