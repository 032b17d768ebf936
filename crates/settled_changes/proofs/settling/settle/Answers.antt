use Rattle.std.proofs.Common.{sym, ap, subst, ◌∙◌}
use Rattle.rule_store.specs.Batch.{IsSound, set_after}
use Rattle.settled_changes.specs.Requests.{AreTaken}
use Rattle.settled_changes.specs.Settled.{settled}
use Rattle.settled_changes.proofs.Leads.{leads}
use Rattle.settled_changes.proofs.settling.settle.Goals as goal

pub returns-in-Ok-clause-sound : goal.returns-in-Ok-clause-sound
returns-in-Ok-clause-sound c =
    let is_taken : AreTaken c.args.rules.now.rules c.args.requests.now = sym c.in-Ok-None.ensures ∙ c.in-Ok-None.field-0-is in
    subst (IsSound c.args.rules.now.rules) (sym (c.in-Ok.ensures.settled ∙ ap (settled c.args.rules.now.rules) c.as_slice.ensures))
    (leads c.args.rules.now.rules c.args.requests.now c.len-is_a_set.ensures.falling is_taken).0

pub returns-in-Ok-clause-leads : goal.returns-in-Ok-clause-leads
returns-in-Ok-clause-leads c =
    let is_taken : AreTaken c.args.rules.now.rules c.args.requests.now = sym c.in-Ok-None.ensures ∙ c.in-Ok-None.field-0-is in
    ap (set_after c.args.rules.now.rules) (c.in-Ok.ensures.settled ∙ ap (settled c.args.rules.now.rules) c.as_slice.ensures)
    ∙ (leads c.args.rules.now.rules c.args.requests.now c.len-is_a_set.ensures.falling is_taken).1
