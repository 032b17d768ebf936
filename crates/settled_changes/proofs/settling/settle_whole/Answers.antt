use Rattle.std.proofs.Common.{◌≡◌, sym, ap, subst, ◌∙◌}
use Rattle.std.proofs.lemmas.Result.{IfOk-weaker}
use Rattle.rule_store.specs.Batch.{IsSound, set_after}
use Rattle.settled_changes.specs.Settled.{settled, whole_requests}
use Rattle.settled_changes.proofs.Forgiving.{whole-set}
use Rattle.settled_changes.proofs.Leads.{leads}
use Rattle.settled_changes.proofs.settling.settle_whole.Goals as goal

pub returns-in-Ok-clause-sound : goal.returns-in-Ok-clause-sound
returns-in-Ok-clause-sound c =
    let rules = c.args.rules.now.rules in
    let whole = c.args.whole.now.rules in
    IfOk-weaker c.batch_of.result _ (IsSound rules)
    (λ batch is. subst (IsSound rules) (sym (is ∙ ap (settled rules) (c.as_slice.ensures.value ∙ c.in-Ok.ensures)))
    (leads rules (whole_requests rules whole) c.len.ensures.falling (whole-set rules whole c.len.ensures.falling c.len-2.ensures.falling).0).0)
    c.batch_of.ensures.settled

pub returns-in-Ok-clause-leads : goal.returns-in-Ok-clause-leads
returns-in-Ok-clause-leads c =
    let rules = c.args.rules.now.rules in
    let whole = c.args.whole.now.rules in
    IfOk-weaker c.batch_of.result _ (λ batch. set_after rules batch ≡ whole)
    (λ batch is. ap (set_after rules) (is ∙ ap (settled rules) (c.as_slice.ensures.value ∙ c.in-Ok.ensures)) ∙ (whole-set rules whole c.len.ensures.falling c.len-2.ensures.falling).1)
    c.batch_of.ensures.settled
