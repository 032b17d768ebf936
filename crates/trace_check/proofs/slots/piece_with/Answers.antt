use Rattle.std.proofs.Common.{◌≡◌, Some, sym, ◌∙◌, ap}
use Rattle.std.proofs.lemmas.Bool.{both_ways}
use Rattle.rule_model.specs.Entry.{entry_for}
use Rattle.trace_check.proofs.slots.piece_with.Goals as goal

pub returns-then-same_entry-clause-found : goal.returns-then-same_entry-clause-found
returns-then-same_entry-clause-found c = (c.in-Some.is ∙ ap Some (sym c.held.view_is), sym c.held.invariant ∙ c.same_entry.ensures.0 c.if-same_entry.true)

pub returns-else-same_entry-clause-none : goal.returns-else-same_entry-clause-none
returns-else-same_entry-clause-none c _ ranked there same =
    let one : c.in-Some.held ≡ ranked = (let k : Some c.in-Some.held ≡ Some ranked = sym c.in-Some.is ∙ there in cc) in
    both_ways c.same_entry.result c.if-same_entry.false (c.same_entry.ensures.1 (c.held.invariant ∙ (ap entry_for (c.held.view_is ∙ one) ∙ same)))
