use Rattle.std.proofs.Common.{◌≡◌, Some, IsTrue, sym, ◌∙◌, ap, subst}
use Rattle.rule_model.specs.Entry.{RankedPiece, entry_for, same_match}
use Rattle.trace_check.proofs.slots.holds_match.Goals as goal

pub returns-in-Some : goal.returns-in-Some
returns-in-Some c =
    let entry : c.held.inside.entry ≡ entry_for c.in-Some.held = c.held.invariant ∙ ap entry_for c.held.view_is in
    let is : c.same_match.result ≡ same_match c.args.entry.now (entry_for c.in-Some.held) = c.same_match.ensures ∙ ap (same_match c.args.entry.now) entry in (
      λ match. (c.in-Some.held, c.in-Some.is, sym is ∙ match),
      λ w.
          let one : w.0 ≡ c.in-Some.held = (let k : Some w.0 ≡ Some c.in-Some.held = sym w.1 ∙ c.in-Some.is in cc) in
          is ∙ subst (λ (x : RankedPiece). IsTrue (same_match c.args.entry.now (entry_for x))) one w.2,
    )
