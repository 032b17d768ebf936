use Rattle.std.proofs.Common.{◌≡◌, ◌∙◌, ◌++◌, List, Ok, Err, OnOk, Option, Result, reverse, ap, ap₂}
use Rattle.rule_model.specs.declared.Rule.{Rule}
use Rattle.rule_model.specs.Entry.{RankedPiece}
use Rattle.commit_writes.specs.declared.batch.pieces.Choice.TheVariants.{Fresh}
use Rattle.commit_writes.specs.Changes.{RuleChange, chosen_pieces, pieces_at, is_among, wants, coded_by, during_of}
use Rattle.commit_writes.proofs.Walked.{kept_reverse}
use Rattle.commit_writes.proofs.batch.pieces.push_change.Goals as goal

-- chosen backwards
reversed : {A B : Type 0} (result : Result A B) (now before olds others old new some : List RankedPiece) → OnOk result (now ≡ before ++ chosen_pieces Fresh others some) → some ≡ reverse olds
    → olds ≡ old → others ≡ new → OnOk result (now ≡ before ++ reverse (chosen_pieces Fresh new old))
reversed (Err fault) now before olds others old new some chosen backwards is_old is_new = tt
reversed (Ok value) now before olds others old new some chosen backwards is_old is_new =
    chosen ∙ ap₂ (λ (others some : List RankedPiece). before ++ chosen_pieces Fresh others some) is_new (backwards ∙ ap reverse is_old)
    ∙ ap (λ back. before ++ back) (kept_reverse (λ ranked. wants Fresh (is_among new ranked)) old)

pub returns-clause-erased : goal.returns-clause-erased
returns-clause-erased c =
    reversed c.push_pieces-3.result _ _ _ _ (cut c.args.change.now.old) (cut c.args.change.now.new) _ c.push_pieces-3.ensures (c.deref-5.ensures.value ∙ c.reverse.ensures.items)
    (c.in_ok-old.ensures ∙ ap (λ (v : RuleChange). cut v.old) c.change.view_is) (c.deref-6.ensures.value ∙ c.in_ok-new.ensures ∙ ap (λ (v : RuleChange). cut v.new) c.change.view_is)
  where
    cut : Option Rule → List RankedPiece
    cut rule = pieces_at (coded_by c.args.bits.now) (during_of c.args.bits.now) rule
