use Rattle.std.proofs.Common.{ℕ, ◌+◌, ◌∙◌, Option, ap, ap₂, sym, arith, length, take, sum_by}
use Rattle.std.proofs.lemmas.List.Sums.{sum_by_push}
use Rattle.rule_model.specs.declared.Rule.{Rule}
use Rattle.rule_store.specs.Batch.{additions}
use Rattle.rule_store.specs.Verdict.{added_pieces, added_pieces_over}
use Rattle.rule_store.proofs.Sums.{additions-add, additions-other, added_rule-none}
use Rattle.rule_store.proofs.stored.Store.entries_added.Goals.{in-Add, in_default}
use Rattle.rule_store.proofs.stored.Store.entries_added.Goals as goal

pub loop-i-preserved : goal.loop-i-preserved
loop-i-preserved c =
    let size = λ (new : Rule). length (added_pieces c.args.mode c.args.self.now.rules new) in
    let batch = c.args.batch.now in
    let place = c.loop-i.i in
    elim c.match-at.branch [
      | in-Add w ↦
          let most = w.entries_over-total.ensures.most in
          record {
            count =
                w.total-is
                ∙ ap₂ (λ (a b : ℕ). a + b) c.loop-i.invariant.count
                (w.entries_over-total.ensures.count ∙ ap (λ (old : Option Rule). length (added_pieces_over c.args.mode old w.in-Add.rule)) w.rule.ensures.found)
                ∙ sym (ap (sum_by size) (additions-add batch place w.in-Add.rule w.in-Add.ensures) ∙ sum_by_push size (additions (take place batch)) w.in-Add.rule);
            most = omega arith;
          }
      | in_default w ↦ record {
        count =
            w.total-is
            ∙ c.loop-i.invariant.count
            ∙ sym (ap (sum_by size) (additions-other batch place c.at.result c.at.ensures (added_rule-none c.at.result w.in_default.not-Add)));
        most = omega arith;
      }
    ]
