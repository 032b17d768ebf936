use Rattle.std.proofs.Common.{◌∙◌, ◌++◌, List, ap, sym, arith}
use Rattle.std.proofs.lemmas.List.{take_all}
use Rattle.rule_model.specs.declared.Rule.{Rule}
use Rattle.rule_store.specs.Verdict.{pieces_of}
use Rattle.rule_store.proofs.Sums.{slice_get-read, slice_get-within}
use Rattle.rule_model.specs.Entry.{RankedPiece}
use Rattle.commit_writes.specs.Shape.{ranked_pieces, set_pieces}
use Rattle.commit_writes.specs.Changes.{coded_by, during_of}
use Rattle.commit_writes.proofs.Walked.{images_next}
use Rattle.commit_writes.proofs.batch.pieces.set_pieces.Goals as goal

pub loop-place-preserved : goal.loop-place-preserved
loop-place-preserved c =
    let rules = c.args.rules.now.rules in
    let images : Rule → List RankedPiece = λ rule. ranked_pieces (during_of c.args.bits.now) rule (pieces_of (coded_by c.args.bits.now) rule) in
    c.in_ok-push_rule.ensures ∙ ap (λ some. some ++ images c.at.result.now) c.loop-place.invariant
    ∙ sym (images_next images rules c.loop-place.place c.at.result.now (slice_get-within rules c.loop-place.place c.at.result.now c.at.ensures) (slice_get-read rules c.loop-place.place c.at.result.now c.at.ensures))

pub returns : goal.returns
returns c =
    c.loop-place.invariant ∙ ap (set_pieces (coded_by c.args.bits.now) (during_of c.args.bits.now)) (take_all c.loop-place.place c.args.rules.now.rules (omega arith))
