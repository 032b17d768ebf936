use Rattle.std.proofs.Common.{◌∙◌, ◌++◌, ◌∷◌, [], List, map, sym, ap, ap₂, arith}
use Rattle.std.proofs.lemmas.List.{take_all}
use Rattle.slot_order.proofs.Lists.{AllByRecursion-member}
use Rattle.rule_model.specs.declared.words.Entry.{Entry}
use Rattle.rule_model.specs.Entry.{IsEncodable, RankedPiece, entry_for}
use Rattle.rule_entries.proofs.Answering.{entry_next}
use Rattle.rule_entries.proofs.entries_for.Goals as goal

pub entry_with-entry-requires : goal.entry_with-entry-requires
entry_with-entry-requires c =
    AllByRecursion-member (λ (ranked : RankedPiece). IsEncodable ranked.piece) c.args.pieces.now c.ranked-item.result c.requires (c.loop-ranked.ranked-index, c.loop-ranked-test.true, sym c.ranked-item.is)

pub loop-ranked-preserved : goal.loop-ranked-preserved
loop-ranked-preserved c =
    c.in_ok-push.ensures.items ∙ ap₂ (λ (before : List Entry) (entry : Entry). before ++ entry ∷ []) c.loop-ranked.invariant c.entry_with-entry.ensures
    ∙ entry_next c.args.pieces.now c.loop-ranked.ranked-index c.ranked-item.result (omega arith) c.ranked-item.is

pub returns : goal.returns
returns c = c.loop-ranked.invariant ∙ ap (map entry_for) (take_all c.loop-ranked.ranked-index c.args.pieces.now (omega arith))
