use Rattle.std.proofs.Common.{◌∙◌, map, sym, subst, ap}
use Rattle.std.specs.List.{AllByRecursion}
use Rattle.rule_model.specs.Entry.{IsEncodable, RankedPiece, entry_for}
use Rattle.rule_entries.proofs.Answering.{set_encodable}
use Rattle.rule_entries.proofs.rule_entries.Goals as goal

pub entries_for-requires : goal.entries_for-requires
entries_for-requires c =
    subst (AllByRecursion (λ (ranked : RankedPiece). IsEncodable ranked.piece)) (sym (c.as_slice-all.ensures.value ∙ c.in_ok-pieces.ensures)) (set_encodable c.args.rules.now.rules c.requires.right)

pub returns : goal.returns
returns c = c.in_ok-entries.ensures ∙ ap (map entry_for) (c.as_slice-all.ensures.value ∙ c.in_ok-pieces.ensures)
