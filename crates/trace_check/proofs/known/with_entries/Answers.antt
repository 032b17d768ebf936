use Rattle.std.proofs.Common.{sym}
use Rattle.slot_order.proofs.Lists.{AllByRecursion-member}
use Rattle.rule_model.specs.Entry.{RankedPiece, IsEncodable}
use Rattle.trace_check.proofs.known.with_entries.Goals as goal

pub with_entry-requires : goal.with_entry-requires
with_entry-requires c =
    AllByRecursion-member (λ (ranked : RankedPiece). IsEncodable ranked.piece) c.args.pieces.now c.ranked-item.result c.requires (c.loop-ranked.ranked-index, c.loop-ranked-test.true, sym c.ranked-item.is)
