use Rattle.std.proofs.Common.{◌≡◌, drop}
use Rattle.json.specs.Value.{items_view}
use Rattle.nft_rulesets.specs.Values.{element_spans}
use Rattle.nft_rulesets.proofs.Loops.{onto_spans}
use Rattle.nft_rulesets.proofs.values.element_spans.Given as goal

abbrev pub invariant-loop-item : goal.invariant-loop-item
invariant-loop-item l = record {
  same : element_spans l.field l.version (items_view l.items) ≡ onto_spans l.spans.items (element_spans l.field l.version (items_view (drop l.item-index l.items)));
}
