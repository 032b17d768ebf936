use Rattle.std.proofs.Common.{◌≡◌, drop}
use Rattle.json.specs.Value.{items_view}
use Rattle.nft_rulesets.specs.Concats.{elements_from, elements_product}
use Rattle.nft_rulesets.proofs.concats.elements_product.Given as goal

abbrev pub invariant-loop-item : goal.invariant-loop-item
invariant-loop-item l = record {
  same : elements_product l.version l.fields l.tests (items_view l.items)
      ≡ elements_from l.version l.fields l.tests l.held.items (items_view (drop l.item-index l.items));
}
