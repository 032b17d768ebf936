use Rattle.std.proofs.Common.{◌≡◌, drop}
use Rattle.json.specs.Value.{items_view}
use Rattle.nft_rulesets.specs.Concats.{parts_product}
use Rattle.nft_rulesets.proofs.concats.parts_product.Given as goal

abbrev pub invariant-loop-place : goal.invariant-loop-place
invariant-loop-place l = record {
  same : parts_product l.version l.fields l.tests (items_view l.parts) ≡ parts_product l.version (drop l.place l.fields) l.held.items (items_view (drop l.place l.parts));
}
