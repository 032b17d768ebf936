use Rattle.std.proofs.Common.{◌≡◌, drop}
use Rattle.json.specs.Value.{items_view}
use Rattle.nft_rulesets.specs.Defined.{place_from, place_of}
use Rattle.nft_rulesets.proofs.defined.place_of.Given as goal

abbrev pub invariant-loop-place : goal.invariant-loop-place
invariant-loop-place l = record {
  same : place_of l.asked l.kind l.name (items_view l.all) ≡ place_from l.asked l.kind l.name l.place (items_view (drop l.place l.all));
}
