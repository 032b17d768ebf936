use Rattle.std.proofs.Common.{◌≡◌, drop}
use Rattle.json.specs.Value.{items_view}
use Rattle.nft_rulesets.specs.Defined.{all_counters}
use Rattle.nft_rulesets.proofs.defined.all_counters.Given as goal

abbrev pub invariant-loop-item : goal.invariant-loop-item
invariant-loop-item l = record { same : all_counters (items_view l.items) ≡ all_counters (items_view (drop l.item-index l.items)) }
