use Rattle.std.proofs.Common.{◌≡◌, drop}
use Rattle.json.specs.Value.{items_view}
use Rattle.nft_rulesets.specs.Defined.{all_flags}
use Rattle.nft_rulesets.proofs.defined.all_flags.Given as goal

abbrev pub invariant-loop-item : goal.invariant-loop-item
invariant-loop-item l = record { same : all_flags (items_view l.items) ≡ all_flags (items_view (drop l.item-index l.items)) }
