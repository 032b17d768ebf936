use Rattle.std.proofs.Common.{◌≡◌, [], drop}
use Rattle.json.specs.Value.{items_view}
use Rattle.nft_rulesets.specs.Verdicts.{are_apart}
use Rattle.nft_rulesets.proofs.together.are_apart.Given as goal

abbrev pub invariant-loop-pair : goal.invariant-loop-pair
invariant-loop-pair l = record {
  same : are_apart l.asked (items_view l.all) l.fields l.tests [] (items_view l.pairs)
      ≡ are_apart l.asked (items_view l.all) l.fields l.tests l.passed.items (items_view (drop l.pair-index l.pairs));
}
