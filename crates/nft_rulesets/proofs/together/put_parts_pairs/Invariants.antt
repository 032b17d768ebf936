use Rattle.std.proofs.Common.{◌≡◌, drop}
use Rattle.json.specs.Value.{items_view}
use Rattle.nft_rulesets.specs.Verdicts.{parts_pairs}
use Rattle.nft_rulesets.proofs.Loops.{onto_rules}
use Rattle.nft_rulesets.proofs.together.put_parts_pairs.Given as goal

abbrev pub invariant-loop-pair : goal.invariant-loop-pair
invariant-loop-pair l = record {
  same : onto_rules l.fn.into.items (parts_pairs l.asked (items_view l.all) l.chain l.tests l.fields (items_view l.pairs))
      ≡ onto_rules l.into.items (parts_pairs l.asked (items_view l.all) l.chain l.tests l.fields (items_view (drop l.pair-index l.pairs)));
}
