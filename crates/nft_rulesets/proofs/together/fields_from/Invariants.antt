use Rattle.std.proofs.Common.{◌≡◌, [], drop}
use Rattle.json.specs.Value.{items_view}
use Rattle.nft_rulesets.specs.Matches.{fields_from}
use Rattle.nft_rulesets.proofs.together.fields_from.Given as goal

abbrev pub invariant-loop-part : goal.invariant-loop-part
invariant-loop-part l = record {
  same : fields_from l.version [] (items_view l.parts) ≡ fields_from l.version l.fields.items (items_view (drop l.part-index l.parts));
}
