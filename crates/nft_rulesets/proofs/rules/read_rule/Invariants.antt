use Rattle.std.proofs.Common.{◌≡◌, [], drop}
use Rattle.json.specs.Value.{items_view, value_view}
use Rattle.nft_rulesets.specs.Rules.{read_from, rule_read}
use Rattle.nft_rulesets.proofs.rules.read_rule.Given as goal

abbrev pub invariant-loop-statement : goal.invariant-loop-statement
invariant-loop-statement l = record {
  same : rule_read l.asked (items_view l.all) l.chain (value_view l.body) (items_view l.statements)
      ≡ read_from l.asked (items_view l.all) l.chain (value_view l.body) l.reading (items_view (drop l.statement-index l.statements));
  empty : l.into.items ≡ [];
}
