use Rattle.std.proofs.Common.{◌≡◌, drop}
use Rattle.json.specs.Value.{items_view}
use Rattle.nft_rulesets.specs.Rules.{all_pass}
use Rattle.nft_rulesets.proofs.rules.all_pass.Given as goal

abbrev pub invariant-loop-statement : goal.invariant-loop-statement
invariant-loop-statement l = record { same : all_pass (items_view l.statements) ≡ all_pass (items_view (drop l.statement-index l.statements)) }
