use Rattle.std.proofs.Common.{◌≡◌, drop}
use Rattle.json.specs.Value.{members_view}
use Rattle.nft_rulesets.specs.Values.{element_keys}
use Rattle.nft_rulesets.proofs.values.element_keys.Given as goal

abbrev pub invariant-loop-member : goal.invariant-loop-member
invariant-loop-member l = record { same : element_keys (members_view l.members) ≡ element_keys (members_view (drop l.member-index l.members)) }
