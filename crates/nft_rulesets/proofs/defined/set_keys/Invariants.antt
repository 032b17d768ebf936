use Rattle.std.proofs.Common.{◌≡◌, drop}
use Rattle.json.specs.Value.{members_view}
use Rattle.nft_rulesets.specs.Defined.{set_keys}
use Rattle.nft_rulesets.proofs.defined.set_keys.Given as goal

abbrev pub invariant-loop-member : goal.invariant-loop-member
invariant-loop-member l = record { same : set_keys (members_view l.members) ≡ set_keys (members_view (drop l.member-index l.members)) }
