use Rattle.std.proofs.Common.{◌≡◌, ◌++◌, drop}
use Rattle.nft_rulesets.specs.Verdicts.{with_target}
use Rattle.nft_rulesets.proofs.verdicts.put_target.Given as goal

abbrev pub invariant-loop-one : goal.invariant-loop-one
invariant-loop-one l = record { put : l.into.items ++ with_target l.chain (drop l.one-index l.tests) l.target ≡ l.fn.into.items ++ with_target l.chain l.tests l.target }
