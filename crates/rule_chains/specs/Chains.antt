-- The longest overlap chain of a list of rules.
use Rattle.std.specs.Prelude.{◌≡◌, ℕ, List, Contains, length}
use Rattle.rule_model.specs.declared.Rule.{Rule}
use Rattle.rule_model.specs.RuleSet.{IsOverlapChain, BoundsChains}

-- No overlap chain of these rules is longer, and one is as long. So it is the least number that bounds them, and the `m` of
-- the bounds on insertions wherever these are the rules that they speak of.
pub record IsLongestChain (rules : List Rule) (longest : ℕ) : Type 0 where
  pub bound : BoundsChains rules longest
  pub chain : List Rule
  pub members : (rule : Rule) → Contains chain rule → Contains rules rule
  pub is_chain : IsOverlapChain chain
  pub as_long : length chain ≡ longest
