-- How long chains are that go down a list of rules by falling priority, told from its last rule up.
use Rattle.std.specs.Prelude.{ℕ, ◌+◌, max, Bool, List, [], ◌∷◌, if◌then◌else◌}
use Rattle.rule_model.specs.declared.Rule.{Rule}
use Rattle.rule_model.specs.Rule.{rules_meet}

-- the greatest length of a chain that begins with a rule which passes a test, and goes on with rules behind that
abbrev pub longest_where : (Rule → Bool) → List Rule → ℕ
longest_where begins [] = 0
longest_where begins (rule ∷ rules) =
    if begins rule then max (1 + longest_where (rules_meet rule) rules) (longest_where begins rules)
    else longest_where begins rules

-- of each rule of a list, the greatest length of a chain that begins with it
abbrev pub lengths_of : List Rule → List ℕ
lengths_of [] = []
lengths_of (rule ∷ rules) = (1 + longest_where (rules_meet rule) rules) ∷ lengths_of rules

-- the longest length so far, where a chain of another length counts
abbrev pub with_length : ℕ → Bool → ℕ → ℕ
with_length longest counts other = if counts then max longest other else longest
