-- How a packet walks chains of rules.
use Rattle.std.specs.Prelude.{ℕ, zero, suc, Bool, ◌==◌, Option, Some, None, List, [], ◌∷◌, if◌then◌else◌}
use Rattle.rule_model.specs.declared.Key.{Key}
use Rattle.written_chains.specs.declared.writing.ChainRule.{ChainRule}
use Rattle.written_chains.specs.declared.writing.Target.{Target}
use Rattle.written_chains.specs.declared.writing.Target.TheVariants.{Decides, Returns, Jumps}
use Rattle.written_chains.specs.Meets.{tests_hold}

-- an answer, and another one where there is none
abbrev pub or_else : Option Bool → Option Bool → Option Bool
or_else (Some permits) other = Some permits
or_else None other = other

-- what becomes of a packet at a rule that holds it, by what the chains answer to which rules jump, and by what the rules behind it do
abbrev pub at_target : (ℕ → Option Bool) → Target → Option Bool → Option Bool
at_target call (Decides permits) behind = Some permits
at_target call Returns behind = None
at_target call (Jumps callee) behind = or_else (call callee) behind

-- at the rules of a chain, one after the other; none: the packet leaves the chain
abbrev pub walk_rules : (ℕ → Option Bool) → ℕ → List ChainRule → Key → Option Bool
walk_rules call chain [] key = None
walk_rules call chain (rule ∷ rules) key =
    if rule.chain == chain
    then (if tests_hold rule.tests key then at_target call rule.target (walk_rules call chain rules key) else walk_rules call chain rules key)
    else walk_rules call chain rules key

-- and at a chain, whose jumps are nested no deeper than this
abbrev pub walk : List ChainRule → ℕ → ℕ → Key → Option Bool
walk rules zero chain key = None
walk rules (suc depth) chain key = walk_rules (λ callee. walk rules depth callee key) chain rules key

-- what a packet gets that leaves the chain where it began
abbrev pub or_policy : Bool → Option Bool → Bool
or_policy policy (Some permits) = permits
or_policy policy None = policy

-- Whether a packet is permitted that begins at a chain.
abbrev pub verdict : List ChainRule → ℕ → ℕ → Bool → Key → Bool
verdict rules depth chain policy key = or_policy policy (walk rules depth chain key)
