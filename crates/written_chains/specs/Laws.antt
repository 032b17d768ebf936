-- A list answers as a walk over the chains does.
use Rattle.std.specs.Prelude.{◌≡◌, ℕ, Bool, Ok, List, [], ◌∷◌, if◌then◌else◌}
use Rattle.rule_model.specs.declared.Key.{Key}
use Rattle.written_chains.specs.declared.writing.ChainRule.{ChainRule}
use Rattle.written_chains.specs.declared.writing.Line.{Line}
use Rattle.written_chains.specs.Meets.{tests_hold}
use Rattle.written_chains.specs.Walks.{or_policy, verdict}
use Rattle.written_chains.specs.Written.{written_out}

-- the answer of a list: of the first line that holds the packet, and behind all of them of the last one, which is for each packet
abbrev pub list_verdict : Bool → List Line → Key → Bool
list_verdict policy [] key = policy
list_verdict policy (line ∷ lines) key = if tests_hold line.tests key then or_policy policy line.action else list_verdict policy lines key

-- the law
abbrev pub ListsAnswerAsWalks : Type 0
ListsAnswerAsWalks = (most depth chain : ℕ) (rules : List ChainRule) (policy : Bool) (lines : List Line) (key : Key)
    → written_out most rules depth chain ≡ Ok lines → list_verdict policy lines key ≡ verdict rules depth chain policy key
