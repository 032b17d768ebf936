-- By what answers are compared: by priority and result, or by the result alone, where entries have no tag.
use Rattle.std.specs.Prelude.{◌≡◌, ◌⊎◌, option_map, List}
use Rattle.rule_model.specs.declared.Key.{Key}
use Rattle.rule_model.specs.declared.Rule.{Rule}
use Rattle.rule_model.specs.Key.{IsKey}
use Rattle.rule_model.specs.RuleSet.{Answer, answer}
use Rattle.tcam_device.specs.State.{State, lookup}
use Rattle.driver_trace.specs.declared.Compared.{Compared}
use Rattle.driver_trace.specs.declared.Compared.TheVariants.{Answers, Results}

-- what is compared of an answer
abbrev pub as_compared : Compared → Answer → Answer
as_compared Answers told = told
as_compared Results told = option_map (λ told. (0, told.1)) told

-- the key gets the answer of the set
abbrev pub AnswersAs : Compared → State → List Rule → Key → Type 0
AnswersAs by state rules key = as_compared by (lookup state key) ≡ as_compared by (answer rules key)

-- every key does
abbrev pub ShowsBy : Compared → State → List Rule → Type 0
ShowsBy by state rules = (key : Key) → IsKey key → AnswersAs by state rules key

-- every key gets the answer of the old set or that of the new one
abbrev pub ShowsOldOrNewBy : Compared → State → List Rule → List Rule → Type 0
ShowsOldOrNewBy by state old new = (key : Key) → IsKey key → AnswersAs by state old key ⊎ AnswersAs by state new key
