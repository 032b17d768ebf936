-- A chain written out as a list.
use Rattle.std.specs.Prelude.{ℕ, zero, suc, Bool, ◌==◌, nat_le, Result, Ok, Err, Option, Some, None, List, [], ◌∷◌, ◌++◌, length, if◌then◌else◌}
use Rattle.written_chains.specs.declared.meets.Tests.{Tests}
use Rattle.written_chains.specs.declared.writing.ChainRule.{ChainRule}
use Rattle.written_chains.specs.declared.writing.Line.{Line}
use Rattle.written_chains.specs.declared.writing.Refused.{Refused}
use Rattle.written_chains.specs.declared.writing.Refused.TheVariants.{TooDeep, TooMany}
use Rattle.written_chains.specs.declared.writing.Target.{Target}
use Rattle.written_chains.specs.declared.writing.Target.TheVariants.{Decides, Returns, Jumps}
use Rattle.written_chains.specs.Meets.{meet}

-- a line of tests, if there are any
abbrev pub met_line : Option Tests → Option Bool → List Line
met_line None action = []
met_line (Some tests) action = record { tests = tests; action = action } ∷ []

-- lines narrowed to tests
abbrev pub narrowed : Tests → List Line → List Line
narrowed tests [] = []
narrowed tests (line ∷ lines) = met_line (meet tests line.tests) line.action ++ narrowed tests lines

-- what becomes of packets of these tests by a line of a chain to which a rule jumped: they get its answer, or leave the chain, and go on by the
-- lines behind the jump
abbrev pub under : Option Tests → Option Bool → List Line → List Line
under None action behind = []
under (Some tests) (Some permits) behind = record { tests = tests; action = Some permits } ∷ []
under (Some tests) None behind = narrowed tests behind ++ record { tests = tests; action = None } ∷ []

-- the lines of that chain, where these are behind the jump
abbrev pub called_lines : Tests → List Line → List Line → List Line
called_lines tests [] behind = []
called_lines tests (line ∷ lines) behind = under (meet tests line.tests) line.action behind ++ called_lines tests lines behind

-- the lines of a rule, before those behind it
abbrev pub target_lines : Tests → Target → List Line → List Line → List Line
target_lines tests (Decides permits) called behind = record { tests = tests; action = Some permits } ∷ []
target_lines tests Returns called behind = record { tests = tests; action = None } ∷ []
target_lines tests (Jumps callee) called behind = called_lines tests called behind

abbrev pub joined : ChainRule → List Line → List Line → List Line
joined rule called behind = target_lines rule.tests rule.target called behind ++ behind

-- the second step, if the first gave a value
infixl 10 ◌>>=◌
abbrev pub ◌>>=◌ : {A B : Type 0} → Result A Refused → (A → Result B Refused) → Result B Refused
Ok x >>= f = f x
Err e >>= f = Err e

-- no more lines than this
abbrev pub within : ℕ → List Line → Result (List Line) Refused
within most lines = if nat_le (length lines) most then Ok lines else Err TooMany

-- the lines of the chain to which a rule jumps, if it does
abbrev pub called_by : (ℕ → Result (List Line) Refused) → Target → Result (List Line) Refused
called_by call (Decides permits) = Ok []
called_by call Returns = Ok []
called_by call (Jumps callee) = call callee

-- the lines of a rule and of those behind it, if it is one of the chain
abbrev pub with_rule : ℕ → (ℕ → Result (List Line) Refused) → ℕ → ChainRule → List Line → Result (List Line) Refused
with_rule most call chain rule behind =
    if rule.chain == chain then (called_by call rule.target >>= λ called. within most (joined rule called behind)) else Ok behind

abbrev pub rules_out : ℕ → (ℕ → Result (List Line) Refused) → ℕ → List ChainRule → Result (List Line) Refused
rules_out most call chain [] = Ok []
rules_out most call chain (rule ∷ rules) = rules_out most call chain rules >>= λ behind. with_rule most call chain rule behind

-- The lines of a chain, whose jumps are nested no deeper than this.
abbrev pub written_out : ℕ → List ChainRule → ℕ → ℕ → Result (List Line) Refused
written_out most rules zero chain = Err TooDeep
written_out most rules (suc depth) chain = rules_out most (λ callee. written_out most rules depth callee) chain rules
