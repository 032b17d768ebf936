-- What a judgement of a text tells, by what its source gave: an answer that is right whatever bytes come behind.
use Rattle.std.specs.Prelude.{◌≡◌, ℕ, Option, Some, None, IfSome, List, []}
use Rattle.script_lines.specs.Given.{MayGive}
use Rattle.script_lines.specs.declared.LineFault.TheVariants as fault
use Rattle.driver_trace.specs.declared.Compared.{Compared}
use Rattle.driver_trace.specs.Told.{DriverAnswer, Hitless, Leaks, NotJudged, Bad, Unread, IsDriverAnswer, IsHitlessDriverText, IsLeakyText}
use Rattle.driver_verify.specs.declared.DriverVerdict.{DriverVerdict}
use Rattle.driver_verify.specs.declared.DriverVerdict.TheVariants as verdict

-- what an answer of the code tells of the text, if it does
abbrev pub told_of : DriverVerdict → Option DriverAnswer
told_of (verdict.Yes commits writes) = Some (Hitless commits writes)
told_of (verdict.No line version leak) = Some (Leaks line leak)
told_of (verdict.NotJudged line) = Some (NotJudged line)
told_of (verdict.Bad line) = Some (Bad line)
told_of (verdict.TooLong line) = Some (Unread (fault.TooLong line))
told_of (verdict.BadByte line) = Some (Unread (fault.BadByte line))
told_of verdict.Read = None
told_of verdict.Memory = None

-- a yes says of the whole input that it is a trace, each line of which is hitless
abbrev pub IsYesOf : Compared → List ℕ → List ℕ → DriverVerdict → Type 0
IsYesOf by text after (verdict.Yes commits writes) = (after ≡ []) × IsHitlessDriverText by text commits writes
IsYesOf by text after answer = Unit {0}

-- a no says of it that this line is the first behind which a packet gets a wrong answer, and that this packet does
abbrev pub IsNoOf : Compared → List ℕ → DriverVerdict → Type 0
IsNoOf by text (verdict.No line version leak) = IsLeakyText by text line leak
IsNoOf by text answer = Unit {0}

-- An answer is right of a source that had this text to give and has those bytes left.
pub record IsRightOf (by : Compared) (text after : List ℕ) (answer : DriverVerdict) : Type 0 where
  pub told : IfSome (told_of answer) (IsDriverAnswer by text)
  pub yes : IsYesOf by text after answer
  pub no : IsNoOf by text answer

-- What a judgement comes to whose source gave these pieces: the answer is right whatever bytes come behind them, which are
-- none behind an end.
abbrev pub VerifiesBy : Compared → List (List ℕ) → DriverVerdict → Type 0
VerifiesBy by pieces answer = (text after : List ℕ) → MayGive text pieces after → IsRightOf by text after answer
