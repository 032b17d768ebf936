-- What a check of a text tells, by what its source gave: an answer that is right whatever bytes come behind, and no read
-- but where the bytes before it leave the answer open.
use Rattle.std.specs.Prelude.{◌≡◌, ◌⊎◌, ℕ, Option, Some, None, IfSome, List, [], ◌∷◌, ◌++◌}
use Rattle.std.specs.List.{concat}
use Rattle.script_lines.specs.Given.{HasEnd, MayGive}
use Rattle.script_lines.specs.declared.LineFault.TheVariants as fault
use Rattle.trace_check.specs.Hitless.{commits_of, AreHitless}
use Rattle.trace_check.specs.Answers.{TraceAnswer, Yes, No, Bad, Unread, IsTraceAnswer, IsOrderlyText}
use Rattle.trace_lookups.specs.LookUps.{ServesLookUps}
use Rattle.trace_verify.specs.declared.Verified.{Verified}
use Rattle.trace_verify.specs.declared.Verified.TheVariants as verified

-- what an answer of the code tells of the text, if it does
abbrev pub told_of : Verified → Option TraceAnswer
told_of (verified.Yes commits writes) = Some (Yes commits writes)
told_of (verified.No line) = Some (No line)
told_of (verified.Bad line) = Some (Bad line)
told_of (verified.TooLong line) = Some (Unread (fault.TooLong line))
told_of (verified.BadByte line) = Some (Unread (fault.BadByte line))
told_of verified.Read = None
told_of verified.Memory = None

-- the text is an orderly trace, with so many commits and writes, each of its commits is hitless for every key, and each look-up of two
-- events over it, with no drain between these, has the answer of the set before the commit under way at its search or of the set after it
abbrev pub IsHitlessText : List ℕ → ℕ → ℕ → Type 0
IsHitlessText text commits writes =
    (orderly : IsOrderlyText text commits writes) × AreHitless (commits_of orderly.lines) × ServesLookUps orderly.lines

-- a yes says so of the whole input
abbrev pub IsYesOf : List ℕ → List ℕ → Verified → Type 0
IsYesOf text after (verified.Yes commits writes) = (after ≡ []) × IsHitlessText text commits writes
IsYesOf text after answer = Unit {0}

-- An answer is right of a source that had this text to give and has those bytes left.
pub record IsRightOf (text after : List ℕ) (answer : Verified) : Type 0 where
  pub told : IfSome (told_of answer) (IsTraceAnswer text)
  pub yes : IsYesOf text after answer

-- What is told of a text with these first bytes rests on those behind them: no answer is right of each.
abbrev pub IsOpenText : List ℕ → Type 0
IsOpenText bytes = (answer : TraceAnswer) → ((more : List ℕ) → IsTraceAnswer (bytes ++ more) answer) → ⊥

-- these pieces leave the answer open: none of them is the end of the input, and their bytes settle nothing
pub record LeavesOpen (pieces : List (List ℕ)) : Type 0 where
  pub goes_on : HasEnd pieces → ⊥
  pub undecided : IsOpenText (concat pieces)

-- the pieces before the last read left the answer open, so that it was needed
abbrev pub IsNeeded : List (List ℕ) → Type 0
IsNeeded pieces = (pieces ≡ []) ⊎ ((front : List (List ℕ)) × (last : List ℕ) × (pieces ≡ front ++ last ∷ []) × LeavesOpen front)

-- What a check comes to whose source gave these pieces.
pub record VerifiesBy (pieces : List (List ℕ)) (answer : Verified) : Type 0 where
  -- the answer is right whatever bytes come behind them, which are none behind an end
  pub right : (text after : List ℕ) → MayGive text pieces after → IsRightOf text after answer
  pub needed : IsNeeded pieces
  -- and so was the read that failed
  pub failed : answer ≡ verified.Read → LeavesOpen pieces
