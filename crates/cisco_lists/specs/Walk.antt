-- A walk over the words of a line, which keeps the first fault.
use Rattle.std.specs.Prelude.{ℕ, Option, Some, None, List, [], ◌∷◌}
use Rattle.line_words.specs.Words.{words_of}
use Rattle.cisco_lists.specs.declared.why.Why.{Why}

-- the words that have not been taken, the one that was taken last, and why the line isn't said, if it isn't
pub record WordsAt : Type 0 where
  pub words : List (List ℕ)
  pub word : List ℕ
  pub fault : Option Why

-- before the first word of a line
abbrev pub at_text : List ℕ → WordsAt
at_text text = record { words = words_of text; word = []; fault = None }

-- the next word, of no bytes where there is none
abbrev pub first_of : List (List ℕ) → List ℕ
first_of [] = []
first_of (word ∷ words) = word

-- behind it
abbrev pub behind_as : WordsAt → List (List ℕ) → WordsAt
behind_as at [] = at
behind_as at (word ∷ words) = record at { words = words; word = word }

abbrev pub behind_word : WordsAt → WordsAt
behind_word at = behind_as at at.words

-- the first fault is kept, and no word is left behind it
abbrev pub failed_as : Why → WordsAt → Option Why → WordsAt
failed_as why at None = record at { words = []; fault = Some why }
failed_as why at (Some first) = at

abbrev pub failed : Why → WordsAt → WordsAt
failed why at = failed_as why at at.fault

-- what some words are, and the walk behind them
pub record Taken (A : Type 0) : Type 0 where
  pub value : A
  pub behind : WordsAt

abbrev pub taken : {A : Type 0} → A → WordsAt → Taken A
taken value behind = record { value = value; behind = behind }
