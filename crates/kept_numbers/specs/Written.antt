-- The script of a list, as an import writes it.
use Rattle.std.specs.Prelude.{◌≡◌, ◌≢◌, ℕ, ◌≤◌, Ok, List, [], ◌∷◌, ◌++◌, codes, decimal}
use Rattle.kept_numbers.specs.declared.words.OlderLine.{OlderLine}
use Rattle.kept_numbers.specs.Laws.{numbers_of, words_of}
use Rattle.kept_numbers.specs.Older.{older_lines}

-- the command that adds a line of this number
abbrev pub numbered_line : ℕ → List ℕ → List ℕ
numbered_line number words = codes "acl add " ++ (decimal number ++ (words ++ codes "\n"))

-- the commands that add lines of these numbers
abbrev pub numbered_text : List ℕ → List (List ℕ) → List ℕ
numbered_text [] lines = []
numbered_text (number ∷ numbers) [] = []
numbered_text (number ∷ numbers) (words ∷ lines) = numbered_line number words ++ numbered_text numbers lines

-- no line ends within these bytes
abbrev pub IsWithinLine : List ℕ → Type 0
IsWithinLine [] = Unit {0}
IsWithinLine (byte ∷ bytes) = (byte ≢ 10) × IsWithinLine bytes

-- words begin with the blank behind a number
abbrev pub AreWords : List ℕ → Type 0
AreWords [] = ⊥
AreWords (byte ∷ bytes) = (byte ≡ 32) × IsWithinLine bytes

-- lines that a script can have
abbrev pub AreLines : List OlderLine → Type 0
AreLines [] = Unit {0}
AreLines (line ∷ lines) = (1 ≤ line.number) × (line.number ≤ 4294967295) × AreWords line.words × AreLines lines

-- comments, each of one line
abbrev pub IsComment : List ℕ → Type 0
IsComment [] = ⊥
IsComment (byte ∷ bytes) = (byte ≡ 35) × IsWithinLine bytes

abbrev pub AreComments : List (List ℕ) → Type 0
AreComments [] = Unit {0}
AreComments (comment ∷ comments) = IsComment comment × AreComments comments

abbrev pub comments_text : List (List ℕ) → List ℕ
comments_text [] = []
comments_text (comment ∷ comments) = comment ++ (codes "\n" ++ comments_text comments)

-- The script of a list is read as that list.
abbrev pub IsReadBack : Type 0
IsReadBack = (before behind : List (List ℕ)) (lines : List OlderLine) → AreComments before → AreComments behind → AreLines lines
    → older_lines (comments_text before ++ (numbered_text (numbers_of lines) (words_of lines) ++ (comments_text behind ++ codes "commit\n"))) ≡ Ok lines
