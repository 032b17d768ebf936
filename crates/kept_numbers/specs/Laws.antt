-- What is so of the numbers of all lists.
use Rattle.std.specs.Prelude.{◌≡◌, ◌≢◌, ◌⊎◌, ℕ, ◌+◌, ◌*◌, ◌<◌, ◌≤◌, true, false, Option, Some, None, List, [], ◌∷◌, ◌++◌, map, length}
use Rattle.kept_numbers.specs.declared.words.OlderLine.{OlderLine}
use Rattle.kept_numbers.specs.Kept.{kept}
use Rattle.kept_numbers.specs.Numbered.{numbers_for, tens}

-- numbers rise from above this one to the greatest that a line can have
abbrev pub Rises : ℕ → List ℕ → Type 0
Rises low [] = Unit {0}
Rises low (number ∷ numbers) = (low < number) × (number ≤ 4294967295) × Rises number numbers

-- each line that is to keep a number has it
abbrev pub IsKept : Option ℕ → ℕ → Type 0
IsKept None number = Unit {0}
IsKept (Some given) number = number ≡ given

abbrev pub AreKept : List (Option ℕ) → List ℕ → Type 0
AreKept [] [] = Unit {0}
AreKept [] (number ∷ numbers) = ⊥
AreKept (mark ∷ marks) [] = ⊥
AreKept (mark ∷ marks) (number ∷ numbers) = IsKept mark number × AreKept marks numbers

-- older lines have numbers that a line can have
abbrev pub HaveNumbers : List OlderLine → Type 0
HaveNumbers [] = Unit {0}
HaveNumbers (line ∷ lines) = (line.number ≤ 4294967295) × HaveNumbers lines

-- The numbers of a list rise, and those that are to be kept are, or all lines are numbered anew.
abbrev pub NumbersRise : Type 0
NumbersRise = (older : List OlderLine) (lines : List (List ℕ)) → HaveNumbers older → length lines ≤ 4096
    → Rises 0 (numbers_for older lines).1 × (length (numbers_for older lines).1 ≡ length lines)
    × (AreKept (kept older lines) (numbers_for older lines).1 ⊎ (numbers_for older lines ≡ (true, tens 10 (length lines))))

-- There is room for the new ones of lines of which some keep a number, above this number and behind so many that wait: before a number that
-- is kept as many numbers are left as wait for one, and behind the last one there are as many tens.
abbrev pub HasRoom : ℕ → ℕ → List (Option ℕ) → Type 0
HasRoom low wait [] = low + 10 * wait ≤ 4294967295
HasRoom low wait (None ∷ marks) = HasRoom low (wait + 1) marks
HasRoom low wait (Some number ∷ marks) = (low + wait < number) × HasRoom number 0 marks

-- Where there is room for all new lines, lines that are to keep a number do, and it isn't said that all are new; where there isn't, it is.
abbrev pub KeptWhereRoom : Type 0
KeptWhereRoom = (older : List OlderLine) (lines : List (List ℕ))
    → (HasRoom 0 0 (kept older lines) → AreKept (kept older lines) (numbers_for older lines).1 × ((numbers_for older lines).0 ≡ false))
    × ((numbers_for older lines).0 ≡ false → HasRoom 0 0 (kept older lines))

-- these lines have marks of older ones, of the same words and in the same order
abbrev pub IsMarked : (List OlderLine → Type 0) → List OlderLine → List ℕ → Option ℕ → Type 0
IsMarked Rest older words None = Rest older
IsMarked Rest older words (Some number) =
    (front : List OlderLine) × (line : OlderLine) × (behind : List OlderLine) × (older ≡ front ++ line ∷ behind) × (line.words ≡ words) × (line.number ≡ number) × Rest behind

abbrev pub AreMarked : List OlderLine → List (List ℕ) → List (Option ℕ) → Type 0
AreMarked older [] [] = Unit {0}
AreMarked older [] (mark ∷ marks) = ⊥
AreMarked older (words ∷ lines) [] = ⊥
AreMarked older (words ∷ lines) (mark ∷ marks) = IsMarked (λ rest. AreMarked rest lines marks) older words mark

-- A line that keeps a number is an older one.
abbrev pub KeptAreOlder : Type 0
KeptAreOlder = (older : List OlderLine) (lines : List (List ℕ)) → AreMarked older lines (kept older lines)

abbrev pub numbers_of : List OlderLine → List ℕ
numbers_of older = map (λ line. line.number) older

abbrev pub words_of : List OlderLine → List (List ℕ)
words_of older = map (λ line. line.words) older

-- A list that didn't change has the same numbers again.
abbrev pub SameAgain : Type 0
SameAgain = (older : List OlderLine) → Rises 0 (numbers_of older) → numbers_for older (words_of older) ≡ (false, numbers_of older)

-- the numbers that lines keep
abbrev pub marked : List (Option ℕ) → List ℕ
marked [] = []
marked (None ∷ marks) = marked marks
marked (Some number ∷ marks) = number ∷ marked marks

-- One line more, wherever it comes, leaves all older ones theirs.
abbrev pub ALineMoreKeepsAll : Type 0
ALineMoreKeepsAll = (older : List OlderLine) (front behind : List (List ℕ)) (line : List ℕ) → words_of older ≡ front ++ behind
    → marked (kept older (front ++ line ∷ behind)) ≡ numbers_of older

-- none of these lines has these words
abbrev pub HaveOthers : List ℕ → List OlderLine → Type 0
HaveOthers words [] = Unit {0}
HaveOthers words (line ∷ lines) = (words ≢ line.words) × HaveOthers words lines

-- One line less, whose words don't come behind it, leaves all others theirs.
abbrev pub ALineLessKeepsOthers : Type 0
ALineLessKeepsOthers = (front behind : List OlderLine) (line : OlderLine) → HaveOthers line.words behind
    → marked (kept (front ++ line ∷ behind) (words_of front ++ words_of behind)) ≡ numbers_of front ++ numbers_of behind

-- Without an older list lines have tens.
abbrev pub NewAreByTens : Type 0
NewAreByTens = (lines : List (List ℕ)) → length lines ≤ 4096 → numbers_for [] lines ≡ (false, tens 10 (length lines))
