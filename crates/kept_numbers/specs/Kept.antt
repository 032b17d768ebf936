-- Which lines of a list keep the number of an older one.
use Rattle.std.specs.Prelude.{ℕ, Bool, false, true, not, ◌||◌, Option, Some, None, List, [], ◌∷◌, if◌then◌else◌}
use Rattle.std.specs.Str.{bytes_eq}
use Rattle.kept_numbers.specs.declared.words.OlderLine.{OlderLine}

-- the first of some lines has these words
abbrev pub begins : List (List ℕ) → List ℕ → Bool
begins [] words = false
begins (line ∷ lines) words = bytes_eq line words

abbrev pub behind_first : List (List ℕ) → List (List ℕ)
behind_first [] = []
behind_first (line ∷ lines) = lines

-- An older line of these words is gone, where a new line of other words is to be told: that one comes in the older list behind it, and
-- sooner than the older one in the new list.
abbrev pub is_gone : List ℕ → List OlderLine → List ℕ → List (List ℕ) → Bool
is_gone words [] line lines = false
is_gone words (first ∷ behind) line lines =
    if begins lines words then false
    else if bytes_eq first.words line then true
    else is_gone words behind line (behind_first lines)

-- an older line stands where a new one is to be told: it is the same, or it isn't gone
abbrev pub stays : OlderLine → List OlderLine → List ℕ → List (List ℕ) → Bool
stays first behind line lines = bytes_eq first.words line || not (is_gone first.words behind line lines)

-- the older lines from that one on
abbrev pub standing : List OlderLine → List ℕ → List (List ℕ) → List OlderLine
standing [] line lines = []
standing (first ∷ behind) line lines = if stays first behind line lines then first ∷ behind else standing behind line lines

-- the number of the first of them, if the line is that one, and those behind it
abbrev pub mark_of_first : OlderLine → List ℕ → Option ℕ
mark_of_first first line = if bytes_eq first.words line then Some first.number else None

abbrev pub mark_of : List OlderLine → List ℕ → Option ℕ
mark_of [] line = None
mark_of (first ∷ behind) line = mark_of_first first line

abbrev pub rest_of : List OlderLine → List ℕ → List OlderLine
rest_of [] line = []
rest_of (first ∷ behind) line = if bytes_eq first.words line then behind else first ∷ behind

-- For each line the number that it keeps, if it does.
abbrev pub kept : List OlderLine → List (List ℕ) → List (Option ℕ)
kept older [] = []
kept older (line ∷ lines) = mark_of (standing older line lines) line ∷ kept (rest_of (standing older line lines) line) lines
