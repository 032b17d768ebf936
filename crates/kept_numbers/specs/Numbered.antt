-- The numbers of lines of which some are given.
use Rattle.std.specs.Prelude.{ℕ, zero, suc, ◌+◌, ◌-◌, ◌*◌, ◌/◌, Bool, true, false, nat_le, Option, Some, None, List, [], ◌∷◌, ◌++◌, length, if◌then◌else◌}
use Rattle.kept_numbers.specs.declared.words.OlderLine.{OlderLine}
use Rattle.kept_numbers.specs.declared.numbering.Waiting.{Waiting}
use Rattle.kept_numbers.specs.Kept.{kept}

-- as many numbers, from this part on, of those that part evenly what lies above a number
abbrev pub spread : ℕ → ℕ → ℕ → ℕ → ℕ → List ℕ
spread low gap parts part zero = []
spread low gap parts part (suc count) = (low + gap * part / parts) ∷ spread low gap parts (part + 1) count

-- as many numbers by tens
abbrev pub tens : ℕ → ℕ → List ℕ
tens first zero = []
tens first (suc count) = first ∷ tens (first + 10) count

-- before the numbers of the lines from one on that has a number
abbrev pub spread_before : ℕ → ℕ → ℕ → Option (List ℕ) → Option (List ℕ)
spread_before low number wait None = None
spread_before low number wait (Some numbers) = Some (spread low (number - low) (wait + 1) 1 wait ++ (number ∷ numbers))

-- Lines wait for numbers above this one: they part those below the next one that is given, if there are so many, and behind all of these
-- they have tens.
abbrev pub numbered : ℕ → ℕ → List (Option ℕ) → Option (List ℕ)
numbered low wait [] = if nat_le (low + 10 * wait) 4294967295 then Some (tens (low + 10) wait) else None
numbered low wait (None ∷ marks) = numbered low (wait + 1) marks
numbered low wait (Some number ∷ marks) =
    if nat_le number (low + wait) then None else spread_before low number wait (numbered number 0 marks)

-- or all are numbered anew
abbrev pub or_anew : ℕ → Option (List ℕ) → Bool × List ℕ
or_anew count (Some numbers) = (false, numbers)
or_anew count None = (true, tens 10 count)

-- The numbers of a list's lines, and whether all of them are new.
abbrev pub numbers_for : List OlderLine → List (List ℕ) → Bool × List ℕ
numbers_for older lines = or_anew (length lines) (numbered 0 0 (kept older lines))

-- ---- what the code answers of a line

-- numbers before those that are to come, if these have any
abbrev pub put_before : List ℕ → Option (List ℕ) → Option (List ℕ)
put_before front None = None
put_before front (Some numbers) = Some (front ++ numbers)

-- what comes to be of the lines behind it, where these numbers are put
abbrev pub went : Option Waiting → List ℕ → List (Option ℕ) → Option (List ℕ)
went None numbers marks = None
went (Some at) numbers marks = put_before numbers (numbered at.low at.wait marks)
