-- Whether a rule decides anything.
use Rattle.std.specs.Prelude.{ℕ, Bool, false, not, ◌&&◌, ◌||◌, List, [], ◌∷◌, codes, if◌then◌else◌}
use Rattle.std.specs.Str.{bytes_eq}
use Rattle.iptables.specs.Words.{ends_quote, has_escape, is_passing, opens_quote}

-- a word behind which a target stands
abbrev pub is_jump : List ℕ → Bool
is_jump word = bytes_eq word (codes "-j") || bytes_eq word (codes "-g")

-- a text in quotes goes on behind a word
abbrev pub still_quoted : Bool → List ℕ → Bool
still_quoted quoted word = if quoted then not (ends_quote word) else opens_quote word

-- none of some words is such a word, but in quotes that end
abbrev pub no_jump : Bool → List (List ℕ) → Bool
no_jump quoted [] = not quoted
no_jump quoted (word ∷ words) = if not quoted && is_jump word then false else no_jump (still_quoted quoted word) words

abbrev pub passes_at : List (List ℕ) → Bool
passes_at [] = false
passes_at (word ∷ words) = is_passing word && no_jump false words

-- A rule decides nothing: it has no target, or one behind which a packet goes on. A quote may be part of the name of a device or of a set,
-- so where `-j` or `-g` stands in quotes before such a target, or behind it, it may be the one that counts. Quotes that are open at its end go on in the
-- next line, where its target may stand.
abbrev pub passes : Bool → List (List ℕ) → Bool
passes quoted [] = not quoted
passes quoted (word ∷ words) =
    if has_escape word then false
    else if is_jump word then not quoted && passes_at words
    else passes (still_quoted quoted word) words
