-- What the arguments beside a number leave of it.
use Rattle.std.proofs.Common.{◌≡◌, false, List, [], ◌∷◌, ◌++◌}
use Rattle.std.specs.Prelude.{ℕ, fold}
use Rattle.std.specs.List.{list_any}
use Rattle.std.specs.Str.{bytes_eq}
use Rattle.clap.specs.Walk.{Row, Rule, Text, with_default}
use Rattle.option_words.proofs.ArgumentRows.{AllKeep, Good, HasNumber, apart-keeps, has-apart, or_no}

-- ---- other arguments

-- these arguments are others
abbrev pub AreOthers : Text → List Rule → Type 0
AreOthers id rules = list_any (λ a. bytes_eq a.id id) rules ≡ false

pub others-keep : (id : Text) (low high : ℕ) (rules : List Rule) → AreOthers id rules → AllKeep (Good id low high) rules
others-keep id low high [] others = tt
others-keep id low high (a ∷ rest) others =
    let parts = or_no (bytes_eq a.id id) _ others in
    (apart-keeps id low high a parts.0, others-keep id low high rest parts.1)

-- their defaults leave a number
pub has-still : (id : Text) (low high : ℕ) (rules : List Rule) → AreOthers id rules → (rows : List Row) → HasNumber id low high rows → HasNumber id low high (fold with_default rows rules)
has-still id low high [] others rows has = has
has-still id low high (a ∷ rest) others rows has =
    let parts = or_no (bytes_eq a.id id) _ others in
    has-still id low high rest parts.1 (with_default rows a) (has-apart id low high a parts.0 rows has)

-- an argument behind others keeps what they keep
pub all-behind : (P : List Row → Type 0) (front back : List Rule) → AllKeep P front → AllKeep P back → AllKeep P (front ++ back)
all-behind P [] back ahead behind = behind
all-behind P (a ∷ front) back ahead behind = (ahead.0, all-behind P front back ahead.1 behind)

pub keep-defaults : (P : List Row → Type 0) (rules : List Rule) → AllKeep P rules → (rows : List Row) → P rows → P (fold with_default rows rules)
keep-defaults P [] all rows good = good
keep-defaults P (a ∷ rest) all rows good = keep-defaults P rest all.1 (with_default rows a) (all.0.by_default rows good)
