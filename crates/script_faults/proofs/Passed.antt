-- The words of a line behind some of them, and the reader that the first one names.
use Rattle.std.proofs.Common.{◌≡◌, ℕ, zero, suc, ◌≤◌, Some, None, List, [], ◌∷◌, drop, slice_get, refl, ap, sym, arith}
use Rattle.std.specs.Result.{result_err}
use Rattle.rule_model.specs.declared.IpVersion.{IpVersion}
use Rattle.line_words.specs.Notations.{notation_for}
use Rattle.route_reader.specs.Grammar.{route_line}
use Rattle.script_faults.specs.Troubles.{fault_from, router_fault}

-- where no word is left behind some, none is left behind more
pub none-further : (words : List (List ℕ)) (passed count : ℕ) → drop passed words ≡ [] → passed ≤ count → drop count words ≡ []
none-further [] passed zero none within = refl
none-further [] passed (suc count) none within = refl
none-further (word ∷ words) zero count none within = let bad : word ∷ words ≡ [] = none in absurd (cc)
none-further (word ∷ words) (suc passed) zero none within = absurd (omega arith)
none-further (word ∷ words) (suc passed) (suc count) none within = none-further words passed count none (omega arith)

-- and there is none at that place
pub none-at : (words : List (List ℕ)) (place : ℕ) → drop place words ≡ [] → slice_get words place ≡ None
none-at [] place none = refl
none-at (word ∷ words) zero none = let bad : word ∷ words ≡ [] = none in absurd (cc)
none-at (word ∷ words) (suc place) none = none-at words place none

-- the first of those that are left stands at that place
pub first-behind : (words : List (List ℕ)) (passed : ℕ) (word : List ℕ) (rest : List (List ℕ)) → drop passed words ≡ word ∷ rest → slice_get words passed ≡ Some word
first-behind [] zero word rest is = let bad : [] ≡ word ∷ rest = is in absurd (cc)
first-behind [] (suc passed) word rest is = let bad : [] ≡ word ∷ rest = is in absurd (cc)
first-behind (first ∷ words) zero word rest is = let same : first ≡ word = cc in ap Some same
first-behind (first ∷ words) (suc passed) word rest is = first-behind words passed word rest is

-- and behind it stand the others
pub rest-behind : (words : List (List ℕ)) (passed : ℕ) (word : List ℕ) (rest : List (List ℕ)) → drop passed words ≡ word ∷ rest → drop (suc passed) words ≡ rest
rest-behind [] zero word rest is = let bad : [] ≡ word ∷ rest = is in absurd (cc)
rest-behind [] (suc passed) word rest is = let bad : [] ≡ word ∷ rest = is in absurd (cc)
rest-behind (first ∷ words) zero word rest is = let same : words ≡ rest = cc in same
rest-behind (first ∷ words) (suc passed) word rest is = rest-behind words passed word rest is

-- ---- a router's lines

-- the first word says which reader reads one
pub from-first : (version : IpVersion) (words : List (List ℕ)) (first line : List ℕ) → slice_get words 0 ≡ Some first → fault_from version first line ≡ router_fault version words line
from-first version [] first line is = let bad : None ≡ Some first = is in absurd (cc)
from-first version (word ∷ words) first line is = let both : Some word ≡ Some first = is in let same : word ≡ first = cc in ap (λ (w : List ℕ). fault_from version w line) (sym same)

-- and where there is none, that of routes does
pub from-none : (version : IpVersion) (words : List (List ℕ)) (line : List ℕ) → slice_get words 0 ≡ None → result_err (route_line (notation_for version) line) ≡ router_fault version words line
from-none version [] line is = refl
from-none version (word ∷ words) line is = let bad : Some word ≡ None = is in absurd (cc)
