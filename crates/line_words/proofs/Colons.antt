-- Where two colons stand together, from the left.
use Rattle.std.proofs.Common.{◌≡◌, ℕ, suc, ◌+◌, ◌<◌, true, false, List, [], ◌∷◌, ◌++◌, length, take, drop, get_or, Option, None, Some, inl, inr, refl, sym, ap, ◌∙◌, arith, append_assoc, append-nil, drop-cons, eqb-true}
use Rattle.std.specs.Prelude.{◌==◌, ◌&&◌, eqb, option_map}
use Rattle.std.specs.List.{starts_with}
use Rattle.std.proofs.lemmas.Bool.{cases_Bool, and_parts, true≢false}
use Rattle.std.proofs.lemmas.Bool.Decides.{Decides-eqb}
use Rattle.std.proofs.lemmas.List.{take_more, drop-drop}
use Rattle.std.proofs.lemmas.Slice.Eq.{starts_is}
use Rattle.line_words.specs.Ipv6.{at_double_colon}

-- what was found, behind these bytes more
abbrev pub behind : List ℕ → Option (List ℕ × List ℕ) → Option (List ℕ × List ℕ)
behind front found = option_map (λ parts. (front ++ parts.0, parts.1)) found

pub behind_nothing : (found : Option (List ℕ × List ℕ)) → found ≡ behind [] found
behind_nothing None = refl
behind_nothing (Some parts) = refl

pub behind_behind : (xs ys : List ℕ) (found : Option (List ℕ × List ℕ)) → behind xs (behind ys found) ≡ behind (xs ++ ys) found
behind_behind xs ys None = refl
behind_behind xs ys (Some parts) = ap (λ front. Some (front, parts.1)) (sym (append_assoc xs ys parts.0))

-- the two colons
abbrev pub two_colons : List ℕ
two_colons = 58 ∷ 58 ∷ []

-- where a text doesn't begin with them, its first byte stands before what is found behind it
no-colons : (first : ℕ) (rest : List ℕ) → ((more : List ℕ) → first ∷ rest ≡ two_colons ++ more → ⊥)
    → at_double_colon (first ∷ rest) ≡ behind (first ∷ []) (at_double_colon rest)
no-colons first [] other = refl
no-colons first (second ∷ rest) other = elim (cases_Bool ((first == 58) && (second == 58))) [
  | inl both ↦
      let parts = and_parts (first == 58) (second == 58) both in
      let a : first ≡ 58 = eqb-true first 58 parts.0 in
      let b : second ≡ 58 = eqb-true second 58 parts.1 in
      absurd (other rest (cc (a, b)))
  | inr none ↦ rw none refl
]

-- no two colons stand together at a place either
pub colons-later : (word : List ℕ) (place : ℕ) → place < length word → starts_with eqb (drop place word) two_colons ≡ false
    → at_double_colon word ≡ behind (take place word) (at_double_colon (drop place word))
    → at_double_colon word ≡ behind (take (place + 1) word) (at_double_colon (drop (place + 1) word))
colons-later word place inside none so_far =
    let first = get_or word place 0 in
    let rest = drop (suc place) word in
    let cons : drop place word ≡ first ∷ rest = drop-cons word place 0 inside in
    let apart : (more : List ℕ) → first ∷ rest ≡ two_colons ++ more → ⊥ = λ more is. true≢false (sym ((starts_is Decides-eqb (drop place word) two_colons _ refl).1 more (cons ∙ is)) ∙ none) in
    let one : at_double_colon (drop place word) ≡ behind (first ∷ []) (at_double_colon rest) = ap at_double_colon cons ∙ no-colons first rest apart in
    let front : take (place + 1) word ≡ take place word ++ first ∷ [] = take_more word place 0 inside in
    let next : suc place ≡ place + 1 = omega arith in
    so_far ∙ (ap (behind (take place word)) one ∙ (behind_behind (take place word) (first ∷ []) (at_double_colon rest)
    ∙ (ap (λ xs. behind xs (at_double_colon rest)) (sym front) ∙ ap (λ k. behind (take (place + 1) word) (at_double_colon (drop k word))) next)))

-- they stand at a place, and not before
pub colons-here : (word : List ℕ) (place : ℕ) → starts_with eqb (drop place word) two_colons ≡ true
    → at_double_colon word ≡ behind (take place word) (at_double_colon (drop place word))
    → at_double_colon word ≡ Some (take place word, drop (place + 2) word)
colons-here word place here so_far =
    let begins : drop place word ≡ two_colons ++ drop 2 (drop place word) = (starts_is Decides-eqb (drop place word) two_colons _ refl).0 here in
    so_far ∙ (ap (λ t. behind (take place word) (at_double_colon t)) begins ∙ (empty_behind (take place word) (drop 2 (drop place word)) ∙ ap (λ back. Some (take place word, back)) (drop-drop 2 place word)))
  where
    empty_behind : (front back : List ℕ) → behind front (Some ([], back)) ≡ Some (front, back)
    empty_behind front back = ap (λ xs. Some (xs, back)) (append-nil front)
