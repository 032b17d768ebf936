-- What is so of the numbers of all lists.
use Rattle.std.proofs.Common.{◌≡◌, ◌⊎◌, inl, inr, ◌≤◌, ◌+◌, ◌*◌, ℕ, true, false, Option, Some, None, List, [], ◌++◌, length, cond, refl, sym, ap, ◌∙◌, arith}
use Rattle.std.proofs.lemmas.Bool.{le-leb}
use Rattle.kept_numbers.specs.declared.words.OlderLine.{OlderLine}
use Rattle.kept_numbers.specs.Kept.{kept}
use Rattle.kept_numbers.specs.Laws.{AreKept, HasRoom, KeptWhereRoom, NewAreByTens, NumbersRise, Rises, SameAgain, numbers_of, words_of}
use Rattle.kept_numbers.specs.Numbered.{numbered, numbers_for, or_anew, tens}
use Rattle.kept_numbers.proofs.Places.{kept-again, kept-length, kept-tops, new-wait}
use Rattle.kept_numbers.proofs.Rising.{AreTops, given-again, length-tens, numbered-kept, numbered-length, numbered-rises, numbered-room, room-numbered, tens-rise}

pub same-again : SameAgain
same-again older rises =
    ap (λ marks. or_anew (length (words_of older)) (numbered 0 0 marks)) (kept-again older)
    ∙ ap (λ o. or_anew (length (words_of older)) o) (given-again 0 (numbers_of older) (omega arith) rises)

pub new-by-tens : NewAreByTens
new-by-tens lines few =
    ap (λ o. or_anew (length lines) o) (new-wait lines 0 0 ∙ ap (λ n. numbered 0 n []) (none-more (length lines)))
    ∙ ap (λ b. or_anew (length lines) (cond b (Some (tens 10 (length lines))) None)) (le-leb (0 + 10 * length lines) 4294967295 (omega (arith, few)))
  where
    none-more : (n : ℕ) → 0 + n ≡ n
    none-more n = omega arith

-- by whether there was room
rise-by : (marks : List (Option ℕ)) (count : ℕ) (found : Option (List ℕ)) → numbered 0 0 marks ≡ found → AreTops marks → length marks ≡ count → count ≤ 4096
    → Rises 0 (or_anew count found).1 × (length (or_anew count found).1 ≡ count) × (AreKept marks (or_anew count found).1 ⊎ (or_anew count found ≡ (true, tens 10 count)))
rise-by marks count (Some numbers) is tops many few =
    (numbered-rises 0 0 marks numbers tops is, numbered-length 0 0 marks numbers is ∙ none-more (length marks) ∙ many, inl (numbered-kept 0 0 marks numbers is))
  where
    none-more : (n : ℕ) → 0 + n ≡ n
    none-more n = omega arith
rise-by marks count None is tops many few = (tens-rise 0 count (omega (arith, few)), length-tens 10 count, inr refl)

pub numbers-rise : NumbersRise
numbers-rise older lines have few =
    rise-by (kept older lines) (length lines) (numbered 0 0 (kept older lines)) refl (kept-tops older lines have) (kept-length older lines) few

-- ---- by whether there is room

room-by : (marks : List (Option ℕ)) (count : ℕ) (found : Option (List ℕ)) → numbered 0 0 marks ≡ found
    → (HasRoom 0 0 marks → AreKept marks (or_anew count found).1 × ((or_anew count found).0 ≡ false)) × ((or_anew count found).0 ≡ false → HasRoom 0 0 marks)
room-by marks count (Some numbers) is = (λ room. (numbered-kept 0 0 marks numbers is, refl), λ same. numbered-room 0 0 marks numbers is)
room-by marks count None is = (λ room. absurd (no-numbers (room-numbered 0 0 marks room)), λ same. absurd (let bad : true ≡ false = same in cc))
  where
    no-numbers : ((numbers : List ℕ) × (numbered 0 0 marks ≡ Some numbers)) → ⊥
    no-numbers (numbers, found) = let bad : ◌≡◌ {A = Option (List ℕ)} None (Some numbers) = sym is ∙ found in cc

pub kept-where-room : KeptWhereRoom
kept-where-room older lines = room-by (kept older lines) (length lines) (numbered 0 0 (kept older lines)) refl

-- ---- by what the code found

pub numbers-found : (older : List OlderLine) (lines : List (List ℕ)) (marks : List (Option ℕ)) (numbers : List ℕ) → marks ≡ kept older lines → numbered 0 0 marks ≡ Some numbers → numbers_for older lines ≡ (false, numbers)
numbers-found older lines marks numbers marks_are found =
    ap (λ m. or_anew (length lines) (numbered 0 0 m)) (sym marks_are) ∙ ap (λ o. or_anew (length lines) o) found

pub numbers-anew : (older : List OlderLine) (lines : List (List ℕ)) (marks : List (Option ℕ)) (none numbers : List ℕ) → marks ≡ kept older lines → numbered 0 0 marks ≡ None → none ≡ [] → numbers ≡ none ++ tens 10 (length lines)
    → numbers_for older lines ≡ (true, numbers)
numbers-anew older lines marks none numbers marks_are found empty put =
    ap (λ m. or_anew (length lines) (numbered 0 0 m)) (sym marks_are) ∙ ap (λ o. or_anew (length lines) o) found
    ∙ ap (λ n. (true, n)) (sym (put ∙ ap (λ l. l ++ tens 10 (length lines)) empty))

pub marks-few : (older : List OlderLine) (lines : List (List ℕ)) (marks : List (Option ℕ)) → marks ≡ kept older lines → length lines ≤ 4096 → length marks ≤ 4096
marks-few older lines marks are few =
    let many : length marks ≡ length lines = ap (λ (l : List (Option ℕ)). length l) are ∙ kept-length older lines in omega (arith, many, few)
