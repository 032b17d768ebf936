-- Lines that keep a number are older ones, and those that are kept where nothing or one line comes in are all.
use Rattle.std.proofs.Common.{◌≡◌, ◌≢◌, ◌+◌, ℕ, suc, Bool, true, false, cond, ◌||◌, Option, Some, None, List, [], ◌∷◌, ◌++◌, length, refl, sym, ap, ◌∙◌, arith, subst, append_assoc}
use Rattle.std.specs.Prelude.{not}
use Rattle.std.specs.Str.{bytes_eq}
use Rattle.std.proofs.lemmas.Slice.Eq.{bytes_eq-Decides}
use Rattle.kept_numbers.specs.declared.words.OlderLine.{OlderLine}
use Rattle.kept_numbers.specs.Kept.{begins, behind_first, is_gone, kept, mark_of, rest_of, standing, stays}
use Rattle.kept_numbers.specs.Laws.{AreMarked, HaveNumbers, HaveOthers, IsMarked, marked, numbers_of, words_of}
use Rattle.kept_numbers.specs.Numbered.{numbered}
use Rattle.kept_numbers.proofs.Rising.{AreTops, all_given}

same-words : (words : List ℕ) → bytes_eq words words ≡ true
same-words words = (bytes_eq-Decides words words).1 refl

words-same : (words others : List ℕ) → bytes_eq words others ≡ true → words ≡ others
words-same words others same = (bytes_eq-Decides words others).0 same

-- ---- what stands where a line is told

-- a part at the end of the older lines
abbrev IsEnd : List OlderLine → List OlderLine → Type 0
IsEnd older end = (front : List OlderLine) × (older ≡ front ++ end)

behind-one : (first : OlderLine) (behind end : List OlderLine) → IsEnd behind end → IsEnd (first ∷ behind) end
behind-one first behind end (front, is) = (first ∷ front, ap (λ l. first ∷ l) is)

standing-end : (older : List OlderLine) (line : List ℕ) (lines : List (List ℕ)) → IsEnd older (standing older line lines)
standing-end [] line lines = ([], refl)
standing-end (first ∷ behind) line lines = by (stays first behind line lines) (standing-end behind line lines)
  where
    by : (b : Bool) → IsEnd behind (standing behind line lines) → IsEnd (first ∷ behind) (cond b (first ∷ behind) (standing behind line lines))
    by true end = ([], refl)
    by false end = behind-one first behind (standing behind line lines) end

-- ---- lines that keep a number are older ones

widen-mark : (front older : List OlderLine) (words : List ℕ) (mark : Option ℕ) (Rest : List OlderLine → Type 0) → ((end : List OlderLine) → Rest end → Rest (front ++ end))
    → IsMarked Rest older words mark → IsMarked Rest (front ++ older) words mark
widen-mark front older words None Rest wider marked = wider older marked
widen-mark front older words (Some number) Rest wider (before, line, behind, is, same, number_is, rest) =
    (front ++ before, line, behind, ap (λ l. front ++ l) is ∙ sym (append_assoc front before (line ∷ behind)), same, number_is, rest)

widen : (front : List OlderLine) (lines : List (List ℕ)) (marks : List (Option ℕ)) (older : List OlderLine) → AreMarked older lines marks → AreMarked (front ++ older) lines marks
widen front [] [] older are = tt
widen front [] (mark ∷ marks) older are = are
widen front (words ∷ lines) [] older are = are
widen front (words ∷ lines) (mark ∷ marks) older are =
    widen-mark front older words mark (λ rest. AreMarked rest lines marks) (λ end. widen front lines marks end) are

-- by what stands there
marked-at : (at : List OlderLine) (words : List ℕ) (lines : List (List ℕ)) → AreMarked (rest_of at words) lines (kept (rest_of at words) lines)
    → AreMarked at (words ∷ lines) (mark_of at words ∷ kept (rest_of at words) lines)
marked-at [] words lines are = are
marked-at (first ∷ behind) words lines are = by (bytes_eq first.words words) refl are
  where
    by : (b : Bool) → bytes_eq first.words words ≡ b → AreMarked (cond b behind (first ∷ behind)) lines (kept (cond b behind (first ∷ behind)) lines)
        → AreMarked (first ∷ behind) (words ∷ lines) (cond b (Some first.number) None ∷ kept (cond b behind (first ∷ behind)) lines)
    by true same rest = ([], first, behind, refl, words-same first.words words same, refl, rest)
    by false same rest = rest

marked-in : (older at : List OlderLine) (words : List ℕ) (lines : List (List ℕ)) → IsEnd older at → AreMarked (rest_of at words) lines (kept (rest_of at words) lines)
    → AreMarked older (words ∷ lines) (mark_of at words ∷ kept (rest_of at words) lines)
marked-in older at words lines (front, is) are =
    subst (λ (l : List OlderLine). AreMarked l (words ∷ lines) (mark_of at words ∷ kept (rest_of at words) lines)) (sym is)
    (widen front (words ∷ lines) (mark_of at words ∷ kept (rest_of at words) lines) at (marked-at at words lines are))

pub kept-are-older : (older : List OlderLine) (lines : List (List ℕ)) → AreMarked older lines (kept older lines)
kept-are-older older [] = tt
kept-are-older older (words ∷ lines) =
    marked-in older (standing older words lines) words lines (standing-end older words lines) (kept-are-older (rest_of (standing older words lines) words) lines)

-- ---- their numbers are numbers that a line can have

tops-at : (at : List OlderLine) (words : List ℕ) (marks : List (Option ℕ)) → HaveNumbers at → AreTops marks → AreTops (mark_of at words ∷ marks)
tops-at [] words marks have tops = tops
tops-at (first ∷ behind) words marks have tops = by (bytes_eq first.words words)
  where
    by : (b : Bool) → AreTops (cond b (Some first.number) None ∷ marks)
    by true = (have.0, tops)
    by false = tops

have-rest : (at : List OlderLine) (words : List ℕ) → HaveNumbers at → HaveNumbers (rest_of at words)
have-rest [] words have = tt
have-rest (first ∷ behind) words have = by (bytes_eq first.words words)
  where
    by : (b : Bool) → HaveNumbers (cond b behind (first ∷ behind))
    by true = have.1
    by false = have

have-standing : (older : List OlderLine) (line : List ℕ) (lines : List (List ℕ)) → HaveNumbers older → HaveNumbers (standing older line lines)
have-standing [] line lines have = tt
have-standing (first ∷ behind) line lines have = by (stays first behind line lines) (have-standing behind line lines have.1)
  where
    by : (b : Bool) → HaveNumbers (standing behind line lines) → HaveNumbers (cond b (first ∷ behind) (standing behind line lines))
    by true rest = have
    by false rest = rest

pub kept-tops : (older : List OlderLine) (lines : List (List ℕ)) → HaveNumbers older → AreTops (kept older lines)
kept-tops older [] have = tt
kept-tops older (words ∷ lines) have =
    let here : HaveNumbers (standing older words lines) = have-standing older words lines have in
    tops-at (standing older words lines) words (kept (rest_of (standing older words lines) words) lines) here
    (kept-tops (rest_of (standing older words lines) words) lines (have-rest (standing older words lines) words here))

pub kept-length : (older : List OlderLine) (lines : List (List ℕ)) → length (kept older lines) ≡ length lines
kept-length older [] = refl
kept-length older (words ∷ lines) = ap suc (kept-length (rest_of (standing older words lines) words) lines)

-- ---- a list that didn't change

-- the first older line is the line
stands-same : (first : OlderLine) (behind : List OlderLine) (line : List ℕ) (lines : List (List ℕ)) → bytes_eq first.words line ≡ true → standing (first ∷ behind) line lines ≡ first ∷ behind
stands-same first behind line lines same =
    ap (λ b. cond (b || not (is_gone first.words behind line lines)) (first ∷ behind) (standing behind line lines)) same

abbrev told : List OlderLine → List ℕ → List (List ℕ) → List (Option ℕ)
told at line lines = mark_of at line ∷ kept (rest_of at line) lines

kept-same : (first : OlderLine) (behind : List OlderLine) (line : List ℕ) (lines : List (List ℕ)) → bytes_eq first.words line ≡ true
    → kept (first ∷ behind) (line ∷ lines) ≡ Some first.number ∷ kept behind lines
kept-same first behind line lines same =
    ap (λ at. told at line lines) (stands-same first behind line lines same)
    ∙ ap (λ b. cond b (Some first.number) None ∷ kept (cond b behind (first ∷ behind)) lines) same

-- and where it isn't, but stands
kept-other : (first : OlderLine) (behind : List OlderLine) (line : List ℕ) (lines : List (List ℕ)) → bytes_eq first.words line ≡ false → is_gone first.words behind line lines ≡ false
    → kept (first ∷ behind) (line ∷ lines) ≡ None ∷ kept (first ∷ behind) lines
kept-other first behind line lines other gone =
    ap (λ at. told at line lines)
    (ap (λ b. cond (b || not (is_gone first.words behind line lines)) (first ∷ behind) (standing behind line lines)) other
    ∙ ap (λ b. cond (not b) (first ∷ behind) (standing behind line lines)) gone)
    ∙ ap (λ b. cond b (Some first.number) None ∷ kept (cond b behind (first ∷ behind)) lines) other

pub kept-again : (older : List OlderLine) → kept older (words_of older) ≡ all_given (numbers_of older)
kept-again [] = refl
kept-again (first ∷ behind) =
    kept-same first behind first.words (words_of behind) (same-words first.words) ∙ ap (λ l. Some first.number ∷ l) (kept-again behind)

-- ---- a line more

marked-given : (numbers : List ℕ) → marked (all_given numbers) ≡ numbers
marked-given [] = refl
marked-given (number ∷ numbers) = ap (λ l. number ∷ l) (marked-given numbers)

marked-again : (older : List OlderLine) → marked (kept older (words_of older)) ≡ numbers_of older
marked-again older = ap marked (kept-again older) ∙ marked-given (numbers_of older)

-- the next line is the older one, so that it isn't gone
not-gone : (words : List ℕ) (behind : List OlderLine) (line : List ℕ) (lines : List (List ℕ)) → is_gone words behind line (words ∷ lines) ≡ false
not-gone words [] line lines = refl
not-gone words (first ∷ behind) line lines =
    ap (λ b. cond b false (cond (bytes_eq first.words line) true (is_gone words behind line lines))) (same-words words)

-- in front of all
more-first : (older : List OlderLine) (line : List ℕ) → marked (kept older (line ∷ words_of older)) ≡ numbers_of older
more-first [] line = refl
more-first (first ∷ behind) line = by (bytes_eq first.words line) refl (more-first behind first.words)
  where
    by : (b : Bool) → bytes_eq first.words line ≡ b → marked (kept behind (first.words ∷ words_of behind)) ≡ numbers_of behind → marked (kept (first ∷ behind) (line ∷ words_of (first ∷ behind))) ≡ numbers_of (first ∷ behind)
    by true same rest =
        ap marked (kept-same first behind line (words_of (first ∷ behind)) same) ∙ ap (λ l. first.number ∷ l) rest
    by false other rest =
        ap marked (kept-other first behind line (words_of (first ∷ behind)) other (not-gone first.words behind line (words_of behind)))
        ∙ marked-again (first ∷ behind)

first-is : (words others : List ℕ) (lines rest : List (List ℕ)) → words ∷ lines ≡ others ∷ rest → (words ≡ others) × (lines ≡ rest)
first-is words others lines rest is = (cc, cc)

pub line-more : (older : List OlderLine) (front behind : List (List ℕ)) (line : List ℕ) → words_of older ≡ front ++ behind → marked (kept older (front ++ line ∷ behind)) ≡ numbers_of older
line-more older [] behind line is = ap (λ l. marked (kept older (line ∷ l))) (sym is) ∙ more-first older line
line-more [] (words ∷ front) behind line is = absurd (cc)
line-more (first ∷ older) (words ∷ front) behind line is =
    let heads = first-is first.words words (words_of older) (front ++ behind) is in
    ap marked (kept-same first older words (front ++ line ∷ behind) (ap (λ w. bytes_eq first.words w) (sym heads.0) ∙ same-words first.words))
    ∙ ap (λ l. first.number ∷ l) (line-more older front behind line heads.1)

-- ---- a line less

not-same : (words others : List ℕ) → words ≢ others → bytes_eq words others ≡ false
not-same words others other = by (bytes_eq words others) refl
  where
    by : (b : Bool) → bytes_eq words others ≡ b → b ≡ false
    by true same = absurd (other (words-same words others same))
    by false same = refl

begins-none : (words : List ℕ) (behind : List OlderLine) → HaveOthers words behind → begins (words_of behind) words ≡ false
begins-none words [] others = refl
begins-none words (line ∷ lines) others = not-same line.words words (λ e. others.0 (sym e))

-- the first older line is gone
less-first : (line : OlderLine) (behind : List OlderLine) → HaveOthers line.words behind → marked (kept (line ∷ behind) (words_of behind)) ≡ numbers_of behind
less-first line [] others = refl
less-first line (next ∷ behind) others =
    ap (λ at. marked (told at next.words (words_of behind)))
    (ap (λ b. cond (b || not (is_gone line.words (next ∷ behind) next.words (words_of behind))) (line ∷ next ∷ behind) (standing (next ∷ behind) next.words (words_of behind)))
    (not-same line.words next.words others.0)
    ∙ ap (λ b. cond (not (cond b false (cond (bytes_eq next.words next.words) true (is_gone line.words behind next.words (behind_first (words_of behind)))))) (line ∷ next ∷ behind) (standing (next ∷ behind) next.words (words_of behind)))
    (begins-none line.words behind others.1)
    ∙ ap (λ b. cond (not (cond b true (is_gone line.words behind next.words (behind_first (words_of behind))))) (line ∷ next ∷ behind) (standing (next ∷ behind) next.words (words_of behind)))
    (same-words next.words))
    ∙ marked-again (next ∷ behind)

pub line-less : (front behind : List OlderLine) (line : OlderLine) → HaveOthers line.words behind
    → marked (kept (front ++ line ∷ behind) (words_of front ++ words_of behind)) ≡ numbers_of front ++ numbers_of behind
line-less [] behind line others = less-first line behind others
line-less (first ∷ front) behind line others =
    ap marked (kept-same first (front ++ line ∷ behind) first.words (words_of front ++ words_of behind) (same-words first.words))
    ∙ ap (λ l. first.number ∷ l) (line-less front behind line others)

-- ---- no older list

pub new-wait : (lines : List (List ℕ)) (low wait : ℕ) → numbered low wait (kept [] lines) ≡ numbered low (wait + length lines) []
new-wait [] low wait = ap (λ n. numbered low n []) (no-more wait)
  where
    no-more : (n : ℕ) → n ≡ n + 0
    no-more n = omega arith
new-wait (line ∷ lines) low wait = new-wait lines low (wait + 1) ∙ ap (λ n. numbered low n []) (one-more wait (length lines))
  where
    one-more : (n m : ℕ) → n + 1 + m ≡ n + suc m
    one-more n m = omega arith
