-- The lines of a script, byte after byte.
use Rattle.std.proofs.Common.{◌≡◌, ◌≢◌, ◌<◌, ◌≤◌, ◌+◌, ℕ, true, false, cond, Option, Some, None, Result, Ok, Err, List, [], ◌∷◌, ◌++◌, length, take, drop, get_or, refl, sym, ap, ◌∙◌, append-nil, append_assoc}
use Rattle.std.specs.Prelude.{codes}
use Rattle.std.specs.Str.{bytes_eq}
use Rattle.std.proofs.lemmas.Bool.{ne_eqb}
use Rattle.line_words.specs.Kinds.{sequence_of}
use Rattle.std.proofs.lemmas.List.{at_drop_more, at_drop_all}
use Rattle.kept_numbers.specs.declared.words.OlderLine.{OlderLine}
use Rattle.kept_numbers.specs.Older.{IsSaid, added, added_by, before, behind, is_passed, added_with, older_from, older_lines, parted, said, said_before, taken}

before-before : (older lines new : List OlderLine) (found : Result (List OlderLine) ℕ) → new ≡ older ++ lines → before new found ≡ before older (before lines found)
before-before older lines new (Err number) is = refl
before-before older lines new (Ok more) is = ap (λ l. Ok (l ++ more)) is ∙ ap Ok (append_assoc older lines more)

-- a line is told
line-told : (older new : List OlderLine) (number : ℕ) (line : List ℕ) (rest : Result (List OlderLine) ℕ) → IsSaid true (said line) older new → before new rest ≡ before older (said_before number (said line) rest)
line-told older new number line rest is = before-before older is.0 new rest is.2 ∙ ap (λ o. before older (said_before number o rest)) (sym is.1)

pub end-told : (older new : List OlderLine) (number : ℕ) (line bytes : List ℕ) → IsSaid true (said line) older new → behind older number line (10 ∷ bytes) ≡ behind new (number + 1) [] bytes
end-told older new number line bytes is = sym (line-told older new number line (older_from (number + 1) (parted [] bytes)) is)

pub end-refused : (older : List OlderLine) (number : ℕ) (line bytes : List ℕ) → said line ≡ None → behind older number line (10 ∷ bytes) ≡ Err number
end-refused older number line bytes none = ap (λ o. before older (said_before number o (older_from (number + 1) (parted [] bytes)))) none

pub grown : (older : List OlderLine) (number byte : ℕ) (line new bytes : List ℕ) → byte ≢ 10 → new ≡ line ++ byte ∷ [] → behind older number line (byte ∷ bytes) ≡ behind older number new bytes
grown older number byte line new bytes other put =
    ap (λ b. before older (older_from number (cond b (line ∷ parted [] bytes) (parted (line ++ byte ∷ []) bytes)))) (ne_eqb byte 10 other)
    ∙ ap (λ l. behind older number l bytes) (sym put)

pub byte-taken : (older new : List OlderLine) (number place byte unused : ℕ) (line rest text : List ℕ) (next : Option ℕ) → place < length text → byte ≡ get_or text place unused
    → behind older number line (byte ∷ drop (place + 1) text) ≡ taken next number new rest (drop (place + 1) text) → behind older number line (drop place text) ≡ taken next number new rest (drop (place + 1) text)
byte-taken older new number place byte unused line rest text next below is goes =
    at_drop_more (λ l. behind older number line l) text place unused below
    ∙ ap (λ b. behind older number line (b ∷ drop (place + 1) text)) (sym is) ∙ goes

-- and the last line
pub ended : (older new : List OlderLine) (number place : ℕ) (line text : List ℕ) → length text ≤ place → IsSaid true (said line) older new → behind older number line (drop place text) ≡ Ok new
ended older new number place line text all told =
    at_drop_all (λ l. behind older number line l) text place all
    ∙ sym (line-told older new number line (Ok []) told) ∙ ap Ok (append-nil new)

pub refused-last : (older : List OlderLine) (number place : ℕ) (line text : List ℕ) → length text ≤ place → said line ≡ None → behind older number line (drop place text) ≡ Err number
refused-last older number place line text all none =
    at_drop_all (λ l. behind older number line l) text place all ∙ ap (λ o. before older (said_before number o (Ok []))) none

-- in front of all lines
pub begins : (text : List ℕ) → behind [] 1 [] text ≡ older_lines text
begins text = none (older_lines text)
  where
    none : (found : Result (List OlderLine) ℕ) → before [] found ≡ found
    none (Ok more) = refl
    none (Err number) = refl

-- ---- a line

pub said-passed : (line : List ℕ) → is_passed line ≡ true → said line ≡ Some []
said-passed line passed = ap (λ b. cond b (Some []) (cond (bytes_eq (take 8 line) (codes "acl add ")) (added (drop 8 line)) None)) passed

pub said-other : (line : List ℕ) → is_passed line ≡ false → bytes_eq (take 8 line) (codes "acl add ") ≡ false → said line ≡ None
said-other line passed begun =
    ap (λ b. cond b (Some []) (cond (bytes_eq (take 8 line) (codes "acl add ")) (added (drop 8 line)) None)) passed
    ∙ ap (λ b. cond b (added (drop 8 line)) None) begun

pub said-added : (line rest : List ℕ) → is_passed line ≡ false → bytes_eq (take 8 line) (codes "acl add ") ≡ true → rest ≡ drop 8 line → added rest ≡ said line
said-added line rest passed begun is =
    ap added is
    ∙ sym (ap (λ b. cond b (Some []) (cond (bytes_eq (take 8 line) (codes "acl add ")) (added (drop 8 line)) None)) passed
    ∙ ap (λ b. cond b (added (drop 8 line)) None) begun)

pub passed-put : (line : List ℕ) (old : List OlderLine) → is_passed line ≡ true → IsSaid true (said line) old old
passed-put line old passed = ([], said-passed line passed, sym (append-nil old))

pub added-put : (rest words : List ℕ) (place number : ℕ) (old new : List OlderLine) (line : OlderLine) → Ok number ≡ sequence_of (take place rest) → line.number ≡ number → line.words ≡ words → words ≡ drop place rest → new ≡ old ++ line ∷ []
    → IsSaid true (added_by rest (Some place)) old new
added-put rest words place number old new line is number_is words_is words_are put = (
  line ∷ [],
  ap (λ r. added_with r (drop place rest)) (sym is) ∙ ap (λ n. added_with (Ok n) (drop place rest)) (sym number_is) ∙ ap (λ w. added_with (Ok line.number) w) (sym (words_is ∙ words_are)),
  put,
)
