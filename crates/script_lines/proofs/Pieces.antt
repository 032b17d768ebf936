-- Pieces, one after the other.
use Rattle.std.proofs.Common.{◌≡◌, ◌≢◌, ◌≤◌, ◌+◌, take, drop, length-append, arith, ℕ, List, [], ◌∷◌, ◌++◌, ◌⊎◌, inl, inr, Option, length, refl, ap, sym, ◌∙◌, append_assoc, append-nil, subst}
use Rattle.std.specs.List.{concat}
use Rattle.std.specs.Io.KnownBytes.{Consumes}
use Rattle.std.proofs.KnownBytes.{Consumes-trans}
use Rattle.script_lines.specs.Given.{HasEnd}
use Rattle.script_lines.specs.Reader.{IsOpenLine}
use Rattle.std.proofs.lemmas.List.{take-append-drop, take-append-le}
use Rattle.script_lines.specs.Scan.{IsScanned, Gathers}

pub concat-append : (a b : List (List ℕ)) → concat (a ++ b) ≡ concat a ++ concat b
concat-append [] b = refl
concat-append (x ∷ a) b = ap (λ l. x ++ l) (concat-append a b) ∙ sym (append_assoc x (concat a) (concat b))

pub concat-one : (a : List (List ℕ)) (x : List ℕ) → concat (a ++ x ∷ []) ≡ concat a ++ x
concat-one a x = concat-append a (x ∷ []) ∙ ap (λ l. concat a ++ l) (append-nil x)

pub end-left : (a b : List (List ℕ)) → HasEnd a → HasEnd (a ++ b)
end-left [] b h = absurd h
end-left (x ∷ a) b (inl e) = inl e
end-left (x ∷ a) b (inr h) = inr (end-left a b h)

pub end-right : (a b : List (List ℕ)) → HasEnd b → HasEnd (a ++ b)
end-right [] b h = h
end-right (x ∷ a) b h = inr (end-right a b h)

pub end-either : (a b : List (List ℕ)) → HasEnd (a ++ b) → HasEnd a ⊎ HasEnd b
end-either [] b h = inr h
end-either (x ∷ a) b (inl e) = inl (inl e)
end-either (x ∷ a) b (inr h) = elim (end-either a b h) [ inl l ↦ inl (inr l) | inr r ↦ inr r ]

pub end-one : (x : List ℕ) → HasEnd (x ∷ []) → x ≡ []
end-one x (inl e) = e
end-one x (inr h) = absurd h

-- one more, where what was held and read before is a part of one line, and not the end
pub gathers-more : (before : ℕ) (old mid new : List ℕ) (a b c : Option (List ℕ)) (given0 given1 given2 : List (List ℕ)) (pieces : List (List ℕ)) (piece : List ℕ)
    → Gathers before old mid a b given0 given1 pieces → (HasEnd pieces → ⊥) → IsOpenLine before mid → new ≡ mid ++ piece → Consumes b c piece → given2 ≡ given1 ++ piece ∷ []
    → Gathers before old new a c given0 given2 (pieces ++ piece ∷ [])
gathers-more before old mid new a b c given0 given1 given2 pieces piece is open_end plain grown taken given = record {
  grown = grown ∙ ap (λ l. l ++ piece) is.grown ∙ append_assoc old (concat pieces) piece ∙ ap (λ l. old ++ l) (sym (concat-one pieces piece));
  given = given ∙ ap (λ l. l ++ piece ∷ []) is.given ∙ append_assoc given0 pieces (piece ∷ []);
  taken = subst (λ bytes. Consumes a c bytes) (sym (concat-one pieces piece)) (Consumes-trans a b c (concat pieces) piece is.taken taken);
  last = inr (pieces, piece, refl, subst (λ l. IsOpenLine before l) is.grown plain, open_end);
}

pub none-of : (xs : List ℕ) → length xs ≡ 0 → xs ≡ []
none-of [] e = refl
none-of (x ∷ xs) e = absurd (cc)

-- a piece that isn't empty is no end
pub end-still : (pieces : List (List ℕ)) (piece : List ℕ) (n : ℕ) → length piece ≡ n → n ≢ 0 → (HasEnd pieces → ⊥) → HasEnd (pieces ++ piece ∷ []) → ⊥
end-still pieces piece n count some before h = elim (end-either pieces (piece ∷ []) h) [ inl l ↦ before l | inr r ↦ some (sym count ∙ ap length (end-one piece r)) ]

-- all the bytes held are scanned, so they are a part of one line
pub all-scanned : (before n : ℕ) (held buffer : List ℕ) → held ≡ buffer → IsScanned held n before → drop n held ≡ [] → IsOpenLine before buffer
all-scanned before n held buffer same is none =
    let all : take n held ≡ buffer = sym (append-nil (take n held)) ∙ ap (λ r. take n held ++ r) (sym none) ∙ take-append-drop n held ∙ same in
    subst (λ l. IsOpenLine before l) all is.one_line

-- what was scanned stays so
pub scanned-more : (before n : ℕ) (held buffer new got : List ℕ) → held ≡ buffer → IsScanned held n before → new ≡ buffer ++ got → IsScanned new n before
scanned-more before n held buffer new got same is grown =
    let there : n ≤ length held = is.there in
    let here : n ≤ length buffer = subst (λ b. n ≤ length b) same there in
    let long : length new ≡ length buffer + length got = ap length grown ∙ length-append buffer got in
    let front : take n held ≡ take n new = ap (take n) same ∙ sym (ap (take n) grown ∙ take-append-le n buffer got here) in
    record { one_line = subst (λ l. IsOpenLine before l) front is.one_line; there = omega (arith, here, long) }
