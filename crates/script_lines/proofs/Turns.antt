-- What a source gave in several turns, one after the other.
use Rattle.std.proofs.Common.{◌≡◌, ◌≢◌, inl, inr, ℕ, Option, Some, List, [], ◌++◌, refl, ap, sym, ◌∙◌, append_assoc, append-nil, subst}
use Rattle.std.specs.List.{concat}
use Rattle.std.specs.Io.KnownBytes.{Consumes, IsAtEnd}
use Rattle.std.proofs.KnownBytes.{Consumes-nil, Consumes-trans}
use Rattle.script_lines.specs.declared.Over.{Over}
use Rattle.script_lines.specs.declared.Over.TheVariants as over
use Rattle.script_lines.specs.Given.{HasEnd, MayGive, GivesPieces}
use Rattle.script_lines.specs.Reader.{HeldBytes}
use Rattle.script_lines.proofs.Pieces.{concat-append, end-left, end-right, end-either}

-- nothing was read
pub gives-none : (given : List (List ℕ)) (a : Option (List ℕ)) → GivesPieces given given a a []
gives-none given a = record { given = sym (append-nil given); taken = Consumes-nil a; end = λ e. absurd e }

pub gives-trans : (given0 given1 given2 : List (List ℕ)) (a b c : Option (List ℕ)) (p q : List (List ℕ)) → GivesPieces given0 given1 a b p → GivesPieces given1 given2 b c q → (HasEnd p → q ≡ []) → (HasEnd p → c ≡ b) → GivesPieces given0 given2 a c (p ++ q)
gives-trans given0 given1 given2 a b c p q x y stays same = record {
  given = y.given ∙ ap (λ g. g ++ q) x.given ∙ append_assoc given0 p q;
  taken = subst (λ bytes. Consumes a c bytes) (sym (concat-append p q)) (Consumes-trans a b c (concat p) (concat q) x.taken y.taken);
  end = λ e. elim (end-either p q e) [
    | inl l ↦ subst IsAtEnd (sym (same l)) (x.end l)
    | inr r ↦ y.end r
  ];
}

-- what comes after the first pieces
pub may-first : (left now : List ℕ) (p q : List (List ℕ)) → MayGive left (p ++ q) now → (HasEnd p → q ≡ []) → MayGive left p (concat q ++ now)
may-first left now p q may stays = record {
  bytes = may.bytes ∙ ap (λ l. l ++ now) (concat-append p q) ∙ append_assoc (concat p) (concat q) now;
  end = λ e. ap (λ r. concat r ++ now) (stays e) ∙ may.end (end-left p q e);
}

-- these pieces, and nothing after them
pub may-all : (pieces : List (List ℕ)) → MayGive (concat pieces) pieces []
may-all pieces = record { bytes = sym (append-nil (concat pieces)); end = λ _. refl }

pub may-second : (left now : List ℕ) (p q : List (List ℕ)) → MayGive left (p ++ q) now → MayGive (concat q ++ now) q now
may-second left now p q may = record { bytes = refl; end = λ e. may.end (end-right p q e) }

-- the bytes that a source told are some that it may have given
pub may-told : (given0 given1 : List (List ℕ)) (a b : Option (List ℕ)) (pieces : List (List ℕ)) (left now : List ℕ) → GivesPieces given0 given1 a b pieces → a ≡ Some left → b ≡ Some now → MayGive left pieces now
may-told given0 given1 a b pieces left now is ea eb =
    let takes : Consumes (Some left) (Some now) (concat pieces) = subst (λ b. Consumes (Some left) b (concat pieces)) eb (subst (λ a. Consumes a b (concat pieces)) ea is.taken) in
    record { bytes = takes; end = λ e. subst IsAtEnd eb (is.end e) }

-- ---- an end stays

pub no-more : (o : Over) → o ≡ over.Ended → o ≢ over.Going
no-more o e going = let bad : over.Ended ≡ over.Going = sym e ∙ going in absurd (cc)

-- the input is at its end after the first pieces, and nothing was read then, or after the second
pub ended-both : (mid new : HeldBytes) (p q : List (List ℕ)) → HasEnd (p ++ q) → (HasEnd p → mid.over ≡ over.Ended) → (mid.over ≢ over.Going → new ≡ mid) → (HasEnd q → new.over ≡ over.Ended) → new.over ≡ over.Ended
ended-both mid new p q e before still more = elim (end-either p q e) [
  | inl l ↦ ap (λ (h : HeldBytes). h.over) (still (no-more mid.over (before l))) ∙ before l
  | inr r ↦ more r
]
