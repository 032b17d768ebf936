-- Answers that turn once. From one state of a commit to the next what comes is new, and no new piece goes: a key that found the
-- best of the new pieces finds it again, where no other piece of its rank matches the key.
use Rattle.std.proofs.Common.{◌≡◌, ℕ, zero, suc, ◌<◌, ◌≤◌, List, Option, None, Some, Contains, inl, inr, ◌⊎◌, subst, arith}
use Rattle.rule_model.specs.declared.Key.{Key}
use Rattle.rule_model.specs.Key.{IsKey}
use Rattle.rule_model.specs.Piece.{PiecesOverlap}
use Rattle.rule_model.specs.Entry.{RankedPiece}
use Rattle.commit_writes.proofs.OnTheWay.{IsBestPiece}
use Rattle.commit_writes.proofs.SetPieces.{HasPiece}

-- a piece and a rank stand for one of these
abbrev pub AreSingle : List RankedPiece → Type 0
AreSingle pieces = (a b : RankedPiece) → Contains pieces a → Contains pieces b → a.rank ≡ b.rank → a.piece ≡ b.piece → a ≡ b

-- no key matches two of them that have one rank
abbrev pub AreDisjoint : List RankedPiece → Type 0
AreDisjoint pieces = (a b : RankedPiece) → Contains pieces a → Contains pieces b → a.rank ≡ b.rank → PiecesOverlap a.piece b.piece → a ≡ b

-- what comes is new, and of the new ones none goes
pub record IsOnward (new before after : List RankedPiece) : Type 0 where
  pub comes : (ranked : RankedPiece) → Contains after ranked → Contains before ranked ⊎ Contains new ranked
  pub stays : (ranked : RankedPiece) → Contains before ranked → Contains new ranked → Contains after ranked

-- for that it's enough that its piece is still there, with one result or another
pub onward_from : (new before after : List RankedPiece) → AreSingle new → AreSingle before
    → ((ranked : RankedPiece) → Contains after ranked → Contains before ranked ⊎ Contains new ranked)
    → ((ranked : RankedPiece) → Contains new ranked → HasPiece after ranked) → IsOnward new before after
onward_from new before after single_new single_before comes holds = record {
  comes = comes;
  stays = λ ranked member is. let twin = holds ranked is in
      subst (Contains after)
      (elim (comes twin.0 twin.1) [
        | inl stood ↦ single_before twin.0 ranked stood member twin.3 twin.2
        | inr came ↦ single_new twin.0 ranked came is twin.3 twin.2
      ]) twin.1;
}

-- what is best of the new ones stays so
pub best_stays : (new before after : List RankedPiece) (key : Key) (was is : Option RankedPiece) → IsKey key → IsOnward new before after → AreDisjoint after
    → IsBestPiece before key was → IsBestPiece new key was → IsBestPiece after key is → IsBestPiece new key is
best_stays new before after key None None valid onward disjoint stood best now = best
best_stays new before after key None (Some is) valid onward disjoint stood best now =
    absurd (elim (onward.comes is now.0) [ inl there ↦ stood is there now.1 | inr came ↦ best is came now.1 ])
best_stays new before after key (Some was) None valid onward disjoint stood best now = absurd (now was (onward.stays was stood.0 best.0) best.1)
best_stays new before after key (Some was) (Some is) valid onward disjoint stood best now =
    let here = onward.stays was stood.0 best.0 in
    let up : was.rank ≤ is.rank = now.2 was here best.1 in
    let down : is.rank ≤ was.rank = elim (onward.comes is now.0) [ inl there ↦ stood.2 is there now.1 | inr came ↦ best.2 is came now.1 ] in
    subst (λ (ranked : RankedPiece). IsBestPiece new key (Some ranked)) (disjoint was is here now.0 (omega arith) (key, valid, best.1, now.1)) best

lasts : {A : Type 0} (shows : ℕ → A) (second : A) → ((n : ℕ) → shows n ≡ second → shows (suc n) ≡ second) → shows 0 ≡ second → (n : ℕ) → shows n ≡ second
lasts shows second stays begins zero = begins
lasts shows second stays begins (suc n) = stays n (lasts shows second stays begins n)

-- Where something shows one of two things, and the second for good once it does, and shows it in the end, there is one turn.
pub one_turn : {A : Type 0} (shows : ℕ → A) (first second : A) (last : ℕ) → ((n : ℕ) → (shows n ≡ first) ⊎ (shows n ≡ second)) → ((n : ℕ) → shows n ≡ second → shows (suc n) ≡ second)
    → shows last ≡ second → (turn : ℕ) × ((n : ℕ) → n < turn → shows n ≡ first) × ((n : ℕ) → turn ≤ n → shows n ≡ second)
one_turn shows first second zero either stays ends = (0, λ n early. absurd (omega arith), λ n late. lasts shows second stays ends n)
one_turn shows first second (suc last) either stays ends = elim (either 0) [
  | inr new ↦ (0, λ n early. absurd (omega arith), λ n late. lasts shows second stays new n)
  | inl old ↦ let w = one_turn (λ n. shows (suc n)) first second last (λ n. either (suc n)) (λ n. stays (suc n)) ends in (suc w.0, before old w.0 w.1, since w.0 w.2)
]
  where
    before : shows 0 ≡ first → (turn : ℕ) → ((n : ℕ) → n < turn → shows (suc n) ≡ first) → (n : ℕ) → n < suc turn → shows n ≡ first
    before old turn rest zero early = old
    before old turn rest (suc n) early = rest n (omega arith)

    since : (turn : ℕ) → ((n : ℕ) → turn ≤ n → shows (suc n) ≡ second) → (n : ℕ) → suc turn ≤ n → shows n ≡ second
    since turn rest zero late = absurd (omega arith)
    since turn rest (suc n) late = rest n (omega arith)
