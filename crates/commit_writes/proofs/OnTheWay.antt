-- Pieces on the way from those of an old set to those of a new one: no key has another answer than the old or the new one.
use Rattle.std.proofs.Common.{◌≡◌, ◌≤◌, List, Option, None, Some, Contains, IsTrue, inl, inr, ◌⊎◌, option_map, refl, sym, ◌∙◌, subst, ap, arith}
use Rattle.slot_order.specs.Order.{first_hit, IsBest, Distinct}
use Rattle.slot_order.proofs.Rules.{best_best}
use Rattle.slot_moves.proofs.OnTheWay.{HasPartner, on_the_way_best}
use Rattle.rule_model.specs.declared.Key.{Key}
use Rattle.rule_model.specs.declared.Rule.{Rule}
use Rattle.rule_model.specs.Key.{IsKey}
use Rattle.rule_model.specs.Rule.{rule_matches}
use Rattle.rule_model.specs.RuleSet.{answer, best_rule}
use Rattle.rule_model.specs.Piece.{piece_matches}
use Rattle.rule_model.specs.declared.words.Entry.{Entry}
use Rattle.rule_model.specs.Entry.{RankedPiece, entry_for}
use Rattle.tcam_device.specs.State.{State, hits_key, told, lookup}
use Rattle.tcam_device.specs.Order.{IsOrdered}
use Rattle.tcam_device.proofs.Lookups.{HitAsPieces, EntriesOf, hits_valid, lookup_best}
use Rattle.tcam_device.proofs.Shown.{ArePiecesOf, tells}
use Rattle.commit_writes.specs.Commit.{AreBetween}
use Rattle.commit_writes.proofs.SetPieces.{HasPiece, AreOnce}
use Rattle.commit_writes.proofs.Members.{pairs_same}

-- a piece is of no lower rank than any of these that is missing
abbrev pub Leads : List RankedPiece → List RankedPiece → RankedPiece → Type 0
Leads some standing ranked = (other : RankedPiece) → Contains some other → HasPiece standing other ⊎ (other.rank ≤ ranked.rank)

-- Each that stands is old and leads the old ones, or new and leads the new ones; and either the old or the new ones all stand.
pub record AreOnTheWay (old new standing : List RankedPiece) : Type 0 where
  pub each : (ranked : RankedPiece) → Contains standing ranked → (Contains old ranked × Leads old standing ranked) ⊎ (Contains new ranked × Leads new standing ranked)
  pub whole : ((ranked : RankedPiece) → Contains old ranked → HasPiece standing ranked) ⊎ ((ranked : RankedPiece) → Contains new ranked → HasPiece standing ranked)

-- of some pieces the one of greatest rank that matches the key, or none where none does
abbrev pub IsBestPiece : List RankedPiece → Key → Option RankedPiece → Type 0
IsBestPiece pieces key found = IsBest (λ (ranked : RankedPiece) (key : Key). piece_matches ranked.piece key) (λ ranked. ranked.rank) (Contains pieces) key found

-- a piece that stands is partner to one with the same piece and rank
partner : (standing : List RankedPiece) (ranked : RankedPiece) → HasPiece standing ranked
    → HasPartner (λ (ranked : RankedPiece) (key : Key). piece_matches ranked.piece key) (λ ranked. ranked.rank) (Contains standing) ranked
partner standing ranked stands = (stands.0, stands.1, stands.3, λ key met. subst (λ piece. IsTrue (piece_matches piece key)) (sym stands.2) met)

-- the best of pieces on the way is the best of the old ones or of the new ones
best_on_the_way : (old new standing : List RankedPiece) (key : Key) (found : Option RankedPiece) → AreOnTheWay old new standing → IsBestPiece standing key found
    → IsBestPiece old key found ⊎ IsBestPiece new key found
best_on_the_way old new standing key found way best =
    on_the_way_best (λ (ranked : RankedPiece) (key : Key). piece_matches ranked.piece key) (λ ranked. ranked.rank) (Contains old) (Contains standing) (Contains new) key found
    record {
      each = λ ranked member. elim (way.each ranked member) [
        | inl is ↦ inl (is.0, leads old ranked is.1)
        | inr is ↦ inr (is.0, leads new ranked is.1)
      ];
      whole = elim way.whole [
        | inl all ↦ inl (λ ranked member. partner standing ranked (all ranked member))
        | inr all ↦ inr (λ ranked member. partner standing ranked (all ranked member))
      ];
    }
    best
  where
    leads : (some : List RankedPiece) (ranked : RankedPiece) → Leads some standing ranked → (other : RankedPiece) → Contains some other
        → HasPartner (λ (ranked : RankedPiece) (key : Key). piece_matches ranked.piece key) (λ ranked. ranked.rank) (Contains standing) other ⊎ (other.rank ≤ ranked.rank)
    leads some ranked all other member = elim (all other member) [
      | inl stands ↦ inl (partner standing other stands)
      | inr lower ↦ inr lower
    ]

-- a device that is in order for some pieces finds the entry of the best of them
found_piece : (state : State) (standing : List RankedPiece) (key : Key) (valid : IsKey key) → HitAsPieces state (Contains standing) → IsOrdered state (Contains standing)
    → (found : Option RankedPiece) × IsBestPiece standing key found × (lookup state key ≡ told (option_map entry_for found))
found_piece state standing key valid hit ordered = read (first_hit (hits_key state) state.slots key) (lookup_best state (Contains standing) key valid hit ordered)
  where
    hits_it : (ranked : RankedPiece) → Contains standing ranked → IsTrue (piece_matches ranked.piece key) → IsTrue (hits_key state (entry_for ranked) key)
    hits_it ranked member met = subst (λ b. IsTrue b) (sym (hit ranked key member valid)) met

    read : (first : Option Entry) → IsBest (hits_valid state) (λ (entry : Entry). entry.tag) (EntriesOf (Contains standing)) (key, valid) first
        → (found : Option RankedPiece) × IsBestPiece standing key found × (told first ≡ told (option_map entry_for found))
    read None none = (None, λ ranked member met. none (entry_for ranked) (ranked, member, refl) (hits_it ranked member met), refl)
    read (Some entry) best =
        let m = best.0 in (
          Some m.0,
          (
            m.1,
            subst (λ b. IsTrue b) (hit m.0 key m.1 valid) (subst (λ (e : Entry). IsTrue (hits_key state e key)) (sym m.2) best.1),
            λ other member met.
                let low : other.rank ≤ entry.tag = best.2 (entry_for other) (other, member, refl) (hits_it other member met) in
                let tag : m.0.rank ≡ entry.tag = ap (λ (e : Entry). e.tag) m.2 in
                omega arith,
          ),
          ap (λ (e : Entry). told (Some e)) (sym m.2),
        )

-- what is told of the best of a set's pieces is the set's answer
pub best_answers : (state : State) (rules : List Rule) (pieces : List RankedPiece) (key : Key) (valid : IsKey key) (found : Option RankedPiece)
    → Distinct (λ (rule : Rule). rule.priority) rules → ArePiecesOf rules (Contains pieces) → HitAsPieces state (Contains pieces) → IsBestPiece pieces key found
    → told (option_map entry_for found) ≡ answer rules key
best_answers state rules pieces key valid found distinct of hit best =
    tells state rules (Contains pieces) key valid (option_map entry_for found) (best_rule rules key) distinct of hit (as_entries found best)
    (best_best rule_matches (λ (rule : Rule). rule.priority) rules key)
  where
    met : (entry : Entry) (m : EntriesOf (Contains pieces) entry) → IsTrue (hits_key state entry key) → IsTrue (piece_matches m.0.piece key)
    met entry m hits = subst (λ b. IsTrue b) (hit m.0 key m.1 valid) (subst (λ (e : Entry). IsTrue (hits_key state e key)) (sym m.2) hits)

    as_entries : (found : Option RankedPiece) → IsBestPiece pieces key found
        → IsBest (hits_valid state) (λ (entry : Entry). entry.tag) (EntriesOf (Contains pieces)) (key, valid) (option_map entry_for found)
    as_entries None none = λ entry m hits. none m.0 m.1 (met entry m hits)
    as_entries (Some ranked) best = (
      (ranked, best.0, refl),
      subst (λ b. IsTrue b) (sym (hit ranked key best.0 valid)) best.1,
      λ entry m hits.
          let low : m.0.rank ≤ ranked.rank = best.2 m.0 m.1 (met entry m hits) in
          let tag : m.0.rank ≡ entry.tag = ap (λ (e : Entry). e.tag) m.2 in
          omega arith,
    )

-- what a key finds in a state on the way: the best of the pieces that stand, which is that of the old ones or of the new ones
pub record IsFound (old new standing : List RankedPiece) (state : State) (key : Key) : Type 0 where
  pub found : Option RankedPiece
  pub best : IsBestPiece standing key found
  pub either : IsBestPiece old key found ⊎ IsBestPiece new key found
  pub shows : lookup state key ≡ told (option_map entry_for found)

pub found_on_the_way : (state : State) (old new standing : List RankedPiece) (key : Key) → IsKey key → HitAsPieces state (Contains old) → HitAsPieces state (Contains new)
    → AreOnTheWay old new standing → IsOrdered state (Contains standing) → IsFound old new standing state key
found_on_the_way state old new standing key valid hit_old hit_new way ordered =
    let w = found_piece state standing key valid (λ ranked at member. elim (way.each ranked member) [ inl is ↦ hit_old ranked at is.0 | inr is ↦ hit_new ranked at is.0 ]) ordered in
    record { found = w.0; best = w.1; either = best_on_the_way old new standing key w.0 way w.1; shows = w.2 }

-- pieces of which no two have one piece and one rank are told apart by these
pub once_one : (pieces : List RankedPiece) (a b : RankedPiece) → AreOnce pieces → Contains pieces a → Contains pieces b → a.rank ≡ b.rank → a.piece ≡ b.piece → a ≡ b
once_one pieces a b once in_a in_b rank piece = elim (pairs_same Apart pieces a b once in_a in_b) [
  | inl same ↦ same
  | inr apart ↦ absurd (elim apart [ inl first ↦ first rank piece | inr second ↦ second (sym rank) (sym piece) ])
]
  where
    Apart : RankedPiece → RankedPiece → Type 0
    Apart x y = x.rank ≡ y.rank → x.piece ≡ y.piece → ⊥

-- of a piece that both have one stands
pub on_the_way_between : (old new standing : List RankedPiece) → AreOnce old → AreOnce new → AreOnTheWay old new standing → AreBetween old new standing
on_the_way_between old new standing once_old once_new way = record {
  known = λ ranked member. elim (way.each ranked member) [ inl is ↦ inl is.0 | inr is ↦ inr is.0 ];
  kept = λ was is in_old in_new piece rank. elim way.whole [
    | inl all ↦ let t = all was in_old in one was is in_old in_new t.0 t.1 (t.2, t.3) (t.2 ∙ piece, t.3 ∙ rank)
    | inr all ↦ let t = all is in_new in one was is in_old in_new t.0 t.1 (t.2 ∙ sym piece, t.3 ∙ sym rank) (t.2, t.3)
  ];
}
  where
    one : (was is : RankedPiece) → Contains old was → Contains new is → (twin : RankedPiece) → Contains standing twin
        → (twin.piece ≡ was.piece) × (twin.rank ≡ was.rank) → (twin.piece ≡ is.piece) × (twin.rank ≡ is.rank)
        → Contains standing was ⊎ Contains standing is
    one was is in_old in_new twin member as_was as_is = elim (way.each twin member) [
      | inl stood ↦ inl (subst (Contains standing) (once_one old twin was once_old stood.0 in_old as_was.1 as_was.0) member)
      | inr stands ↦ inr (subst (Contains standing) (once_one new twin is once_new stands.0 in_new as_is.1 as_is.0) member)
    ]
