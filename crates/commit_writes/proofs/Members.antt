-- The live ids of a planned row are those of the pieces that stand and of the new ones.
use Rattle.std.proofs.Common.{◌≡◌, ℕ, ◌+◌, ◌<◌, ◌≤◌, Some, List, [], ◌∷◌, ◌++◌, map, Contains, arith, inl, inr, ◌⊎◌, sym, ◌∙◌, subst, ap, append_assoc, append-nil}
use Rattle.std.specs.List.{AllByRecursion, AllPairs}
use Rattle.std.proofs.lemmas.List.{map-id}
use Rattle.std.proofs.lemmas.List.Elements.{All-contains, Contains-append_left, Contains-append_right, Contains-append_cases}
use Rattle.slot_order.proofs.Lists.{contains_cases, contains_none, AllByRecursion-member, in_map, map_in}
use Rattle.slot_pool.specs.Arrangement.{Slots}
use Rattle.rule_model.proofs.Pairs.{pairs_head, pairs_tail}
use Rattle.rule_model.specs.Entry.{RankedPiece, entry_for}
use Rattle.placement.specs.declared.LivePiece.{LivePiece}
use Rattle.placement.specs.Live.{AreApart}
use Rattle.placement.proofs.Live.{apart_more}
use Rattle.placement.specs.Placement.{after_moves}
use Rattle.tcam_device.specs.State.{State}
use Rattle.commit_writes.specs.Planned.{IdEntries, Planned, ArePlanned, IsServedBy, IsPlannedRow, entry_at, ranked_of, live_after}
use Rattle.commit_writes.proofs.Ids.{AreOfPieces}

-- ids below a number are below a greater one
apart_wider : (few many : ℕ) (live : List LivePiece) → few ≤ many → AreApart few live → AreApart many live
apart_wider few many live less apart = record { small = wider live apart.small; once = apart.once }
  where
    wider : (some : List LivePiece) → AllByRecursion (λ one. one.id < few) some → AllByRecursion (λ one. one.id < many) some
    wider [] all = tt
    wider (one ∷ some) all = (let small : one.id < few = all.0 in omega arith, wider some all.1)

-- the ids of planned insertions are new
pub apart_after : (count : ℕ) (live : List LivePiece) (slots : Slots) (planned : List Planned) → AreApart count live → ArePlanned live slots planned
    → (most : ℕ) × AreApart most (live_after live planned)
apart_after count live slots [] apart are = (count, subst (AreApart count) (sym (append-nil live)) apart)
apart_after count live slots (planned ∷ rest) apart are =
    let most = count + planned.one.id + 1 in
    let w = apart_after most (live ++ planned.one ∷ []) (after_moves slots planned.moves) rest
    (apart_more most planned.one live (omega arith) are.0 (apart_wider count most live (omega arith) apart)) are.3 in
    (w.0, subst (AreApart w.0) (append_assoc live (planned.one ∷ []) (map (λ insertion. insertion.one) rest)) w.1)

-- what holds of each element and each later one holds of the first and of any later one,
pairs_first : {X : Type 0} (R : X → X → Type 0) (x y : X) (xs : List X) → AllPairs R (x ∷ xs) → Contains xs y → R x y
pairs_first R x y xs all member = All-contains (R x) xs y (pairs_head R x xs all) member

-- of the elements behind some,
pub pairs_behind : {X : Type 0} (R : X → X → Type 0) (xs ys : List X) → AllPairs R (xs ++ ys) → AllPairs R ys
pairs_behind R [] ys all = all
pairs_behind R (x ∷ xs) ys all = pairs_behind R xs ys (pairs_tail R x (xs ++ ys) all)

-- of one of these and one of those behind them,
pub pairs_across : {X : Type 0} (R : X → X → Type 0) (xs ys : List X) (x y : X) → AllPairs R (xs ++ ys) → Contains xs x → Contains ys y → R x y
pairs_across R [] ys x y all first second = absurd (contains_none x first)
pairs_across R (z ∷ xs) ys x y all first second = elim (contains_cases z x xs first) [
  | inl here ↦ subst (λ w. R w y) here (pairs_first R z y (xs ++ ys) all (Contains-append_right xs ys y second))
  | inr later ↦ pairs_across R xs ys x y (pairs_tail R z (xs ++ ys) all) later second
]

-- and of the images of any two that are not one, one way or the other
pub pairs_one : {X Y : Type 0} (R : Y → Y → Type 0) (f : X → Y) (xs : List X) (a b : X) → AllPairs R (map f xs) → Contains xs a → Contains xs b
    → (a ≡ b) ⊎ (R (f a) (f b) ⊎ R (f b) (f a))
pairs_one R f [] a b all in_a in_b = absurd (contains_none a in_a)
pairs_one R f (x ∷ xs) a b all in_a in_b = elim (contains_cases x a xs in_a) [
  | inl here ↦ elim (contains_cases x b xs in_b) [
    | inl there ↦ inl (sym here ∙ there)
    | inr later ↦ inr (inl (subst (λ w. R (f w) (f b)) here (pairs_first R (f x) (f b) (map f xs) all (map_in f xs b later))))
  ]
  | inr later_a ↦ elim (contains_cases x b xs in_b) [
    | inl there ↦ inr (inr (subst (λ w. R (f w) (f a)) there (pairs_first R (f x) (f a) (map f xs) all (map_in f xs a later_a))))
    | inr later_b ↦ pairs_one R f xs a b (pairs_tail R (f x) (map f xs) all) later_a later_b
  ]
]

pub pairs_same : {X : Type 0} (R : X → X → Type 0) (xs : List X) (a b : X) → AllPairs R xs → Contains xs a → Contains xs b → (a ≡ b) ⊎ (R a b ⊎ R b a)
pairs_same R xs a b all in_a in_b = pairs_one R (λ x. x) xs a b (subst (AllPairs R) (sym (map-id xs)) all) in_a in_b

-- two pieces that aren't one piece of one rank
abbrev Apart : RankedPiece → RankedPiece → Type 0
Apart a b = a.rank ≡ b.rank → a.piece ≡ b.piece → ⊥

-- planned insertions of distinct pieces are told apart by them
one_planned : (planned : List Planned) (p q : Planned) → AllPairs Apart (map ranked_of planned)
    → Contains planned p → Contains planned q → p.one.rank ≡ q.one.rank → p.one.piece ≡ q.one.piece → p ≡ q
one_planned planned p q apart mp mq rank piece = elim (pairs_one Apart ranked_of planned p q apart mp mq) [
  | inl same ↦ same
  | inr differ ↦ absurd (elim differ [ inl first ↦ first rank piece | inr second ↦ second (sym rank) (sym piece) ])
]

-- the live ids are those of these pieces
pub of_row : (state : State) (standing inserted : List RankedPiece) (live : List LivePiece) (slots : Slots) (entries : IdEntries) (planned : List Planned) → IsPlannedRow state standing inserted live slots entries planned
    → AreOfPieces state (standing ++ inserted) (live_after live planned) entries
of_row state standing inserted live slots entries planned row = record {
  served = λ ranked member. AllByRecursion-member (IsServedBy state) (standing ++ inserted) ranked row.served member;
  ids = (apart_after _ live slots planned row.arranged.apart row.are_planned).1.once;
  entries_are = record { of_piece = of_piece; has_id = has_id; once = once };
}
  where
    ones : List LivePiece
    ones = map (λ insertion. insertion.one) planned

    entry_of_new : (p : Planned) → Contains planned p → entry_at entries p.one.id ≡ Some (entry_for (ranked_of p))
    entry_of_new p member = AllByRecursion-member (λ insertion. entry_at entries insertion.one.id ≡ Some (entry_for (ranked_of insertion))) planned p row.have_entries member

    new_in : (p : Planned) → Contains planned p → Contains inserted (ranked_of p)
    new_in p member = subst (λ some. Contains some (ranked_of p)) row.inserted_are (map_in ranked_of planned p member)

    of_piece : (one : LivePiece) → Contains (live_after live planned) one → (ranked : RankedPiece) × Contains (standing ++ inserted) ranked
        × (ranked.piece ≡ one.piece) × (ranked.rank ≡ one.rank) × (entry_at entries one.id ≡ Some (entry_for ranked))
    of_piece one member = elim (Contains-append_cases live ones one member) [
      | inl old ↦ let w = row.entries_are.of_piece one old in (w.0, Contains-append_left standing inserted w.0 w.1, w.2, w.3, w.4)
      | inr new ↦ let w = in_map (λ insertion. insertion.one) planned one new in (
        ranked_of w.0,
        Contains-append_right standing inserted (ranked_of w.0) (new_in w.0 w.1),
        ap (λ x. x.piece) w.2,
        ap (λ x. x.rank) w.2,
        ap (λ x. entry_at entries x.id) (sym w.2) ∙ entry_of_new w.0 w.1,
      )
    ]

    has_id : (ranked : RankedPiece) → Contains (standing ++ inserted) ranked → (one : LivePiece) × Contains (live_after live planned) one
        × (ranked.piece ≡ one.piece) × (ranked.rank ≡ one.rank) × (entry_at entries one.id ≡ Some (entry_for ranked))
    has_id ranked member = elim (Contains-append_cases standing inserted ranked member) [
      | inl old ↦ let w = row.entries_are.has_id ranked old in (w.0, Contains-append_left live ones w.0 w.1, w.2, w.3, w.4)
      | inr new ↦ let w = in_map ranked_of planned ranked (subst (λ some. Contains some ranked) (sym row.inserted_are) new) in (
        w.0.one,
        Contains-append_right live ones w.0.one (map_in (λ insertion. insertion.one) planned w.0 w.1),
        ap (λ x. x.piece) (sym w.2),
        ap (λ x. x.rank) (sym w.2),
        entry_of_new w.0 w.1 ∙ ap (λ x. Some (entry_for x)) w.2,
      )
    ]

    -- no new piece is one that stands
    differ : (a b : LivePiece) → Contains live a → Contains ones b → a.rank ≡ b.rank → a.piece ≡ b.piece → ⊥
    differ a b old new rank piece =
        let x = row.entries_are.of_piece a old in let y = in_map (λ insertion. insertion.one) planned b new in
        pairs_across Apart standing inserted x.0 (ranked_of y.0) row.once x.1 (new_in y.0 y.1)
        (x.3 ∙ (rank ∙ ap (λ z. z.rank) (sym y.2))) (x.2 ∙ (piece ∙ ap (λ z. z.piece) (sym y.2)))

    once : (a b : LivePiece) → Contains (live_after live planned) a → Contains (live_after live planned) b → a.rank ≡ b.rank → a.piece ≡ b.piece → a.id ≡ b.id
    once a b in_a in_b rank piece = elim (Contains-append_cases live ones a in_a) [
      | inl old_a ↦ elim (Contains-append_cases live ones b in_b) [
        | inl old_b ↦ row.entries_are.once a b old_a old_b rank piece
        | inr new_b ↦ absurd (differ a b old_a new_b rank piece)
      ]
      | inr new_a ↦ elim (Contains-append_cases live ones b in_b) [
        | inl old_b ↦ absurd (differ b a old_b new_a (sym rank) (sym piece))
        | inr new_b ↦
            let x = in_map (λ insertion. insertion.one) planned a new_a in let y = in_map (λ insertion. insertion.one) planned b new_b in
            let e : x.0 ≡ y.0 = one_planned planned x.0 y.0 (subst (AllPairs Apart) (sym row.inserted_are) (pairs_behind Apart standing inserted row.once)) x.1 y.1
            (ap (λ z. z.rank) x.2 ∙ (rank ∙ ap (λ z. z.rank) (sym y.2))) (ap (λ z. z.piece) x.2 ∙ (piece ∙ ap (λ z. z.piece) (sym y.2))) in
            ap (λ z. z.id) (sym x.2) ∙ (ap (λ z. z.one.id) e ∙ ap (λ z. z.id) y.2)
      ]
    ]
