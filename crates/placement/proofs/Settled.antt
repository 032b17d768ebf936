-- Ids that stand in order stay so where one more is live, and where one goes.
use Rattle.std.proofs.Common.{◌≡◌, ◌≢◌, ℕ, ◌<◌, true, false, Some, List, [], ◌∷◌, ◌++◌, length, map, Contains, inl, inr, sym, ◌∙◌, subst, ap}
use Rattle.std.specs.Prelude.{nat_lt}
use Rattle.std.proofs.lemmas.Bool.{and_from, lt-ltb, false_from_ne_true}
use Rattle.std.proofs.lemmas.List.Elements.{Contains-append_left, Contains-push_cases}
use Rattle.slot_order.specs.Order.{slot}
use Rattle.slot_order.proofs.Inside.{length-applied}
use Rattle.slot_pool.specs.Arrangement.{Slots}
use Rattle.rule_model.specs.Piece.{pieces_meet}
use Rattle.placement.specs.declared.LivePiece.{LivePiece}
use Rattle.placement.specs.Live.{is_live, is_above}
use Rattle.placement.proofs.Above.{above_is, is_above_from, live_is, is_live_from}
use Rattle.placement.specs.declared.Move.{Move}
use Rattle.placement.specs.Placement.{after_moves, IsInOrder}
use Rattle.placement.specs.Insertion.{IsLive, IsOther, StandOnce}
use Rattle.placement.proofs.Chain.{write_of, after_moves-applied}

-- moves leave as many slots as there were
pub length-after_moves : (slots : Slots) (moves : List Move) → length (after_moves slots moves) ≡ length slots
length-after_moves slots moves = ap length (after_moves-applied slots moves) ∙ length-applied slots (map write_of moves)

-- what was live stays live beside one more, and nothing else is live but that one
live_more : (live : List LivePiece) (one : LivePiece) (id : ℕ) → IsLive live id → IsLive (live ++ one ∷ []) id
live_more live one id e =
    let w = live_is live id e in
    subst (IsLive (live ++ one ∷ [])) w.2 (is_live_from (live ++ one ∷ []) w.0 (Contains-append_left live (one ∷ []) w.0 w.1))

live_less : (live : List LivePiece) (one : LivePiece) (id : ℕ) → id ≢ one.id → IsLive (live ++ one ∷ []) id → IsLive live id
live_less live one id other e =
    let w = live_is (live ++ one ∷ []) id e in
    elim (Contains-push_cases live one w.0 w.1) [
      | inl old ↦ subst (IsLive live) w.2 (is_live_from live w.0 old)
      | inr same ↦ absurd (other (sym w.2 ∙ ap (λ x. x.id) (sym same)))
    ]

pub add_standing : (live : List LivePiece) (one : LivePiece) (slots : Slots) → is_live live one.id ≡ false → StandOnce (IsLive live) slots
    → StandOnce (IsOther (live ++ one ∷ []) one.id) slots
add_standing live one slots absent standing = record {
  within = λ at id s.
      let e = standing.within at id s in
      (live_more live one id e, λ same. let k : is_live live one.id ≡ true = subst (IsLive live) same e in let v : true ≡ false = sym k ∙ absent in absurd (cc));
  placed = λ id p. standing.placed id (live_less live one id p.1 p.0);
  once = standing.once;
}

still_over : (live : List LivePiece) (a b : ℕ) (x y : LivePiece) → Contains live x → Contains live y → x.id ≡ a → y.id ≡ b → pieces_meet x.piece y.piece ≡ true → y.rank < x.rank
    → is_above live a b ≡ true
still_over live a b x y hx hy ix iy meet less =
    subst (λ z. is_above live a z ≡ true) iy (subst (λ z. is_above live z y.id ≡ true) ix
    (is_above_from live x y hx hy (and_from (pieces_meet x.piece y.piece) (nat_lt y.rank x.rank) meet (lt-ltb y.rank x.rank less))))

pub add_order : (live : List LivePiece) (one : LivePiece) (slots : Slots) → is_live live one.id ≡ false → StandOnce (IsLive live) slots → IsInOrder (is_above live) slots
    → IsInOrder (is_above (live ++ one ∷ [])) slots
add_order live one slots absent standing order i j first second l s t = false_from_ne_true (is_above (live ++ one ∷ []) second first) (λ e.
    let w = above_is (live ++ one ∷ []) second first e in
    let k : is_above live second first ≡ true = still_over live second first w.upper w.lower
    (old w.upper w.has_upper (λ same. apart j second t (sym w.upper_id ∙ ap (λ x. x.id) (sym same))))
    (old w.lower w.has_lower (λ same. apart i first s (sym w.lower_id ∙ ap (λ x. x.id) (sym same)))) w.upper_id w.lower_id w.meet w.less in
    let v = order i j first second l s t in let z : true ≡ false = sym k ∙ v in cc)
  where
    apart : (at id : ℕ) → slot slots at ≡ Some id → id ≢ one.id
    apart at id s same = let k : is_live live one.id ≡ true = subst (IsLive live) same (standing.within at id s) in let v : true ≡ false = sym k ∙ absent in absurd (cc)

    old : (x : LivePiece) → Contains (live ++ one ∷ []) x → (one ≡ x → ⊥) → Contains live x
    old x c other = elim (Contains-push_cases live one x c) [ inl k ↦ k | inr same ↦ absurd (other same) ]
