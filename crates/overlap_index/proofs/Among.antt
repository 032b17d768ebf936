-- The ids on either side of a piece, of some live ids that are looked at one by one.
use Rattle.std.proofs.Common.{◌≡◌, ℕ, ◌+◌, ◌<◌, List, [], ◌∷◌, ◌++◌, length, map, filter, take, get_or, Contains, inl, inr, refl, sym, ◌∙◌, ap, subst}
use Rattle.std.proofs.lemmas.List.{map-append, map_push, take_more}
use Rattle.std.proofs.lemmas.List.Elements.{filter-append, Contains-push_cases}
use Rattle.slot_order.proofs.Lists.{contains_none}
use Rattle.placement.specs.declared.LivePiece.{LivePiece}
use Rattle.overlap_index.specs.declared.scan.Side.{Side}
use Rattle.overlap_index.specs.declared.scan.Side.TheVariants.{Above, Below}
use Rattle.overlap_index.specs.Sides.{is_on, ids_on, AreAmong}

ids_last : (side : Side) (of one : LivePiece) (pieces : List LivePiece) → ids_on side of (pieces ++ one ∷ []) ≡ ids_on side of pieces ++ ids_on side of (one ∷ [])
ids_last side of one pieces =
    ap (map (λ (x : LivePiece). x.id)) (filter-append (λ other. is_on side other of) pieces (one ∷ []))
    ∙ map-append (λ (x : LivePiece). x.id) (filter (λ other. is_on side other of) pieces) (filter (λ other. is_on side other of) (one ∷ []))

pub among_none : (of : LivePiece) (live : List LivePiece) (above below : List ℕ) → above ≡ [] → below ≡ [] → AreAmong of live [] above below
among_none of live above below no_above no_below = record { pieces = []; named = refl; standing = λ one c. absurd (contains_none one c); on_above = no_above; on_below = no_below }

pub among_more : (of one : LivePiece) (live : List LivePiece) (ids : List ℕ) (k : ℕ) (above below more_above more_below : List ℕ) → k < length ids → Contains live one → one.id ≡ get_or ids k 0
    → more_above ≡ above ++ ids_on Above of (one ∷ []) → more_below ≡ below ++ ids_on Below of (one ∷ []) → AreAmong of live (take k ids) above below → AreAmong of live (take (k + 1) ids) more_above more_below
among_more of one live ids k above below more_above more_below less has id_is put_above put_below among = record {
  pieces = among.pieces ++ one ∷ [];
  named = map_push (λ (x : LivePiece). x.id) among.pieces one ∙ (ap (λ xs. xs ++ one.id ∷ []) among.named ∙ (ap (λ (id : ℕ). take k ids ++ id ∷ []) id_is ∙ sym (take_more ids k 0 less)));
  standing = λ other c. elim (Contains-push_cases among.pieces one other c) [ inl old ↦ among.standing other old | inr same ↦ subst (Contains live) same has ];
  on_above = put_above ∙ (ap (λ xs. xs ++ ids_on Above of (one ∷ [])) among.on_above ∙ sym (ids_last Above of one among.pieces));
  on_below = put_below ∙ (ap (λ xs. xs ++ ids_on Below of (one ∷ [])) among.on_below ∙ sym (ids_last Below of one among.pieces));
}
