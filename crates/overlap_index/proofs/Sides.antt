-- On which side of a piece another one is.
use Rattle.std.proofs.Common.{◌≡◌, ℕ, ◌<◌, Bool, true, false, Option, Some, None, List, [], ◌∷◌, ◌++◌, map, arith, refl, sym, ◌∙◌, ap}
use Rattle.std.specs.Prelude.{nat_lt, if◌then◌else◌}
use Rattle.std.proofs.lemmas.Bool.{and_parts, cond-true, cond-false, false_from_ne_true, ltb-true}
use Rattle.std.proofs.lemmas.List.{append-nil}
use Rattle.rule_model.specs.Piece.{pieces_meet}
use Rattle.overlap_index.specs.declared.scan.Side.{Side}
use Rattle.overlap_index.specs.declared.scan.Side.TheVariants.{Above, Below}
use Rattle.placement.specs.declared.LivePiece.{LivePiece}
use Rattle.placement.specs.Live.{is_over}
use Rattle.overlap_index.specs.Sides.{is_on, ids_on, side_of}

-- of two pieces one at most is over the other
over_once : (a b : LivePiece) → is_over a b ≡ true → is_over b a ≡ false
over_once a b e = false_from_ne_true (is_over b a) (λ f.
    let down : b.rank < a.rank = ltb-true b.rank a.rank (and_parts (pieces_meet a.piece b.piece) (nat_lt b.rank a.rank) e).1 in
    let up : a.rank < b.rank = ltb-true a.rank b.rank (and_parts (pieces_meet b.piece a.piece) (nat_lt a.rank b.rank) f).1 in
    absurd (omega arith))

-- what the tests said, from the side that was picked by them
picked_above : (a b : Bool) → (if a then Some Above else if b then Some Below else None) ≡ Some Above → a ≡ true
picked_above true b e = refl
picked_above false true e = absurd (let k : ◌≡◌ {A = Option Side} (Some Below) (Some Above) = e in cc)
picked_above false false e = absurd (let k : ◌≡◌ {A = Option Side} None (Some Above) = e in cc)

picked_below : (a b : Bool) → (if a then Some Above else if b then Some Below else None) ≡ Some Below → b ≡ true
picked_below true b e = absurd (let k : ◌≡◌ {A = Option Side} (Some Above) (Some Below) = e in cc)
picked_below false true e = refl
picked_below false false e = absurd (let k : ◌≡◌ {A = Option Side} None (Some Below) = e in cc)

picked_none : (a b : Bool) → (if a then Some Above else if b then Some Below else None) ≡ None → (a ≡ false) × (b ≡ false)
picked_none true b e = absurd (let k : ◌≡◌ {A = Option Side} (Some Above) None = e in cc)
picked_none false true e = absurd (let k : ◌≡◌ {A = Option Side} (Some Below) None = e in cc)
picked_none false false e = (refl, refl)

pub on_above : (other of : LivePiece) → side_of other of ≡ Some Above → (is_on Above other of ≡ true) × (is_on Below other of ≡ false)
on_above other of e = let above = picked_above (is_over other of) (is_over of other) e in (above, over_once other of above)

pub on_below : (other of : LivePiece) → side_of other of ≡ Some Below → (is_on Above other of ≡ false) × (is_on Below other of ≡ true)
on_below other of e = let below = picked_below (is_over other of) (is_over of other) e in (over_once of other below, below)

pub on_none : (other of : LivePiece) → side_of other of ≡ None → (is_on Above other of ≡ false) × (is_on Below other of ≡ false)
on_none other of e = picked_none (is_over other of) (is_over of other) e

-- its id is put to those found on a side exactly where it is on that side
pub put_on : (side : Side) (other of : LivePiece) (before after : List ℕ) → is_on side other of ≡ true → after ≡ before ++ other.id ∷ [] → after ≡ before ++ ids_on side of (other ∷ [])
put_on side other of before after on is = is ∙ ap (λ xs. before ++ map (λ (one : LivePiece). one.id) xs) (sym (cond-true _ _ _ on))

pub put_off : (side : Side) (other of : LivePiece) (before : List ℕ) → is_on side other of ≡ false → before ≡ before ++ ids_on side of (other ∷ [])
put_off side other of before off = sym (append-nil before) ∙ ap (λ xs. before ++ map (λ (one : LivePiece). one.id) xs) (sym (cond-false _ _ _ off))
