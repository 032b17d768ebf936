-- Moves that are noted, one after the other, and that taking them back leads to where they began.
use Rattle.std.proofs.Common.{◌≡◌, ℕ, Option, None, Some, List, [], ◌∷◌, ◌++◌, length, set, length-set, refl, sym, ap, subst, ◌∙◌, append-nil, append_assoc}
use Rattle.std.specs.List.{AllByRecursion}
use Rattle.std.proofs.lemmas.List.{set-get_or, set-set}
use Rattle.slot_order.specs.Order.{slot}
use Rattle.slot_order.proofs.Lists.{all_append}
use Rattle.slot_pool.specs.Arrangement.{Slots}
use Rattle.placement.specs.declared.Move.{Move}
use Rattle.placement.specs.declared.Move.TheVariants.{Put, Erase}
use Rattle.placement.specs.Placement.{after_move, after_moves}
use Rattle.move_planner.specs.Noted.{AreNoted, IsInside, LeadBack, as_held, back_of, backs_of, taken_back}
use Rattle.move_planner.specs.Steps.{CanMake}
use Rattle.move_planner.proofs.Shifted.{after_append}

pub backs_append : (slots : Slots) (moves more : List Move) → backs_of slots (moves ++ more) ≡ backs_of slots moves ++ backs_of (after_moves slots moves) more
backs_append slots [] more = refl
backs_append slots (move ∷ moves) more = ap (λ (rest : List Move). back_of slots move ∷ rest) (backs_append (after_move slots move) moves more)

-- no move
pub noted_none : (slots : Slots) (plan undo : List Move) → AreNoted slots slots plan plan undo undo
noted_none slots plan undo = record { moves = []; gained = sym (append-nil plan); after = refl; inside = tt; noted = sym (append-nil undo) }

-- a move that can be made is to a slot that there is
pub can_inside : (slots : Slots) (step : Move) → CanMake slots step → IsInside (length slots) step
can_inside slots (Put at id) can = can.0
can_inside slots (Erase at) can = can

-- no move makes slots
pub length_after : (slots : Slots) (moves : List Move) → length (after_moves slots moves) ≡ length slots
length_after slots [] = refl
length_after slots (Put at id ∷ moves) = length_after (set slots at (Some id)) moves ∙ length-set slots at (Some id)
length_after slots (Erase at ∷ moves) = length_after (set slots at None) moves ∙ length-set slots at None

pub length_back : (slots : Slots) (moves : List Move) → length (taken_back slots moves) ≡ length slots
length_back slots [] = refl
length_back slots (Put at id ∷ moves) = length-set (taken_back slots moves) at (Some id) ∙ length_back slots moves
length_back slots (Erase at ∷ moves) = length-set (taken_back slots moves) at None ∙ length_back slots moves

-- one move
pub noted_one : (slots slots' : Slots) (plan plan' undo undo' : List Move) (step : Move) → CanMake slots step → plan' ≡ plan ++ step ∷ [] → slots' ≡ after_move slots step → undo' ≡ undo ++ back_of slots step ∷ []
    → AreNoted slots slots' plan plan' undo undo'
noted_one slots slots' plan plan' undo undo' step can gained after noted = record { moves = step ∷ []; gained = gained; after = after; inside = (can_inside slots step can, tt); noted = noted }

-- some, and then others
pub noted_then : (a b c : Slots) (p q r u v w : List Move) → AreNoted a b p q u v → AreNoted b c q r v w → AreNoted a c p r u w
noted_then a b c p q r u v w x y = record {
  moves = x.moves ++ y.moves;
  gained = y.gained ∙ (ap (λ (z : List Move). z ++ y.moves) x.gained ∙ append_assoc p x.moves y.moves);
  after = y.after ∙ (ap (λ (s : Slots). after_moves s y.moves) x.after ∙ sym (after_append a x.moves y.moves));
  inside = all_append (IsInside (length a)) x.moves y.moves x.inside
      (subst (λ (count : ℕ). AllByRecursion (IsInside count) y.moves) (ap length x.after ∙ length_after a x.moves) y.inside);
  noted = y.noted ∙ (ap (λ (z : List Move). z ++ backs_of b y.moves) x.noted ∙ (append_assoc u (backs_of a x.moves) (backs_of b y.moves)
      ∙ ap (λ (z : List Move). u ++ z) (ap (λ (s : Slots). backs_of a x.moves ++ backs_of s y.moves) x.after ∙ sym (backs_append a x.moves y.moves))));
}

-- what a slot held is put there again
put_again : (slots : Slots) (at : ℕ) (held now : Option ℕ) → held ≡ slot slots at → after_move (set slots at now) (as_held at held) ≡ slots
put_again slots at None now is = set-set slots at now None ∙ (ap (set slots at) is ∙ set-get_or slots at None)
put_again slots at (Some id) now is = set-set slots at now (Some id) ∙ (ap (set slots at) is ∙ set-get_or slots at None)

back_one : (slots : Slots) (move : Move) → after_move (after_move slots move) (back_of slots move) ≡ slots
back_one slots (Put at id) = put_again slots at (slot slots at) (Some id) refl
back_one slots (Erase at) = put_again slots at (slot slots at) None refl

-- so undo moves lead back,
pub back_again : LeadBack
back_again slots [] = refl
back_again slots (move ∷ moves) = ap (λ (s : Slots). after_move s (back_of slots move)) (back_again (after_move slots move) moves) ∙ back_one slots move

-- and some behind others are made first
pub back_append : (slots : Slots) (moves more : List Move) → taken_back slots (moves ++ more) ≡ taken_back (taken_back slots more) moves
back_append slots [] more = refl
back_append slots (move ∷ moves) more = ap (λ (s : Slots). after_move s move) (back_append slots moves more)
