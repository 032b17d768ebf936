-- What a plan gains and notes, one part behind the other.
use Rattle.std.proofs.Common.{◌≡◌, ℕ, ◌+◌, ◌<◌, List, [], ◌∷◌, ◌++◌, length, map, take, get_or, refl, sym, ap, ◌∙◌, append-nil, append_assoc}
use Rattle.std.specs.List.{AllZip}
use Rattle.slot_pool.specs.Arrangement.{Slots}
use Rattle.placement.specs.declared.Move.{Move}
use Rattle.move_planner.proofs.Noted.{noted_none, noted_then}
use Rattle.commit_writes.specs.declared.Rewrite.{Rewrite}
use Rattle.batch_order.specs.declared.plan.Plan.{Plan}
use Rattle.batch_order.specs.declared.planned_writes.PlannedWrite.{PlannedWrite}
use Rattle.batch_order.specs.Noting.{AreNotedIn, GainsAtHome, IsAtHome, changed_ids, changes_back, put_at_home}
use Rattle.batch_order.proofs.arranged.Walked.{map_next, zip_next}

-- no insertion, and insertions behind others
pub notes_none : (slots : Slots) (plan : Plan) → AreNotedIn slots slots plan plan
notes_none slots plan = record {
  moves = noted_none slots plan.writes.moves plan.undo.moves;
  words = refl;
  changes = refl;
  undo_words = refl;
  undo_changes = refl;
}

pub notes_then : (a b c : Slots) (p q r : Plan) → AreNotedIn a b p q → AreNotedIn b c q r → AreNotedIn a c p r
notes_then a b c p q r x y = record {
  moves = noted_then a b c p.writes.moves q.writes.moves r.writes.moves p.undo.moves q.undo.moves r.undo.moves x.moves y.moves;
  words = y.words ∙ x.words;
  changes = y.changes ∙ x.changes;
  undo_words = y.undo_words ∙ x.undo_words;
  undo_changes = y.undo_changes ∙ x.undo_changes;
}

-- no change, one more, and changes behind others
pub gains_none : (slots : Slots) (planned : List PlannedWrite) → GainsAtHome slots [] planned planned
gains_none slots planned = record { more = []; gained = sym (append-nil planned); each = tt }

pub gains_more : (slots : Slots) (ids : List ℕ) (place id : ℕ) (one : PlannedWrite) (before now now' : List PlannedWrite) → place < length ids → get_or ids place id ≡ id
    → GainsAtHome slots (take place ids) before now → IsAtHome slots id one → now' ≡ now ++ one ∷ [] → GainsAtHome slots (take (place + 1) ids) before now'
gains_more slots ids place id one before now now' within is was at grown = record {
  more = was.more ++ one ∷ [];
  gained = grown ∙ (ap (λ (some : List PlannedWrite). some ++ one ∷ []) was.gained ∙ append_assoc before was.more (one ∷ []));
  each = zip_next (IsAtHome slots) ids was.more place id one within is was.each at;
}

both_zip : (slots : Slots) (first second : List ℕ) (some more : List PlannedWrite) → AllZip (IsAtHome slots) first some → AllZip (IsAtHome slots) second more → AllZip (IsAtHome slots) (first ++ second) (some ++ more)
both_zip slots [] second [] more one two = two
both_zip slots [] second (planned ∷ some) more one two = absurd one
both_zip slots (id ∷ first) second [] more one two = absurd one
both_zip slots (id ∷ first) second (planned ∷ some) more one two = (one.0, both_zip slots first second some more one.1 two)

pub gains_then : (slots : Slots) (first second : List ℕ) (before middle after : List PlannedWrite) → GainsAtHome slots first before middle → GainsAtHome slots second middle after
    → GainsAtHome slots (first ++ second) before after
gains_then slots first second before middle after x y = record {
  more = x.more ++ y.more;
  gained = y.gained ∙ (ap (λ (some : List PlannedWrite). some ++ y.more) x.gained ∙ append_assoc before x.more y.more);
  each = both_zip slots first second x.more y.more x.each y.each;
}

-- the moves of the first items, and one more
pub move_next : {A : Type 0} (f : A → Move) (xs : List A) (place : ℕ) (x : A) (move : Move) (before now now' : List Move) → place < length xs → get_or xs place x ≡ x → f x ≡ move
    → now ≡ before ++ map f (take place xs) → now' ≡ now ++ move ∷ [] → now' ≡ before ++ map f (take (place + 1) xs)
move_next f xs place x move before now now' within is one was more =
    more ∙ ap (λ some. some ++ move ∷ []) was ∙ append_assoc before (map f (take place xs)) (move ∷ [])
    ∙ ap (λ last. before ++ (map f (take place xs) ++ last ∷ [])) (sym one)
    ∙ ap (λ some. before ++ some) (sym (map_next f xs place x within is))

-- what puts back the changes, by all their ids
pub ids_back : (slots : Slots) (rewrites : List Rewrite) (erased : List ℕ) → changes_back slots rewrites erased ≡ map (put_at_home slots) (changed_ids rewrites erased)
ids_back slots [] erased = refl
ids_back slots (rewrite ∷ rewrites) erased = ap (λ (rest : List Move). put_at_home slots rewrite.id ∷ rest) (ids_back slots rewrites erased)
