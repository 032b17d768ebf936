-- What is told of where ids stand, as they come, go and move.
use Rattle.std.proofs.Common.{◌≡◌, ◌≢◌, ℕ, ◌⊎◌, true, false, Option, Some, None, List, [], ◌∷◌, ◌++◌, length, drop, inl, inr, refl, sym, ◌∙◌, ap, subst}
use Rattle.std.specs.Prelude.{◌==◌, not, slice_set}
use Rattle.std.proofs.Math.Seq.{drop-append_seam}
use Rattle.std.proofs.lemmas.Bool.{both_ways, cases_Bool, cases_eq, cases_lt, eq-eqb, false_from_ne_true, not-true}
use Rattle.std.proofs.lemmas.List.{get_or-set_same, get_or-set_other, get_or_past, set_past}
use Rattle.std.proofs.lemmas.List.Elements.{Contains-push_cases}
use Rattle.slot_order.specs.Order.{slot}
use Rattle.slot_order.proofs.Lists.{contains_cases, contains_none, in_filter}
use Rattle.slot_pool.specs.Arrangement.{Slots, home_of, passes}
use Rattle.slot_pool.proofs.Finds.{found_none}
use Rattle.slot_pool.proofs.SlotSums.{passes_is}
use Rattle.placement.specs.declared.LivePiece.{LivePiece}
use Rattle.placement.specs.declared.Move.{Move}
use Rattle.placement.specs.declared.Move.TheVariants.{Put, Erase}
use Rattle.placement.specs.Live.{Homes, IsToldAt, MayTell, home_in, is_live, without_id}
use Rattle.placement.specs.Placement.{after_move}
use Rattle.placement.specs.Ready.{AreToldBut}
use Rattle.placement.proofs.Above.{is_live_from, live_is}
use Rattle.move_planner.specs.Noted.{AreNoted, IsNamed, backs_of, held_at}
use Rattle.move_planner.proofs.Told.{home_other, unnamed}
use Rattle.batch_order.specs.Entries.{AreFollowed, AreTold, Entries, StayTold}

-- an id is live no more
gone_live : (live : List LivePiece) (id other : ℕ) → is_live (without_id live id) other ≡ true → (is_live live other ≡ true) × (other ≢ id)
gone_live live id other is =
    let one = live_is (without_id live id) other is in
    let kept = in_filter (λ (x : LivePiece). not (x.id == id)) live one.0 one.1 in
    (subst (λ k. is_live live k ≡ true) one.2 (is_live_from live one.0 kept.0), λ same. both_ways (one.0.id == id) (not-true _ kept.1) (eq-eqb one.0.id id (one.2 ∙ same)))

pub told_forgot : (old new : Entries) (id : ℕ) → new.live ≡ without_id old.live id → MayTell old.told id new.told → StayTold old new
told_forgot old new id live_is may slots told homes is other live closed =
    let was = gone_live old.live id other (subst (λ l. is_live l other ≡ true) live_is live) in
    elim may [
      | inl none ↦ absurd (cc (none, is))
      | inr kept ↦
          let same : slice_set kept.0 id None ≡ homes = cc (kept.2, is) in
          subst (λ h. home_in h other ≡ home_of slots other) same (get_or-set_other kept.0 id other None None was.1 ∙ told kept.0 kept.1 other was.0 closed)
    ]

-- an id that stands nowhere becomes live
set_none : (homes : Homes) (id : ℕ) → home_in (slice_set homes id None) id ≡ None
set_none homes id = elim (cases_lt id (length homes)) [
  | inl inside ↦ get_or-set_same homes id None None inside
  | inr past ↦ ap (λ (h : Homes). home_in h id) (set_past homes id None past) ∙ get_or_past homes id None past
]

old_live : (live : List LivePiece) (one : LivePiece) (other : ℕ) → is_live (live ++ one ∷ []) other ≡ true → other ≢ one.id → is_live live other ≡ true
old_live live one other is off =
    let found = live_is (live ++ one ∷ []) other is in
    elim (Contains-push_cases live one found.0 found.1) [
      | inl there ↦ subst (λ k. is_live live k ≡ true) found.2 (is_live_from live found.0 there)
      | inr last ↦ absurd (off (sym found.2 ∙ sym (ap (λ (x : LivePiece). x.id) last)))
    ]

pub told_added : (old new : Entries) (slots : Slots) (one : LivePiece) → new.live ≡ old.live ++ one ∷ [] → MayTell old.told one.id new.told → home_of slots one.id ≡ None → AreTold old slots → AreTold new slots
told_added old new slots one live_is_more may none told homes is other live closed =
    elim may [
      | inl nothing ↦ absurd (cc (nothing, is))
      | inr kept ↦
          let same : slice_set kept.0 one.id None ≡ homes = cc (kept.2, is) in
          subst (λ h. home_in h other ≡ home_of slots other) same (elim (cases_eq other one.id) [
            | inl here ↦ subst (λ k. home_in (slice_set kept.0 one.id None) k ≡ home_of slots k) (sym here) (set_none kept.0 one.id ∙ sym none)
            | inr off ↦ get_or-set_other kept.0 one.id other None None off ∙ told kept.0 kept.1 other (old_live old.live one other (subst (λ l. is_live l other ≡ true) live_is_more live) off) closed
          ])
    ]

-- an id is told where it stands
pub told_at : (Open : ℕ → Type 0) (live : List LivePiece) (was now : Option Homes) (slots : Slots) (id : ℕ) → IsToldAt was id (home_of slots id) now
    → AreToldBut (λ other. Open other ⊎ (other ≡ id)) live was slots → AreToldBut Open live now slots
told_at Open live was now slots id at told homes is other live_other closed =
    let k = at homes is in
    elim (cases_eq other id) [
      | inl same ↦ subst (λ n. home_in homes n ≡ home_of slots n) (sym same) k.2
      | inr off ↦ k.3 other off ∙ told k.0 k.1 other live_other (λ e. elim e [ inl still ↦ closed still | inr same ↦ off same ])
    ]

-- one that isn't live needs none
pub told_dead : (Open : ℕ → Type 0) (live : List LivePiece) (told : Option Homes) (slots : Slots) (id : ℕ) → is_live live id ≡ false
    → AreToldBut (λ other. Open other ⊎ (other ≡ id)) live told slots → AreToldBut Open live told slots
told_dead Open live told slots id dead are homes is other live_other closed =
    are homes is other live_other (λ e. elim e [
      | inl still ↦ closed still
      | inr same ↦ both_ways (is_live live id) dead (subst (λ k. is_live live k ≡ true) same live_other)
    ])

-- moves were made: of each id that neither they nor what puts them back name it is told still
pub told_noted : (live : List LivePiece) (told : Option Homes) (slots slots' : Slots) (plan plan' undo undo' : List Move) (noted : AreNoted slots slots' plan plan' undo undo') → AreToldBut (λ id. ⊥) live told slots
    → AreToldBut (λ id. IsNamed (backs_of slots noted.moves) id ⊎ IsNamed noted.moves id) live told slots'
told_noted live told slots slots' plan plan' undo undo' noted are homes is id live_id closed =
    are homes is id live_id (λ none. none)
    ∙ sym (ap (λ (s : Slots). home_of s id) noted.after ∙ unnamed slots noted.moves id (λ n. closed (inr n)) (λ n. closed (inl n)))

-- a slot was written: only of what left it and what came into it a home changed
pub told_moved : (live : List LivePiece) (told : Option Homes) (slots : Slots) (at : ℕ) (new : Option ℕ) → AreToldBut (λ id. ⊥) live told slots
    → AreToldBut (λ id. (new ≡ Some id) ⊎ (slot slots at ≡ Some id)) live told (slice_set slots at new)
told_moved live told slots at new are homes is id live_id closed =
    are homes is id live_id (λ none. none) ∙ sym (home_other slots at id new (λ was. closed (inr was)) (λ now. closed (inl now)))

-- an id that no slot holds has no home
pub no_home : (slots : Slots) (id : ℕ) → ((at : ℕ) → slot slots at ≡ Some id → ⊥) → home_of slots id ≡ None
no_home slots id none = found_none (λ at. passes (λ other. other == id) (slot slots at)) 0 (length slots) (λ j low high. false_from_ne_true _ (λ e. none j (passes_is (slot slots j) id e)))

-- where less is told too, what is told of the others stands
pub told_but : (A B : ℕ → Type 0) (live : List LivePiece) (told : Option Homes) (slots : Slots) → ((id : ℕ) → A id → B id) → AreToldBut A live told slots → AreToldBut B live told slots
told_but A B live told slots wider are homes is id live_id closed = are homes is id live_id (λ here. closed (wider id here))

-- an id is told where it stands, if it is live
pub told_of : (Open : ℕ → Type 0) (live : List LivePiece) (was now : Option Homes) (slots : Slots) (id : ℕ) → (is_live live id ≡ true → IsToldAt was id (home_of slots id) now) → (is_live live id ≡ false → now ≡ was)
    → AreToldBut (λ other. Open other ⊎ (other ≡ id)) live was slots → AreToldBut Open live now slots
told_of Open live was now slots id at same are = elim (cases_Bool (is_live live id)) [
  | inl lives ↦ told_at Open live was now slots id (at lives) are
  | inr dead ↦ subst (λ (told : Option Homes). AreToldBut Open live told slots) (sym (same dead)) (told_dead Open live was slots id dead are)
]

-- a slot was written where nothing else came or left but an id, which is told then
pub told_written : (live : List LivePiece) (was now : Option Homes) (slots : Slots) (at : ℕ) (new : Option ℕ) (id : ℕ) → ((other : ℕ) → (new ≡ Some other) ⊎ (slot slots at ≡ Some other) → other ≡ id)
    → (is_live live id ≡ true → IsToldAt was id (home_of (slice_set slots at new) id) now) → (is_live live id ≡ false → now ≡ was)
    → AreToldBut (λ other. ⊥) live was slots → AreToldBut (λ other. ⊥) live now (slice_set slots at new)
told_written live was now slots at new id alone here same are =
    told_of (λ other. ⊥) live was now (slice_set slots at new) id here same
    (told_but (λ other. (new ≡ Some other) ⊎ (slot slots at ≡ Some other)) (λ other. ⊥ ⊎ (other ≡ id)) live was (slice_set slots at new) (λ other either. inr (alone other either)) (told_moved live was slots at new are))

-- moves name an id first, or behind the first
named_next : (at id : ℕ) (moves : List Move) (other : ℕ) → IsNamed (Put at id ∷ moves) other → IsNamed moves other ⊎ (other ≡ id)
named_next at id moves other named = elim (contains_cases (Put at id) (Put named.0 other) moves named.1) [
  | inl same ↦ inr (let one : other ≡ id = cc (same) in one)
  | inr later ↦ inl (named.0, later)
]

erase_next : (at : ℕ) (moves : List Move) (other : ℕ) → IsNamed (Erase at ∷ moves) other → IsNamed moves other
erase_next at moves other named = elim (contains_cases (Erase at) (Put named.0 other) moves named.1) [
  | inl same ↦ absurd (cc (same))
  | inr later ↦ (named.0, later)
]

-- of the moves from a place on the first one's id is told, if it has one
pub told_put : (others moves : List Move) (at id : ℕ) (live : List LivePiece) (was now : Option Homes) (slots : Slots) → (is_live live id ≡ true → IsToldAt was id (home_of slots id) now) → (is_live live id ≡ false → now ≡ was)
    → AreToldBut (λ other. IsNamed others other ⊎ IsNamed (Put at id ∷ moves) other) live was slots → AreToldBut (λ other. IsNamed others other ⊎ IsNamed moves other) live now slots
told_put others moves at id live was now slots here same are =
    told_of (λ other. IsNamed others other ⊎ IsNamed moves other) live was now slots id here same
    (told_but (λ other. IsNamed others other ⊎ IsNamed (Put at id ∷ moves) other) (λ other. (IsNamed others other ⊎ IsNamed moves other) ⊎ (other ≡ id)) live was slots wider are)
  where
    wider : (other : ℕ) → IsNamed others other ⊎ IsNamed (Put at id ∷ moves) other → (IsNamed others other ⊎ IsNamed moves other) ⊎ (other ≡ id)
    wider other (inl before) = inl (inl before)
    wider other (inr named) = elim (named_next at id moves other named) [ inl later ↦ inl (inr later) | inr one ↦ inr one ]

pub told_erase : (others moves : List Move) (at : ℕ) (live : List LivePiece) (told : Option Homes) (slots : Slots)
    → AreToldBut (λ other. IsNamed others other ⊎ IsNamed (Erase at ∷ moves) other) live told slots → AreToldBut (λ other. IsNamed others other ⊎ IsNamed moves other) live told slots
told_erase others moves at live told slots are =
    told_but (λ other. IsNamed others other ⊎ IsNamed (Erase at ∷ moves) other) (λ other. IsNamed others other ⊎ IsNamed moves other) live told slots wider are
  where
    wider : (other : ℕ) → IsNamed others other ⊎ IsNamed (Erase at ∷ moves) other → IsNamed others other ⊎ IsNamed moves other
    wider other (inl before) = inl before
    wider other (inr named) = inr (erase_next at moves other named)

-- no move names an id
none_named : (id : ℕ) → IsNamed [] id → ⊥
none_named id named = contains_none (Put named.0 id) named.1

-- with no move left of those that are told nothing is open but the others
pub told_all : (others : List Move) (live : List LivePiece) (told : Option Homes) (slots : Slots) → AreToldBut (λ other. IsNamed others other ⊎ IsNamed [] other) live told slots → AreToldBut (IsNamed others) live told slots
told_all others live told slots are =
    told_but (λ other. IsNamed others other ⊎ IsNamed [] other) (IsNamed others) live told slots (λ other either. elim either [ inl before ↦ before | inr none ↦ absurd (none_named other none) ]) are

-- moves were made, and both what they put and what puts them back are told
pub told_followed : (old one two : Entries) (slots slots' : Slots) (plan plan' undo undo' : List Move) (noted : AreNoted slots slots' plan plan' undo undo') → AreTold old slots
    → AreFollowed old one slots' (drop (length plan) plan') → AreFollowed one two slots' (drop (length undo) undo') → AreTold two slots'
told_followed old one two slots slots' plan plan' undo undo' noted are first second =
    told_but (IsNamed []) (λ id. ⊥) two.live two.told slots' none_named
    (second [] (told_but (IsNamed (backs_of slots noted.moves)) (λ id. IsNamed [] id ⊎ IsNamed (drop (length undo) undo') id) one.live one.told slots' (λ id named. inr (subst (λ (moves : List Move). IsNamed moves id) (sym back) named))
    (first (backs_of slots noted.moves)
    (subst (λ (moves : List Move). AreToldBut (λ id. IsNamed (backs_of slots noted.moves) id ⊎ IsNamed moves id) old.live old.told slots') (sym made) (told_noted old.live old.told slots slots' plan plan' undo undo' noted are)))))
  where
    made : drop (length plan) plan' ≡ noted.moves
    made = ap (drop (length plan)) noted.gained ∙ drop-append_seam plan noted.moves

    back : drop (length undo) undo' ≡ backs_of slots noted.moves
    back = ap (drop (length undo)) noted.noted ∙ drop-append_seam undo (backs_of slots noted.moves)

-- a move was made: nothing is open but what its slot held and what it holds
set_held : (slots : Slots) (at : ℕ) (new : Option ℕ) (live : List LivePiece) (told : Option Homes) → AreToldBut (λ id. ⊥) live told slots
    → AreToldBut (λ id. (slot (slice_set slots at new) at ≡ Some id) ⊎ (slot slots at ≡ Some id)) live told (slice_set slots at new)
set_held slots at new live told are = elim (cases_lt at (length slots)) [
  | inl inside ↦ subst (λ (held : Option ℕ). AreToldBut (λ id. (held ≡ Some id) ⊎ (slot slots at ≡ Some id)) live told (slice_set slots at new)) (sym (get_or-set_same slots at new None inside)) (told_moved live told slots at new are)
  | inr past ↦ told_but (λ id. ⊥) (λ id. (slot (slice_set slots at new) at ≡ Some id) ⊎ (slot slots at ≡ Some id)) live told (slice_set slots at new) (λ id none. absurd none)
      (subst (λ (s : Slots). AreToldBut (λ id. ⊥) live told s) (sym (set_past slots at new past)) are)
]

pub told_made : (slots : Slots) (step : Move) (live : List LivePiece) (told : Option Homes) → AreToldBut (λ id. ⊥) live told slots
    → AreToldBut (λ id. (held_at (after_move slots step) step ≡ Some id) ⊎ (held_at slots step ≡ Some id)) live told (after_move slots step)
told_made slots (Put at id) live told are = set_held slots at (Some id) live told are
told_made slots (Erase at) live told are = set_held slots at None live told are

-- nothing is open where it is what no slot holds
pub told_none : (live : List LivePiece) (told : Option Homes) (slots : Slots) → AreToldBut (λ id. None ≡ Some id) live told slots → AreToldBut (λ id. ⊥) live told slots
told_none live told slots are = told_but (λ id. None ≡ Some id) (λ id. ⊥) live told slots (λ id same. absurd (cc (same))) are

-- what came into a slot is told behind what left it
pub told_came : (came : Option ℕ) (live : List LivePiece) (told : Option Homes) (slots : Slots) → AreToldBut (λ id. came ≡ Some id) live told slots → AreToldBut (λ id. (None ≡ Some id) ⊎ (came ≡ Some id)) live told slots
told_came came live told slots are = told_but (λ id. came ≡ Some id) (λ id. (None ≡ Some id) ⊎ (came ≡ Some id)) live told slots (λ id same. inr same) are

-- what is told of the same ids is right of the same ids
pub told_same : (old new : Entries) (slots : Slots) → new.live ≡ old.live → new.told ≡ old.told → AreTold old slots → AreTold new slots
told_same old new slots same still are =
    subst (λ (live : List LivePiece). AreToldBut (λ id. ⊥) live new.told slots) (sym same) (subst (λ (told : Option Homes). AreToldBut (λ id. ⊥) old.live told slots) (sym still) are)

-- with no id live nothing is told wrong
pub told_empty : (kept : Entries) (slots : Slots) → kept.live ≡ [] → AreTold kept slots
told_empty kept slots none homes is id live closed = absurd (let clash : false ≡ true = subst (λ (l : List LivePiece). is_live l id ≡ true) none live in cc)

-- an id was erased where it stands, and told
pub told_gone : (old new : Entries) (slots slots' : Slots) (at id : ℕ) → slot slots at ≡ Some id → slots' ≡ slice_set slots at None → new.live ≡ old.live
    → (is_live old.live id ≡ true → IsToldAt old.told id (home_of slots' id) new.told) → (is_live old.live id ≡ false → new.told ≡ old.told) → AreTold old slots → AreTold new slots'
told_gone old new slots slots' at id here erased live told same are =
    subst (λ (s : Slots). AreTold new s) (sym erased) (subst (λ (l : List LivePiece). AreToldBut (λ other. ⊥) l new.told (slice_set slots at None)) (sym live)
    (told_written old.live old.told new.told slots at None id alone (subst (λ (s : Slots). is_live old.live id ≡ true → IsToldAt old.told id (home_of s id) new.told) erased told) same are))
  where
    alone : (other : ℕ) → (None ≡ Some other) ⊎ (slot slots at ≡ Some other) → other ≡ id
    alone other (inl none) = absurd (cc (none))
    alone other (inr there) = let both : Some other ≡ Some id = sym there ∙ here in let one : other ≡ id = cc in one

-- an id that is live was put into an empty slot, and told
pub told_placed : (old new : Entries) (slots slots' : Slots) (at id : ℕ) → slot slots at ≡ None → slots' ≡ slice_set slots at (Some id) → new.live ≡ old.live
    → (is_live old.live id ≡ true → IsToldAt old.told id (home_of slots' id) new.told) → (is_live old.live id ≡ false → new.told ≡ old.told) → AreTold old slots → AreTold new slots'
told_placed old new slots slots' at id free put live told same are =
    subst (λ (s : Slots). AreTold new s) (sym put) (subst (λ (l : List LivePiece). AreToldBut (λ other. ⊥) l new.told (slice_set slots at (Some id))) (sym live)
    (told_written old.live old.told new.told slots at (Some id) id alone (subst (λ (s : Slots). is_live old.live id ≡ true → IsToldAt old.told id (home_of s id) new.told) put told) same are))
  where
    alone : (other : ℕ) → (Some id ≡ Some other) ⊎ (slot slots at ≡ Some other) → other ≡ id
    alone other (inl one) = cc (one)
    alone other (inr there) = let clash : None ≡ Some other = sym free ∙ there in absurd (cc)

-- an index that has the same ids and was told the same is told
pub told_in : (kept : Entries) (live : List LivePiece) (told : Option Homes) (slots : Slots) → live ≡ kept.live → told ≡ kept.told → AreTold kept slots → AreToldBut (λ id. ⊥) live told slots
told_in kept live told slots same still are =
    subst (λ (l : List LivePiece). AreToldBut (λ id. ⊥) l told slots) (sym same) (subst (λ (t : Option Homes). AreToldBut (λ id. ⊥) kept.live t slots) (sym still) are)

-- a move that puts nothing names no id
pub told_over : (others moves : List Move) (step : Move) (live : List LivePiece) (told : Option Homes) (slots : Slots) → ((at id : ℕ) → step ≡ Put at id → ⊥)
    → AreToldBut (λ other. IsNamed others other ⊎ IsNamed (step ∷ moves) other) live told slots → AreToldBut (λ other. IsNamed others other ⊎ IsNamed moves other) live told slots
told_over others moves (Put at id) live told slots none are = absurd (none at id refl)
told_over others moves (Erase at) live told slots none are = told_erase others moves at live told slots are

-- a move was made back, and both what left its slot and what came are told
pub told_back : (old one two : Entries) (slots slots' : Slots) (step : Move) (left came : Option ℕ) → slots' ≡ after_move slots step → left ≡ held_at slots step → came ≡ held_at slots' step
    → ((other : Option ℕ) → AreToldBut (λ id. (other ≡ Some id) ⊎ (left ≡ Some id)) old.live old.told slots' → AreToldBut (λ id. other ≡ Some id) one.live one.told slots')
    → ((other : Option ℕ) → AreToldBut (λ id. (other ≡ Some id) ⊎ (came ≡ Some id)) one.live one.told slots' → AreToldBut (λ id. other ≡ Some id) two.live two.told slots')
    → AreTold old slots → AreTold two slots'
told_back old one two slots slots' step left came made left_is came_is first second are =
    told_none two.live two.told slots' (second None (told_came came one.live one.told slots' (first came
    (subst (λ (s : Slots). AreToldBut (λ id. (came ≡ Some id) ⊎ (left ≡ Some id)) old.live old.told s) (sym made)
    (subst (λ (held : Option ℕ). AreToldBut (λ id. (held ≡ Some id) ⊎ (left ≡ Some id)) old.live old.told (after_move slots step)) (sym (came_is ∙ ap (λ (s : Slots). held_at s step) made))
    (subst (λ (held : Option ℕ). AreToldBut (λ id. (held_at (after_move slots step) step ≡ Some id) ⊎ (held ≡ Some id)) old.live old.told (after_move slots step)) (sym left_is)
    (told_made slots step old.live old.told are)))))))

-- an id is told beside another, or none is
pub told_some : (other : Option ℕ) (live : List LivePiece) (was now : Option Homes) (slots : Slots) (id : ℕ) → (is_live live id ≡ true → IsToldAt was id (home_of slots id) now) → (is_live live id ≡ false → now ≡ was)
    → AreToldBut (λ one. (other ≡ Some one) ⊎ (Some id ≡ Some one)) live was slots → AreToldBut (λ one. other ≡ Some one) live now slots
told_some other live was now slots id here same are =
    told_of (λ one. other ≡ Some one) live was now slots id here same
    (told_but (λ one. (other ≡ Some one) ⊎ (Some id ≡ Some one)) (λ one. (other ≡ Some one) ⊎ (one ≡ id)) live was slots wider are)
  where
    wider : (one : ℕ) → (other ≡ Some one) ⊎ (Some id ≡ Some one) → (other ≡ Some one) ⊎ (one ≡ id)
    wider one (inl before) = inl before
    wider one (inr named) = inr (let both : one ≡ id = cc (named) in both)

pub told_nothing : (other : Option ℕ) (live : List LivePiece) (told : Option Homes) (slots : Slots) → AreToldBut (λ one. (other ≡ Some one) ⊎ (None ≡ Some one)) live told slots → AreToldBut (λ one. other ≡ Some one) live told slots
told_nothing other live told slots are = told_but (λ one. (other ≡ Some one) ⊎ (None ≡ Some one)) (λ one. other ≡ Some one) live told slots less are
  where
    less : (one : ℕ) → (other ≡ Some one) ⊎ (None ≡ Some one) → other ≡ Some one
    less one (inl before) = before
    less one (inr none) = absurd (cc (none))

-- the same of all entries: of what a move puts,
pub followed_put : (others moves : List Move) (at id : ℕ) (old new : Entries) (slots : Slots) → new.live ≡ old.live → (is_live old.live id ≡ true → IsToldAt old.told id (home_of slots id) new.told) → (is_live old.live id ≡ false → new.told ≡ old.told)
    → AreToldBut (λ other. IsNamed others other ⊎ IsNamed (Put at id ∷ moves) other) old.live old.told slots → AreToldBut (λ other. IsNamed others other ⊎ IsNamed moves other) new.live new.told slots
followed_put others moves at id old new slots live here same are =
    subst (λ (l : List LivePiece). AreToldBut (λ other. IsNamed others other ⊎ IsNamed moves other) l new.told slots) (sym live) (told_put others moves at id old.live old.told new.told slots here same are)

-- and of one id beside another
pub followed_some : (other : Option ℕ) (id : ℕ) (old new : Entries) (slots : Slots) → new.live ≡ old.live → (is_live old.live id ≡ true → IsToldAt old.told id (home_of slots id) new.told) → (is_live old.live id ≡ false → new.told ≡ old.told)
    → AreToldBut (λ one. (other ≡ Some one) ⊎ (Some id ≡ Some one)) old.live old.told slots → AreToldBut (λ one. other ≡ Some one) new.live new.told slots
followed_some other id old new slots live here same are =
    subst (λ (l : List LivePiece). AreToldBut (λ one. other ≡ Some one) l new.told slots) (sym live) (told_some other old.live old.told new.told slots id here same are)
