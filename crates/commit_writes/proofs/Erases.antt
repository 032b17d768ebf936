-- Ids that go: the arrangement and the live ids without them, and the device after their writes.
use Rattle.std.proofs.Common.{◌≡◌, ◌≢◌, ℕ, true, not, set, None, Some, List, [], ◌∷◌, map, Contains, inl, inr, refl, sym, ◌∙◌, subst, ap}
use Rattle.std.specs.Prelude.{◌==◌, ◌↔◌, nat_eq}
use Rattle.std.specs.List.{IsDistinct}
use Rattle.std.proofs.lemmas.Bool.{cases_eq, eqb-true, eq-eqb, false_from_ne_true}
use Rattle.std.proofs.lemmas.List.{map-set}
use Rattle.slot_order.specs.Order.{slot, Ordered}
use Rattle.slot_moves.proofs.Once.{AllOnce}
use Rattle.slot_order.proofs.Lists.{contains_head, contains_tail, contains_cases, contains_none, in_filter, filter_in}
use Rattle.slot_order.proofs.Writes.{slot_same, slot_other, slot_inside, erase_keeps}
use Rattle.slot_pool.specs.Arrangement.{Slots}
use Rattle.placement.specs.declared.LivePiece.{LivePiece}
use Rattle.placement.specs.Live.{without_id}
use Rattle.placement.proofs.Above.{live_is, is_live_from}
use Rattle.placement.proofs.Live.{all_apart}
use Rattle.placement.specs.Insertion.{IsLive}
use Rattle.tcam_device.specs.State.{State, state_after}
use Rattle.commit_writes.specs.Planned.{IdEntries, held_entry, contents, with_slots}
use Rattle.commit_writes.specs.PlannedBatch.{home_slot, erase_write, erased_slots, erased_live}
use Rattle.commit_writes.proofs.Rewrites.{home_is}

-- what is live without an id
without_are : (live : List LivePiece) (id : ℕ) (one : LivePiece) → Contains (without_id live id) one ↔ (Contains live one × (one.id ≢ id))
without_are live id one = (to, from)
  where
    to : Contains (without_id live id) one → Contains live one × (one.id ≢ id)
    to member = let w = in_filter (λ (other : LivePiece). not (other.id == id)) live one member in (w.0, λ same. let e : (one.id == id) ≡ true = eq-eqb one.id id same in let n = w.1 in let k : not (one.id == id) ≡ not true = ap not e in cc)

    from : Contains live one × (one.id ≢ id) → Contains (without_id live id) one
    from w = filter_in (λ (other : LivePiece). not (other.id == id)) live one w.0 (ap not (false_from_ne_true (one.id == id) (λ e. w.1 (eqb-true one.id id e))))

-- and without some
pub in_erased : (live : List LivePiece) (ids : List ℕ) (one : LivePiece) → Contains (erased_live live ids) one → Contains live one × (Contains ids one.id → ⊥)
in_erased live [] one member = (member, λ none. contains_none one.id none)
in_erased live (id ∷ ids) one member =
    let w = in_erased (without_id live id) ids one member in
    let k = (without_are live id one).0 w.0 in
    (k.0, λ gone. elim (contains_cases id one.id ids gone) [ inl same ↦ k.1 (sym same) | inr later ↦ w.1 later ])

pub erased_in : (live : List LivePiece) (ids : List ℕ) (one : LivePiece) → Contains live one → (Contains ids one.id → ⊥) → Contains (erased_live live ids) one
erased_in live [] one member stays = member
erased_in live (id ∷ ids) one member stays =
    erased_in (without_id live id) ids one
    ((without_are live id one).1 (member, λ same. stays (subst (Contains (id ∷ ids)) (sym same) (contains_head id ids))))
    (λ later. stays (contains_tail id one.id ids later))

-- an id is live then where it was and didn't go
live_without : (live : List LivePiece) (id other : ℕ) → IsLive (without_id live id) other ↔ (IsLive live other × (other ≢ id))
live_without live id other = (to, from)
  where
    to : IsLive (without_id live id) other → IsLive live other × (other ≢ id)
    to is = let w = live_is (without_id live id) other is in let k = (without_are live id w.0).0 w.1 in
        (subst (IsLive live) w.2 (is_live_from live w.0 k.0), λ same. k.1 (w.2 ∙ same))

    from : IsLive live other × (other ≢ id) → IsLive (without_id live id) other
    from both = let w = live_is live other both.0 in
        subst (IsLive (without_id live id)) w.2 (is_live_from (without_id live id) w.0 ((without_are live id w.0).1 (w.1, λ same. both.1 (sym w.2 ∙ same))))

-- some ids stand once each
pub record CanErase (slots : Slots) (ids : List ℕ) : Type 0 where
  pub once : AllOnce slots
  pub placed : (id : ℕ) → Contains ids id → (at : ℕ) × (slot slots at ≡ Some id)
  pub distinct : IsDistinct nat_eq ids

-- one id goes: the others stay where they are
record IsErased (slots : Slots) (id : ℕ) (after : Slots) : Type 0 where
  at : ℕ
  stood : slot slots at ≡ Some id
  is : after ≡ set slots at None
  once : AllOnce after
  kept : (place other : ℕ) → other ≢ id → slot slots place ≡ Some other → slot after place ≡ Some other

erase : (slots : Slots) (id : ℕ) (ids : List ℕ) → CanErase slots (id ∷ ids) → IsErased slots id (set slots (home_slot slots id) None)
erase slots id ids can = record {
  at = w.0;
  stood = w.1;
  is = ap (λ at. set slots at None) same;
  once = λ i j a x y. can.once i j a (off i a x) (off j a y);
  kept = λ place other n s. subst (λ (now : Slots). slot now place ≡ Some other) (sym (ap (λ at. set slots at None) same))
      (slot_other slots w.0 None place (λ k. n (let e : Some other ≡ Some id = sym s ∙ (ap (slot slots) k ∙ w.1) in cc)) ∙ s);
}
  where
    w : (at : ℕ) × (slot slots at ≡ Some id)
    w = can.placed id (contains_head id ids)

    same : home_slot slots id ≡ w.0
    same = home_is slots id w.0 can.once w.1

    off : (i a : ℕ) → slot (set slots (home_slot slots id) None) i ≡ Some a → slot slots i ≡ Some a
    off i a x =
        let y : slot (set slots w.0 None) i ≡ Some a = subst (λ at. slot (set slots at None) i ≡ Some a) same x in
        elim (cases_eq i w.0) [
          | inl k ↦ absurd (let z : None ≡ Some a = sym (slot_same slots w.0 None (slot_inside slots w.0 id w.1)) ∙ (sym (ap (slot (set slots w.0 None)) k) ∙ y) in cc)
          | inr n ↦ sym (slot_other slots w.0 None i n) ∙ y
        ]

-- a later one is none that goes now
apart_from : (id other : ℕ) (ids : List ℕ) → IsDistinct nat_eq (id ∷ ids) → Contains ids other → other ≢ id
unfolding IsDistinct
apart_from id other ids distinct member same = all_apart id ids distinct.0 (subst (Contains ids) same member)

can_go_on : (slots : Slots) (id : ℕ) (ids : List ℕ) → CanErase slots (id ∷ ids) → CanErase (set slots (home_slot slots id) None) ids
unfolding IsDistinct
can_go_on slots id ids can =
    let gone = erase slots id ids can in record {
      once = gone.once;
      placed = λ other member. let w = can.placed other (contains_tail id other ids member) in (w.0, gone.kept w.0 other (apart_from id other ids can.distinct member) w.1);
      distinct = can.distinct.1;
    }

-- the writes of some erases leave the arrangement without their ids
erased_from : (state : State) (entries : IdEntries) (was now : Slots) (ids : List ℕ) → CanErase now ids → ((id : ℕ) → Contains ids id → home_slot was id ≡ home_slot now id)
    → state_after (with_slots state (contents entries now)) (map (erase_write was) ids) ≡ with_slots state (contents entries (erased_slots now ids))
erased_from state entries was now [] can same = refl
erased_from state entries was now (id ∷ ids) can same =
    ap (λ slots. state_after (with_slots state slots) (map (erase_write was) ids)) here
    ∙ erased_from state entries was (set now (home_slot now id) None) ids (can_go_on now id ids can) stays
  where
    gone : IsErased now id (set now (home_slot now id) None)
    gone = erase now id ids can

    here : set (contents entries now) (home_slot was id) None ≡ contents entries (set now (home_slot now id) None)
    here = ap (λ at. set (contents entries now) at None) (same id (contains_head id ids)) ∙ sym (map-set (held_entry entries) now (home_slot now id) None)

    stays : (other : ℕ) → Contains ids other → home_slot was other ≡ home_slot (set now (home_slot now id) None) other
    stays other member =
        let w = can.placed other (contains_tail id other ids member) in
        same other (contains_tail id other ids member) ∙ (home_is now other w.0 can.once w.1
        ∙ sym (home_is (set now (home_slot now id) None) other w.0 gone.once (gone.kept w.0 other (apart_from id other ids can.distinct member) w.1)))

pub erased_state : (state : State) (entries : IdEntries) (slots : Slots) (ids : List ℕ) → CanErase slots ids
    → state_after (with_slots state (contents entries slots)) (map (erase_write slots) ids) ≡ with_slots state (contents entries (erased_slots slots ids))
erased_state state entries slots ids can = erased_from state entries slots slots ids can (λ id member. refl)

-- and that is in order for the others, which stand once
pub erased_ordered : (over : ℕ → ℕ → Type 0) (tag : ℕ → ℕ) (live : List LivePiece) (slots : Slots) (ids : List ℕ) → CanErase slots ids
    → Ordered over tag (IsLive live) slots → Ordered over tag (IsLive (erased_live live ids)) (erased_slots slots ids) × AllOnce (erased_slots slots ids)
erased_ordered over tag live slots [] can o = (o, can.once)
erased_ordered over tag live slots (id ∷ ids) can o =
    erased_ordered over tag (without_id live id) (set slots (home_slot slots id) None) ids (can_go_on slots id ids can)
    (subst (Ordered over tag (IsLive (without_id live id))) (sym gone.is)
    (erase_keeps over tag (IsLive live) (IsLive (without_id live id)) slots gone.at o (slot_inside slots gone.at id gone.stood) other placed))
  where
    gone : IsErased slots id (set slots (home_slot slots id) None)
    gone = erase slots id ids can

    other : (i g : ℕ) → i ≢ gone.at → slot slots i ≡ Some g → IsLive (without_id live id) g
    other i g n s = (live_without live id g).1 (o.within i g s, λ same. n (can.once i gone.at g s (gone.stood ∙ ap Some (sym same))))

    placed : (g : ℕ) → IsLive (without_id live id) g → (i : ℕ) × (i ≢ gone.at) × (slot slots i ≡ Some g)
    placed g is = let both = (live_without live id g).0 is in let w = o.placed g both.0 in
        (w.0, λ same. both.1 (let e : Some g ≡ Some id = sym w.1 ∙ (ap (slot slots) same ∙ gone.stood) in cc), w.1)
