-- Ids that are given to the pieces in the slots, slot by slot.
use Rattle.std.proofs.Common.{◌≡◌, ℕ, ◌+◌, ◌<◌, ◌≢◌, Option, Some, None, List, [], ◌∷◌, ◌++◌, true, false, Contains, length, inl, inr, refl, sym, ◌∙◌, subst, ap, arith, length-append, length-set}
use Rattle.std.specs.Prelude.{slice_set}
use Rattle.std.proofs.lemmas.Bool.{cases_eq}
use Rattle.std.proofs.lemmas.List.Elements.{Contains-append_left, Contains-append_right, Contains-append_cases}
use Rattle.slot_order.specs.Order.{slot}
use Rattle.slot_order.proofs.Lists.{contains_cases, contains_head, contains_none}
use Rattle.slot_order.proofs.Writes.{slot_same, slot_other}
use Rattle.slot_pool.specs.Arrangement.{Slots}
use Rattle.rule_model.specs.Entry.{RankedPiece, entry_for}
use Rattle.placement.specs.declared.LivePiece.{LivePiece}
use Rattle.placement.specs.Live.{is_live}
use Rattle.placement.proofs.Above.{is_live_from}
use Rattle.commit_writes.specs.Planned.{IdEntries, entry_at}
use Rattle.batch_order.specs.Entries.{Entries}
use Rattle.batch_order.specs.Standing.{AreStanding, StandsFor}
use Rattle.batch_order.proofs.arranged.Entered.{kept_set}

-- a slot without a piece gets none
pub placed_over : (count : ℕ) (places : List (Option RankedPiece)) (kept : Entries) (slots : Slots) → AreStanding count places kept slots → slot places count ≡ None → AreStanding (count + 1) places kept slots
placed_over count places kept slots is none = record {
  size = is.size;
  few = (let f = is.few in omega arith);
  stands = λ at id here. let w = is.stands at id here in let below = w.0 in (omega arith, w.1, w.2, w.3);
  placed = λ at ranked below here. elim (cases_eq at count) [
    | inl same ↦ absurd (let clash : Some ranked ≡ None = sym here ∙ (ap (slot places) same ∙ none) in cc)
    | inr other ↦ is.placed at ranked (omega arith) here
  ];
  of_live = is.of_live;
  once = is.once;
}

-- one with a piece gets a new id
module _ (count : ℕ) (places : List (Option RankedPiece)) (kept kept' : Entries) (slots slots' : Slots) (ranked : RankedPiece) (one : LivePiece)
    (is : AreStanding count places kept slots) (place : slot places count ≡ Some ranked) (inside : count < length slots)
    (piece : one.piece ≡ ranked.piece) (rank : one.rank ≡ ranked.rank) (absent : is_live kept.live one.id ≡ false)
    (live_is : kept'.live ≡ kept.live ++ one ∷ []) (entries_are : kept'.entries ≡ slice_set kept.entries one.id (Some (entry_for ranked)))
    (entry : entry_at kept'.entries one.id ≡ Some (entry_for ranked)) (same : kept'.slots ≡ kept.slots) (put : slots' ≡ slice_set slots count (Some one.id)) where
  here_now : slot slots' count ≡ Some one.id
  here_now = ap (λ (s : Slots). slot s count) put ∙ slot_same slots count (Some one.id) inside

  elsewhere : (at : ℕ) → at ≢ count → slot slots' at ≡ slot slots at
  elsewhere at other = ap (λ (s : Slots). slot s at) put ∙ slot_other slots count (Some one.id) at other

  member : Contains kept'.live one
  member = subst (λ (l : List LivePiece). Contains l one) (sym live_is) (Contains-append_right kept.live (one ∷ []) one (contains_head one []))

  not_live : (x : LivePiece) → Contains kept.live x → x.id ≡ one.id → ⊥
  not_live x has is_id =
      let was : is_live kept.live one.id ≡ true = subst (λ (n : ℕ). is_live kept.live n ≡ true) is_id (is_live_from kept.live x has) in
      let bad : true ≡ false = sym was ∙ absent in absurd (cc)

  still : (id : ℕ) (x : RankedPiece) → StandsFor kept id x → StandsFor kept' id x
  still id x s = record {
    one = s.one;
    live = subst (λ (l : List LivePiece). Contains l s.one) (sym live_is) (Contains-append_left kept.live (one ∷ []) s.one s.live);
    id_is = s.id_is;
    piece = s.piece;
    rank = s.rank;
    entry = ap (λ (e : IdEntries). entry_at e id) entries_are
        ∙ (kept_set kept.live kept.entries kept.entries one.id (Some (entry_for ranked)) absent (λ n now. refl) id
        (subst (λ (n : ℕ). is_live kept.live n ≡ true) s.id_is (is_live_from kept.live s.one s.live)) ∙ s.entry);
  }

  same_id : (id : ℕ) → slot slots' count ≡ Some id → one.id ≡ id
  same_id id here = let both : Some one.id ≡ Some id = sym here_now ∙ here in cc

  no_other : (at id : ℕ) → slot slots at ≡ Some id → one.id ≡ id → ⊥
  no_other at id here is_id = let w = is.stands at id here in let s = w.3 in not_live s.one s.live (s.id_is ∙ sym is_id)

  -- which stands in no other slot
  one_slot : (at id : ℕ) → at ≢ count → slot slots' at ≡ Some id → slot slots' count ≡ Some id → ⊥
  one_slot at id other here there = no_other at id (sym (elsewhere at other) ∙ here) (same_id id there)

  pub placed_more : AreStanding (count + 1) places kept' slots'
  placed_more = record {
    size = ap length put ∙ (length-set slots count (Some one.id) ∙ (is.size ∙ sym same));
    few = (let f = is.few in let l : length kept'.live ≡ length kept.live + 1 = ap length live_is ∙ length-append kept.live (one ∷ []) in omega arith);
    stands = λ at id here. elim (cases_eq at count) [
      | inl e ↦
          let is_id : one.id ≡ id = same_id id (sym (ap (slot slots') e) ∙ here) in (
            omega arith,
            ranked,
            ap (slot places) e ∙ place,
            record { one = one; live = member; id_is = is_id; piece = piece; rank = rank; entry = subst (λ (n : ℕ). entry_at kept'.entries n ≡ Some (entry_for ranked)) is_id entry },
          )
      | inr other ↦ let w = is.stands at id (sym (elsewhere at other) ∙ here) in let below = w.0 in (omega arith, w.1, w.2, still id w.1 w.3)
    ];
    placed = λ at x below here. elim (cases_eq at count) [
      | inl e ↦ (one.id, ap (slot slots') e ∙ here_now)
      | inr other ↦ let w = is.placed at x (omega arith) here in (w.0, elsewhere at other ∙ w.1)
    ];
    of_live = λ x has. elim (Contains-append_cases kept.live (one ∷ []) x (subst (λ (l : List LivePiece). Contains l x) live_is has)) [
      | inl old ↦
          let w = is.of_live x old in
          let below = (is.stands w.0 x.id w.1).0 in
          let other : w.0 ≢ count = λ (e : w.0 ≡ count). omega arith in
          (w.0, elsewhere w.0 other ∙ w.1)
      | inr new ↦ elim (contains_cases one x [] new) [
        | inl e ↦ (count, subst (λ (y : LivePiece). slot slots' count ≡ Some y.id) e here_now)
        | inr none ↦ absurd (contains_none x none)
      ]
    ];
    once = λ i j id here there. elim (cases_eq i count) [
      | inl first ↦ elim (cases_eq j count) [
        | inl second ↦ first ∙ sym second
        | inr other ↦ absurd (one_slot j id other there (sym (ap (slot slots') first) ∙ here))
      ]
      | inr other ↦ elim (cases_eq j count) [
        | inl second ↦ absurd (one_slot i id other here (sym (ap (slot slots') second) ∙ there))
        | inr second ↦ is.once i j id (sym (elsewhere i other) ∙ here) (sym (elsewhere j second) ∙ there)
      ]
    ];
  }
