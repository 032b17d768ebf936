-- The crossing span of a new id is that of its entry on the device.
use Rattle.std.proofs.Common.{◌≡◌, ℕ, ◌+◌, ◌-◌, ◌<◌, ◌≤◌, IsTrue, Some, option_map, arith, inl, inr, refl, sym, ◌∙◌, subst, ap}
use Rattle.std.proofs.lemmas.Bool.{cases_lt}
use Rattle.slot_order.specs.Order.{slot}
use Rattle.slot_moves.specs.Moves.{IsFloor, IsCeiling}
use Rattle.slot_order.proofs.Images.{entries, slot_entries, StandsFor, stands_for}
use Rattle.slot_order.proofs.Writes.{slot_inside}
use Rattle.slot_pool.specs.Arrangement.{Slots}
use Rattle.rule_model.specs.declared.words.Entry.{Entry}
use Rattle.rule_model.specs.Entry.{RankedPiece}
use Rattle.tcam_device.specs.State.{State}
use Rattle.tcam_device.specs.Insertion.{IsCrossingSpan, HoldsUpper, HoldsLower, ShareKey}
use Rattle.tcam_device.proofs.Lookups.{HitAsPieces}
use Rattle.placement.specs.Placement.{Above, gap_start, gap_end, span_of}
use Rattle.placement.proofs.Chain.{Reads, AllKnown, floor_is, ceiling_is}
use Rattle.commit_writes.proofs.Mirror.{Pieces, entry_by, over, rank}

-- the crossing span of the new entry
pub span_is : (piece : ℕ → RankedPiece) (Known : ℕ → Type 0) (above : Above) (d : Slots) (state : State) (id : ℕ)
    → Reads (over piece) (rank piece) Known above → AllKnown Known d → Known id → state.slots ≡ entries (entry_by piece) d
    → HitAsPieces state (Pieces piece Known) → IsCrossingSpan state (entry_by piece id) (span_of above d id)
span_is piece Known above d state id reads all known same hits = record {
  no_less = λ upper lower high low.
      let x = standing upper high.0 high.1 in let y = standing lower low.0 low.1 in
      let a : upper < gap_start above d id = floor.under upper x.id x.is (shares x.id (all upper x.id x.is) (subst (ShareKey state (entry_by piece id)) (sym x.same) high.3)) (subst (λ e. rank piece id < e.tag) (sym x.same) high.2) in
      let b : gap_end above d id ≤ lower = ceiling.over_it lower y.id y.is (shares y.id (all lower y.id y.is) (subst (ShareKey state (entry_by piece id)) (sym y.same) low.3)) (subst (λ e. e.tag < rank piece id) (sym y.same) low.2) in
      omega arith;
  no_more = elim (cases_lt (gap_end above d id + 1) (gap_start above d id)) [
    | inr far ↦ inl (omega arith)
    | inl crossed ↦ inr (crossing crossed)
  ];
}
  where
    floor : IsFloor (over piece) (rank piece) d id (gap_start above d id)
    floor = floor_is (over piece) (rank piece) Known above d id reads all known

    ceiling : IsCeiling (over piece) (rank piece) d id (gap_end above d id)
    ceiling = ceiling_is (over piece) (rank piece) Known above d id reads all known

    standing : (at : ℕ) (e : Entry) → slot state.slots at ≡ Some e → StandsFor (entry_by piece) (slot d at) e
    standing at e s = stands_for (entry_by piece) (slot d at) e (sym (slot_entries (entry_by piece) d at) ∙ (ap (λ xs. slot xs at) (sym same) ∙ s))

    shares : (other : ℕ) → Known other → ShareKey state (entry_by piece id) (entry_by piece other) → over piece id other
    shares other k s = (s.0, s.1, subst (λ b. IsTrue b) (hits (piece id) s.0 (id, known, refl) s.1) s.2, subst (λ b. IsTrue b) (hits (piece other) s.0 (other, k, refl) s.1) s.3)

    shared : (other : ℕ) → Known other → over piece id other → ShareKey state (entry_by piece id) (entry_by piece other)
    shared other k s = (s.0, s.1, subst (λ b. IsTrue b) (sym (hits (piece id) s.0 (id, known, refl) s.1)) s.2, subst (λ b. IsTrue b) (sym (hits (piece other) s.0 (other, k, refl) s.1)) s.3)

    here : (at other : ℕ) → slot d at ≡ Some other → slot state.slots at ≡ Some (entry_by piece other)
    here at other s = ap (λ xs. slot xs at) same ∙ (slot_entries (entry_by piece) d at ∙ ap (option_map (entry_by piece)) s)

    crossing : gap_end above d id + 1 < gap_start above d id
        → (upper : ℕ) × (lower : ℕ) × HoldsUpper state (entry_by piece id) upper × HoldsLower state (entry_by piece id) lower × (upper - lower ≡ span_of above d id)
    crossing c =
        let last = gap_start above d id - 1 in
        let u = floor.met last (omega arith) in
        elim ceiling.met [
          | inl past ↦ absurd (let inside = slot_inside d last u.0 u.1 in omega arith)
          | inr l ↦ (
            last,
            gap_end above d id,
            (entry_by piece u.0, here last u.0 u.1, u.3, shared u.0 (all last u.0 u.1) u.2),
            (entry_by piece l.0, here (gap_end above d id) l.0 l.1, l.3, shared l.0 (all (gap_end above d id) l.0 l.1) l.2),
            refl,
          )
        ]
