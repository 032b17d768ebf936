-- With the id of the twin's piece in its slot too, the slots of a stopped device hold the entries of their ids.
use Rattle.std.proofs.Common.{◌≡◌, ◌≢◌, ℕ, Option, Some, None, List, true, length, length-take-le, take, inl, inr, refl, sym, ◌∙◌, subst, ap, ext_get_or, length-set}
use Rattle.std.specs.Prelude.{slice_set}
use Rattle.std.proofs.lemmas.Bool.{cases_eq}
use Rattle.std.proofs.lemmas.List.{length-map}
use Rattle.slot_order.specs.Order.{slot}
use Rattle.slot_order.proofs.Writes.{slot_same, slot_other}
use Rattle.slot_pool.specs.Arrangement.{Slots}
use Rattle.rule_model.specs.declared.Rule.{Rule}
use Rattle.rule_store.specs.declared.Mode.{Mode}
use Rattle.rule_store.specs.declared.Command.{Command}
use Rattle.rule_model.specs.declared.words.Entry.{Entry}
use Rattle.rule_model.specs.Entry.{RankedPiece, entry_for}
use Rattle.placement.specs.declared.LivePiece.{LivePiece}
use Rattle.placement.specs.Live.{AreApart, is_live}
use Rattle.placement.proofs.Above.{is_live_from}
use Rattle.placement.specs.Insertion.{IsLive}
use Rattle.tcam_device.specs.State.{State}
use Rattle.commit_writes.specs.Bits.{FieldBits}
use Rattle.commit_writes.specs.Planned.{contents, entry_at, held_entry}
use Rattle.commit_writes.specs.PlannedBatch.{IsIdOf}
use Rattle.readback.specs.declared.staging.Shown.{Shown}
use Rattle.readback.proofs.PlannedRests.{slot_contents}
use Rattle.batch_order.specs.Entries.{Entries}
use Rattle.batch_order.specs.Restart.{in_use}
use Rattle.batch_order.specs.Standing.{AreStanding, IsWithTwin, without_twin}
use Rattle.batch_order.specs.Stopped.{IsAsFound, IsStopped}
use Rattle.batch_order.proofs.restarted.ReadSlots.{beside, mirror_at, narrow, of_place, within}
use Rattle.batch_order.proofs.restarted.ReadStage.{ids}
use Rattle.batch_order.proofs.restarted.Twinned.{IsOther, erased_other}

-- what is arranged with the twin's id, by the piece in its slot
abbrev WithPiece : ℕ → List LivePiece → Slots → Slots → Option RankedPiece → Type 0
WithPiece at live slots slots' piece =
    elim piece [
      | None ↦ slots' ≡ slots
      | Some ranked ↦ (id : ℕ) × IsIdOf live ranked id × (slots' ≡ slice_set slots at (Some id))
    ]

-- where there is one, its id comes there
id_of_twin : (at : ℕ) (places : List (Option RankedPiece)) (live : List LivePiece) (slots slots' : Slots) (x : RankedPiece) → slot places at ≡ Some x → IsWithTwin (Some at) places live slots slots'
    → (id : ℕ) × IsIdOf live x id × (slots' ≡ slice_set slots at (Some id))
id_of_twin at places live slots slots' x here is = go (slot places at) here is
  where
    go : (o : Option RankedPiece) → o ≡ Some x → WithPiece at live slots slots' o → (id : ℕ) × IsIdOf live x id × (slots' ≡ slice_set slots at (Some id))
    go None clash with = absurd (let wrong : None ≡ Some x = clash in cc)
    go (Some ranked) both with =
        let same : ranked ≡ x = (let b : Some ranked ≡ Some x = both in cc) in
        subst (λ (y : RankedPiece). (id : ℕ) × IsIdOf live y id × (slots' ≡ slice_set slots at (Some id))) same with

module _ (mode : Mode) (bits : FieldBits) (rules : List Rule) (batch : List Command) (state : State) (shown : Shown) (kept : Entries) (arranged : Slots)
    (is : IsStopped (length arranged) mode bits rules batch state shown) (again : AreStanding (length arranged) (without_twin shown.stage.twin shown.places.items) kept arranged)
    (apart : AreApart (length arranged) kept.live) (whole : Slots) where
  -- each slot holds the entry of its id, which is live
  abbrev IsWhole : Type 0
  IsWhole = (length whole ≡ length arranged) × ((at : ℕ) → held_entry kept.entries (slot whole at) ≡ slot state.slots at) × ((at id : ℕ) → slot whole at ≡ Some id → IsLive kept.live id)

  -- a slot but the twin's does so without it
  as_before : (at : ℕ) → IsOther shown.stage.twin at → held_entry kept.entries (slot arranged at) ≡ slot state.slots at
  as_before at other = sym (mirror_at mode bits rules batch state shown kept arranged is again at)
      ∙ (erased_other shown.stage.twin (in_use (length arranged) state) at other ∙ narrow mode bits rules batch state shown kept arranged is again at)

  -- the id of the twin's piece is that of the piece in the lesser slot, which has the same entry
  twin_entry : (at id : ℕ) (x : RankedPiece) → shown.stage.twin ≡ Some at → slot shown.places.items at ≡ Some x → IsIdOf kept.live x id → entry_at kept.entries id ≡ slot state.slots at
  twin_entry at id x is_at here is_id =
      let b = beside mode bits rules batch state shown kept arranged is again at is_at in
      let own = of_place mode bits rules batch state shown kept arranged is again b.0 b.1 b.3 b.4 in
      let s = own.2 in
      let same : b.2 ≡ x = (let both : Some b.2 ≡ Some x = sym b.5 ∙ here in cc) in
      let one : (s.one).id ≡ id =
      (ids mode bits rules batch state shown kept arranged is again apart).entries_are.once s.one (record { id = id; piece = x.piece; rank = x.rank }) s.live is_id
      (s.rank ∙ (b.7.1 ∙ ap (λ (z : RankedPiece). z.rank) same)) (s.piece ∙ (b.7.0 ∙ ap (λ (z : RankedPiece). z.piece) same)) in
      ap (entry_at kept.entries) (sym one ∙ s.id_is) ∙ (s.entry ∙ (ap (λ (e : Entry). Some e) (b.8 ∙ ap entry_for same) ∙ sym (is.is_shown.places.known at x here).1))

  whole_is : (twin : Option ℕ) → shown.stage.twin ≡ twin → IsWithTwin twin shown.places.items kept.live arranged whole → IsWhole
  whole_is None none same = (
    ap length same,
    λ at. ap (λ (s : Slots). held_entry kept.entries (slot s at)) same ∙ as_before at (λ gone is_at. absurd (let clash : None ≡ Some gone = sym none ∙ is_at in cc)),
    λ at id here. within mode bits rules batch state shown kept arranged is again at id (ap (λ (s : Slots). slot s at) (sym same) ∙ here),
  )
  whole_is (Some twin) is_twin with =
      let b = beside mode bits rules batch state shown kept arranged is again twin is_twin in
      let w = id_of_twin twin shown.places.items kept.live arranged whole b.2 b.5 with in
      let at_twin : slot whole twin ≡ Some w.0 = ap (λ (s : Slots). slot s twin) w.2 ∙ slot_same arranged twin (Some w.0) b.6 in
      let elsewhere : (at : ℕ) → at ≢ twin → slot whole at ≡ slot arranged at = λ at other. ap (λ (s : Slots). slot s at) w.2 ∙ slot_other arranged twin (Some w.0) at other in (
        ap length w.2 ∙ length-set arranged twin (Some w.0),
        λ at. elim (cases_eq at twin) [
          | inl same ↦ ap (λ (n : ℕ). held_entry kept.entries (slot whole n)) same ∙ (ap (held_entry kept.entries) at_twin ∙ (twin_entry twin w.0 b.2 is_twin b.5 w.1 ∙ ap (slot state.slots) (sym same)))
          | inr other ↦ ap (held_entry kept.entries) (elsewhere at other)
              ∙ as_before at (λ gone is_at same. other (same ∙ (let e : gone ≡ twin = (let both : Some gone ≡ Some twin = sym is_at ∙ is_twin in cc) in e)))
        ],
        λ at id here. elim (cases_eq at twin) [
          | inl same ↦
              let e : w.0 ≡ id = (let both : Some w.0 ≡ Some id = sym at_twin ∙ (ap (slot whole) (sym same) ∙ here) in cc) in
              subst (λ (n : ℕ). is_live kept.live n ≡ true) e (is_live_from kept.live (record { id = w.0; piece = (b.2).piece; rank = (b.2).rank }) w.1)
          | inr other ↦ within mode bits rules batch state shown kept arranged is again at id (sym (elsewhere at other) ∙ here)
        ],
      )

  pub twin_found : IsWithTwin shown.stage.twin shown.places.items kept.live arranged whole → IsAsFound state kept whole
  twin_found with =
      let w = whole_is shown.stage.twin refl with in
      record {
        size = w.0 ∙ again.size;
        mirrors = subst (λ (n : ℕ). contents kept.entries whole ≡ take n state.slots) (sym w.0)
            (ext_get_or None (contents kept.entries whole) (take (length arranged) state.slots)
            (length-map whole (held_entry kept.entries) ∙ (w.0 ∙ sym (length-take-le (length arranged) state.slots is.wide)))
            (λ at below. slot_contents kept.entries whole at ∙ (w.1 at ∙ sym (narrow mode bits rules batch state shown kept arranged is again at))));
        within = w.2;
      }
