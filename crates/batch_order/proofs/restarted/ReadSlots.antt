-- What a stopped device's slots hold, and the ids that their pieces have again.
use Rattle.std.proofs.Common.{◌≡◌, ℕ, ◌<◌, Option, Some, None, List, Contains, IsTrue, IfSome, true, length, take, inl, inr, refl, sym, ◌∙◌, subst, ap, arith, get_or-take, length-take-le, ext_get_or}
use Rattle.std.proofs.lemmas.Bool.{cases_lt}
use Rattle.std.proofs.lemmas.List.{get_or_past, length-map}
use Rattle.slot_order.specs.Order.{slot}
use Rattle.slot_pool.specs.Arrangement.{Slots}
use Rattle.rule_model.specs.declared.Rule.{Rule}
use Rattle.rule_store.specs.declared.Mode.{Mode}
use Rattle.rule_store.specs.declared.Command.{Command}
use Rattle.rule_model.specs.declared.words.Entry.{Entry}
use Rattle.rule_model.specs.Entry.{RankedPiece, entry_of, entry_for, same_match}
use Rattle.placement.specs.declared.LivePiece.{LivePiece}
use Rattle.placement.specs.Live.{AreApart, is_live}
use Rattle.placement.proofs.Above.{is_live_from, same_one}
use Rattle.placement.specs.Insertion.{IsLive}
use Rattle.tcam_device.specs.State.{State, state_after}
use Rattle.tcam_device.specs.Order.{IsTwin}
use Rattle.commit_writes.specs.Bits.{FieldBits}
use Rattle.commit_writes.specs.Planned.{contents, entry_at, held_entry}
use Rattle.commit_writes.specs.Shape.{fresh_writes}
use Rattle.commit_writes.proofs.ServedTables.{tables_serve}
use Rattle.readback.specs.declared.staging.Shown.{Shown}
use Rattle.readback.specs.Going.{twin_writes}
use Rattle.readback.specs.Stage.{IsTwinSlot}
use Rattle.readback.specs.Tasks.{CommitPieces, commit_pieces, known_pieces}
use Rattle.readback.proofs.Begun.{begun, change_of}
use Rattle.readback.proofs.Facts.{ArePieces, IsSame}
use Rattle.readback.proofs.Pieces.{pieces_are}
use Rattle.readback.specs.Standing.{AreReadIds}
use Rattle.readback.proofs.PlannedRests.{slot_contents}
use Rattle.batch_order.specs.Entries.{Entries, HasId}
use Rattle.batch_order.specs.Restart.{in_use}
use Rattle.batch_order.specs.Standing.{AreStanding, HasPieceOf, StandsFor, without_twin}
use Rattle.batch_order.specs.Stopped.{IsStopped}
use Rattle.batch_order.proofs.restarted.Twinned.{IsOther, is_twin, lesser_other, of_all, no_twin, but_twin, erased_other, erased_twin, erased_size, if_some}

-- the slots in use once the twin is erased
abbrev pub cleared_by : ℕ → State → Shown → State
cleared_by slots state shown = state_after (in_use slots state) (twin_writes shown.stage.twin)

module _ (mode : Mode) (bits : FieldBits) (rules : List Rule) (batch : List Command) (state : State) (shown : Shown) (kept : Entries) (arranged : Slots)
    (is : IsStopped (length arranged) mode bits rules batch state shown) (again : AreStanding (length arranged) (without_twin shown.stage.twin shown.places.items) kept arranged) where
  abbrev places : List (Option RankedPiece)
  places = shown.places.items

  abbrev twin : Option ℕ
  twin = shown.stage.twin

  abbrev p : CommitPieces
  p = commit_pieces mode bits rules batch

  abbrev cleared : State
  cleared = cleared_by (length arranged) state shown

  pub facts : ArePieces (commit_pieces mode bits rules batch)
  facts = pieces_are mode bits rules batch (change_of mode bits rules batch is.can) (state_after state (fresh_writes mode bits rules batch state))
      (tables_serve mode bits rules batch state (begun mode bits rules batch (length state.slots) state is.can is.is_state is.found.stage.old_words))

  -- what a slot holds is one of the commit's pieces, and the slot is in use
  piece_at : (at : ℕ) (entry : Entry) → slot state.slots at ≡ Some entry → (x : RankedPiece) × (slot places at ≡ Some x) × Contains (known_pieces p) x × (entry_for x ≡ entry)
  piece_at at entry held = go (slot places at) refl
    where
      go : (o : Option RankedPiece) → slot places at ≡ o → (x : RankedPiece) × (slot places at ≡ Some x) × Contains (known_pieces p) x × (entry_for x ≡ entry)
      go None none = let w = is.found.stage.known at entry held in absurd (is.is_shown.places.strange at entry held none w.0 w.1 w.2)
      go (Some x) here = let w = is.is_shown.places.known at x here in (x, here, w.0, (let both : Some (entry_for x) ≡ Some entry = sym w.1 ∙ held in let e : entry_for x ≡ entry = cc in e))

  used : (at : ℕ) (entry : Entry) → slot state.slots at ≡ Some entry → at < length arranged
  used at entry held = elim (cases_lt at (length arranged)) [
    | inl below ↦ below
    | inr past ↦ absurd (let clash : None ≡ Some entry = sym (is.found.stage.unused at past) ∙ held in cc)
  ]

  pub narrow : (at : ℕ) → slot (in_use (length arranged) state).slots at ≡ slot state.slots at
  narrow at = elim (cases_lt at (length arranged)) [
    | inl below ↦ get_or-take (length arranged) state.slots at None below
    | inr past ↦ get_or_past (take (length arranged) state.slots) at None (let size : length (take (length arranged) state.slots) ≡ length arranged = length-take-le (length arranged) state.slots is.wide in omega arith)
        ∙ sym (is.found.stage.unused at past)
  ]

  -- a piece's slot, but the twin's, has its id
  pub of_place : (at : ℕ) (x : RankedPiece) → slot (without_twin twin places) at ≡ Some x → at < length arranged → (id : ℕ) × (slot arranged at ≡ Some id) × StandsFor kept id x
  of_place at x here below =
      let w = again.placed at x below here in
      let s = again.stands at w.0 w.1 in
      let same : s.1 ≡ x = (let both : Some s.1 ≡ Some x = sym s.2 ∙ here in cc) in
      (w.0, w.1, subst (StandsFor kept w.0) same s.3)

  -- A lesser slot than the twin's has its piece too.
  pub beside : (at : ℕ) → twin ≡ Some at → (lesser : ℕ) × (y : RankedPiece) × (x : RankedPiece) × (slot (without_twin twin places) lesser ≡ Some y) × (lesser < length arranged)
      × (slot places at ≡ Some x) × (at < length arranged) × IsSame y x × (entry_for y ≡ entry_for x)
  beside at is_at =
      let w : IsTwin state.slots at = subst (IsTwinSlot state.slots) is_at is.found.twin in
      let alike = w.1 in
      let y = piece_at w.0 alike.first alike.here in
      let x = piece_at at alike.second alike.there in
      let match : IsTrue (same_match (entry_for y.0) (entry_for x.0)) =
      subst (λ e. IsTrue (same_match e (entry_for x.0))) (sym y.3) (subst (λ e. IsTrue (same_match alike.first e)) (sym x.3) alike.same) in
      let same = facts.apart y.0 x.0 y.2 x.2 match in
      let result : (entry_for y.0).result ≡ (entry_for x.0).result = ap (λ (e : Entry). e.result) y.3 ∙ (is.found.stage.twins.equal w.0 at alike ∙ sym (ap (λ (e : Entry). e.result) x.3)) in (
        w.0,
        y.0,
        x.0,
        but_twin twin places w.0 (lesser_other twin at w.0 is_at alike.less) ∙ y.1,
        used w.0 alike.first alike.here,
        x.1,
        used at alike.second alike.there,
        same,
        ap (λ q. entry_of q (y.0).rank (y.0).result) same.0 ∙ (ap (λ n. entry_of (x.0).piece n (y.0).result) same.1 ∙ ap (λ n. entry_of (x.0).piece (x.0).rank n) result),
      )

  twin_has_id : (at : ℕ) → twin ≡ Some at → (x : RankedPiece) → slot places at ≡ Some x → HasId kept.live x
  twin_has_id at is_at x here =
      let b = beside at is_at in
      let own = of_place b.0 b.1 b.3 b.4 in
      let same : b.2 ≡ x = (let both : Some b.2 ≡ Some x = sym b.5 ∙ here in cc) in
      let s = own.2 in
      (s.one, s.live, s.piece ∙ (b.7.0 ∙ ap (λ (z : RankedPiece). z.piece) same), s.rank ∙ (b.7.1 ∙ ap (λ (z : RankedPiece). z.rank) same))

  no_id : (at : ℕ) (id : ℕ) → twin ≡ Some at → slot arranged at ≡ Some id → ⊥
  no_id at id is_at here = let s = again.stands at id here in no_twin twin places at s.1 s.2 at is_at refl

  pub twin_piece : HasPieceOf shown.stage.twin shown.places.items kept arranged
  twin_piece = record {
    size = (let size : length places ≡ length state.slots = is.is_shown.places.size in let wide = is.wide in omega arith);
    inside = if_some (λ at. at < length arranged) twin (λ at is_at. (beside at is_at).6);
    free = if_some (λ at. slot arranged at ≡ None) twin (λ at is_at. free_at at is_at (slot arranged at) refl);
    has_id = if_some (λ at. IfSome (slot places at) (HasId kept.live)) twin (λ at is_at. if_some (HasId kept.live) (slot places at) (twin_has_id at is_at));
  }
    where
      free_at : (at : ℕ) → twin ≡ Some at → (o : Option ℕ) → slot arranged at ≡ o → slot arranged at ≡ None
      free_at at is_at None none = none
      free_at at is_at (Some id) here = absurd (no_id at id is_at here)

  -- The ids are those of what the slots hold once the twin is erased.
  pub mirror_at : (at : ℕ) → slot (cleared_by (length arranged) state shown).slots at ≡ held_entry kept.entries (slot arranged at)
  mirror_at at = go (slot arranged at) refl
    where
      empty : slot arranged at ≡ None → IsOther twin at → (o : Option Entry) → slot state.slots at ≡ o → slot state.slots at ≡ None
      empty none other None is_none = is_none
      empty none other (Some entry) held =
          let x = piece_at at entry held in
          let own = of_place at x.0 (but_twin twin places at other ∙ x.1) (used at entry held) in
          absurd (let clash : None ≡ Some own.0 = sym none ∙ own.1 in cc)

      go : (o : Option ℕ) → slot arranged at ≡ o → slot cleared.slots at ≡ held_entry kept.entries (slot arranged at)
      go (Some id) here =
          let s = again.stands at id here in
          erased_other twin (in_use (length arranged) state) at (no_twin twin places at s.1 s.2)
          ∙ (narrow at ∙ ((is.is_shown.places.known at s.1 (of_all twin places at s.1 s.2)).1 ∙ sym (ap (held_entry kept.entries) here ∙ (s.3).entry)))
      go None none = elim (is_twin twin at) [
        | inl is_at ↦ erased_twin twin (in_use (length arranged) state) at is_at ∙ sym (ap (held_entry kept.entries) none)
        | inr other ↦ erased_other twin (in_use (length arranged) state) at other ∙ (narrow at ∙ (empty none other (slot state.slots at) refl ∙ sym (ap (held_entry kept.entries) none)))
      ]

  mirrors : cleared.slots ≡ contents kept.entries arranged
  mirrors = ext_get_or None cleared.slots (contents kept.entries arranged)
      (erased_size twin (in_use (length arranged) state) ∙ (length-take-le (length arranged) state.slots is.wide ∙ sym (length-map arranged (held_entry kept.entries))))
      (λ at below. mirror_at at ∙ sym (slot_contents kept.entries arranged at))

  pub within : (at id : ℕ) → slot arranged at ≡ Some id → IsLive kept.live id
  within at id here = let s = (again.stands at id here).3 in subst (λ (n : ℕ). is_live kept.live n ≡ true) s.id_is (is_live_from kept.live s.one s.live)

  module _ (apart : AreApart (length arranged) kept.live) where
    -- the piece that a live id has
    pub of_one : (one : LivePiece) → Contains kept.live one → (at : ℕ) × (x : RankedPiece) × (slot arranged at ≡ Some one.id) × Contains (known_pieces (commit_pieces mode bits rules batch)) x
        × (x.piece ≡ one.piece) × (x.rank ≡ one.rank) × (entry_at kept.entries one.id ≡ Some (entry_for x))
    of_one one has =
        let w = again.of_live one has in
        let s = again.stands w.0 one.id w.1 in
        let f = s.3 in
        let same : f.one ≡ one = same_one kept.live f.one one apart.once f.live has f.id_is in (
          w.0,
          s.1,
          w.1,
          (is.is_shown.places.known w.0 s.1 (of_all twin places w.0 s.1 s.2)).0,
          sym f.piece ∙ ap (λ (o : LivePiece). o.piece) same,
          sym f.rank ∙ ap (λ (o : LivePiece). o.rank) same,
          f.entry,
        )

    pub ids_read : AreReadIds (commit_pieces mode bits rules batch) (cleared_by (length arranged) state shown).slots kept.live arranged kept.entries
    ids_read = record {
      few = is.most;
      apart = apart;
      mirrors = mirrors;
      within = within;
      stands = again.of_live;
      of_known = λ one has. let w = of_one one has in (w.1, w.3, w.4, w.5, w.6);
    }
