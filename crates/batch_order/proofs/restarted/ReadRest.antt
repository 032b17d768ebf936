-- The ids that a stopped device's pieces have again are settled; what is left to change or go has one, and what is left to
-- come has room.
use Rattle.std.proofs.Common.{◌≡◌, ℕ, ◌+◌, ◌-◌, ◌≤◌, Option, Some, None, List, [], ◌∷◌, Contains, drop, length, map, take, inl, inr, ◌⊎◌, refl, sym, ◌∙◌, subst, ap, arith}
use Rattle.std.proofs.lemmas.List.{length-drop, length-map, take-append-drop}
use Rattle.std.proofs.lemmas.List.Elements.{Contains-append_right}
use Rattle.slot_order.proofs.Lists.{contains_head, in_map, map_in}
use Rattle.slot_pool.specs.Arrangement.{Slots}
use Rattle.rule_model.specs.declared.Rule.{Rule}
use Rattle.rule_store.specs.declared.BatchFault.{BatchFault}
use Rattle.rule_store.specs.declared.Mode.{Mode}
use Rattle.rule_store.specs.declared.Command.{Command}
use Rattle.rule_store.specs.Batch.{batch_fault}
use Rattle.rule_store.specs.Verdict.{Accepted, Unsound, Verdict, entries_added, entries_of, room_verdict, verdict_by}
use Rattle.rule_model.specs.Entry.{RankedPiece}
use Rattle.placement.specs.declared.LivePiece.{LivePiece}
use Rattle.placement.specs.Live.{AreApart}
use Rattle.tcam_device.specs.State.{State}
use Rattle.commit_writes.specs.Bits.{FieldBits, bits_with}
use Rattle.commit_writes.proofs.Filters.{all_members}
use Rattle.commit_writes.proofs.PieceCounts.{added_pieces_count}
use Rattle.readback.specs.declared.staging.Shown.{Shown}
use Rattle.readback.specs.Tasks.{CommitPieces, commit_pieces}
use Rattle.batch_order.specs.Entries.{Entries, HasId}
use Rattle.batch_order.specs.Planning.{IsSettled}
use Rattle.batch_order.specs.Standing.{AreStanding, without_twin}
use Rattle.batch_order.specs.Stopped.{IsReadAgain, IsStopped}
use Rattle.batch_order.proofs.ids.Filled.{filled_count, ids_in, ids_once, in_slot, of_slot}
use Rattle.batch_order.proofs.planning.Judged.{accepted_room}
use Rattle.batch_order.proofs.ids.Numbered.{same_length}
use Rattle.batch_order.proofs.restarted.ReadSlots.{ids_read, twin_piece}
use Rattle.batch_order.proofs.restarted.ReadStage.{erased_id, ids, insert_left, rewritten_id, standing_number}

-- what is accepted is sound
sound_of : (fault : Option BatchFault) (room : Verdict) → verdict_by fault room ≡ Accepted → fault ≡ None
sound_of None room accepted = refl
sound_of (Some fault) room accepted = absurd (let clash : Unsound fault ≡ Accepted = accepted in cc)

-- what lies past so many is one of them
past_in : {X : Type 0} (n : ℕ) (xs : List X) (x : X) → Contains (drop n xs) x → Contains xs x
past_in n xs x member = subst (λ some. Contains some x) (take-append-drop n xs) (Contains-append_right (take n xs) (drop n xs) x member)

module _ (mode : Mode) (bits : FieldBits) (rules : List Rule) (batch : List Command) (state : State) (shown : Shown) (kept : Entries) (arranged : Slots)
    (is : IsStopped (length arranged) mode bits rules batch state shown) (again : AreStanding (length arranged) (without_twin shown.stage.twin shown.places.items) kept arranged)
    (apart : AreApart (length arranged) kept.live) where
  abbrev p : CommitPieces
  p = commit_pieces mode bits rules batch

  -- as many ids are live as slots aren't free
  as_many_filled : length kept.live ≡ length (ids_in arranged)
  as_many_filled =
      sym (length-map kept.live (λ (one : LivePiece). one.id))
      ∙ same_length (map (λ (one : LivePiece). one.id) kept.live) (ids_in arranged) apart.once (ids_once arranged again.once)
      (λ n member. let w = in_map (λ (one : LivePiece). one.id) kept.live n member in let at = again.of_live w.0 w.1 in subst (Contains (ids_in arranged)) w.2 (of_slot arranged at.0 (w.0).id at.1))
      (λ n member.
      let w = in_slot arranged n member in
      let s = (again.stands w.0 n w.1).3 in
      subst (Contains (map (λ (one : LivePiece). one.id) kept.live)) s.id_is (map_in (λ (one : LivePiece). one.id) kept.live s.one s.live))

  settled : IsSettled kept arranged
  settled =
      let right = (ids mode bits rules batch state shown kept arranged is again apart).arranged in
      record {
        size = again.size;
        few = (let most = is.most in let size = again.size in omega arith);
        apart = subst (λ (n : ℕ). AreApart n kept.live) again.size apart;
        standing = right.standing;
        order = right.order;
        count = (let many = as_many_filled in let filled = filled_count arranged in let size = again.size in omega arith);
      }

  -- with an insertion left so many stand as the set has and have come
  standing_or : (rest : List RankedPiece) → drop (length is.found.done) p.inserted ≡ rest → (length rest ≡ 0) ⊎ (length kept.live ≡ entries_of mode rules + length is.found.done)
  standing_or [] none = inl refl
  standing_or (first ∷ rest) left = inr (standing_number mode bits rules batch state shown kept arranged is again apart first
      (insert_left mode bits rules batch state shown kept arranged is again apart first (subst (λ some. Contains some first) (sym left) (contains_head first rest))))

  number : (length (drop shown.stage.done shown.inserted.items) ≡ 0) ⊎ (length kept.live ≡ entries_of mode rules + shown.stage.done)
  number =
      subst (λ (n : ℕ). (length (drop n shown.inserted.items) ≡ 0) ⊎ (length kept.live ≡ entries_of mode rules + n)) (sym is.found.done_number)
      (subst (λ (some : List RankedPiece). (length (drop (length is.found.done) some) ≡ 0) ⊎ (length kept.live ≡ entries_of mode rules + length is.found.done)) (sym is.is_shown.inserted)
      (standing_or (drop (length is.found.done) p.inserted) refl))

  room : length kept.live + length (drop shown.stage.done shown.inserted.items) ≤ kept.slots
  room =
      let fits = accepted_room (length arranged) mode rules batch (sound_of (batch_fault rules batch) (room_verdict (length arranged) mode rules batch) is.accepted) is.accepted in
      let entries : entries_of mode rules + entries_added mode rules batch ≤ length arranged = fits.entries in
      let added : entries_added mode rules batch ≡ length p.inserted = added_pieces_count mode (bits_with mode rules batch bits) rules batch in
      let all : length shown.inserted.items ≡ length p.inserted = ap length is.is_shown.inserted in
      let past : length (drop shown.stage.done shown.inserted.items) ≡ length shown.inserted.items - shown.stage.done = length-drop shown.stage.done shown.inserted.items in
      let few = again.few in
      let size = again.size in
      elim number [ inl none ↦ omega arith | inr many ↦ omega arith ]

  erased_has : (x : RankedPiece) → Contains (drop (shown.stage.done - length shown.inserted.items - length shown.rewritten.items) shown.erased.items) x → HasId kept.live x
  erased_has x member =
      let done : shown.stage.done ≡ length is.found.done = is.found.done_number in
      let put : length shown.inserted.items ≡ length p.inserted = ap length is.is_shown.inserted in
      let told : length shown.rewritten.items ≡ length p.rewritten = ap length is.is_shown.rewritten in
      let past : shown.stage.done - length shown.inserted.items - length shown.rewritten.items ≡ length is.found.done - length p.inserted - length p.rewritten = omega arith in
      erased_id mode bits rules batch state shown kept arranged is again apart x (subst (λ (n : ℕ). Contains (drop n p.erased) x) past
      (subst (λ some. Contains (drop (shown.stage.done - length shown.inserted.items - length shown.rewritten.items) some) x) is.is_shown.erased member))

  pub rest_read : IsReadAgain mode bits rules batch state shown kept arranged
  rest_read = record {
    read = ids_read mode bits rules batch state shown kept arranged is again apart;
    settled = settled;
    inside = (twin_piece mode bits rules batch state shown kept arranged is again).inside;
    rewritten = all_members (HasId kept.live) (drop (shown.stage.done - length shown.inserted.items) shown.rewritten.items) (λ x member.
        rewritten_id mode bits rules batch state shown kept arranged is again apart x
        (subst (λ some. Contains some x) is.is_shown.rewritten (past_in (shown.stage.done - length shown.inserted.items) shown.rewritten.items x member)));
    erased = all_members (HasId kept.live) (drop (shown.stage.done - length shown.inserted.items - length shown.rewritten.items) shown.erased.items) erased_has;
    standing = number;
    room = room;
  }
