-- A write of a slot, by what was found of it: what is kept of the commit is right behind it, or it leads to no stage.
use Rattle.std.proofs.Common.{◌≡◌, ℕ, ◌<◌, ◌≤◌, Bool, Option, Some, List, ◌++◌, length, Contains, IsTrue, IsFalse, inl, inr, ◌⊎◌, refl, sym, ◌∙◌, subst, ap}
use Rattle.std.specs.Prelude.{option_map, slice_set}
use Rattle.std.proofs.lemmas.Bool.{cases_eq}
use Rattle.std.proofs.lemmas.List.Elements.{Contains-append_left, Contains-append_right}
use Rattle.slot_order.specs.Order.{slot}
use Rattle.slot_order.proofs.Lists.{AllByRecursion-member}
use Rattle.slot_order.proofs.Writes.{slot_same, slot_other}
use Rattle.rule_model.specs.Piece.{PiecesOverlap}
use Rattle.rule_model.specs.declared.Rule.{Rule}
use Rattle.rule_model.specs.declared.words.Entry.{Entry}
use Rattle.rule_model.specs.Entry.{RankedPiece, entry_for, same_match}
use Rattle.rule_store.specs.declared.Mode.{Mode}
use Rattle.rule_store.specs.declared.Command.{Command}
use Rattle.tcam_device.specs.declared.Write.TheVariants.{Slot}
use Rattle.tcam_device.specs.State.{State, apply, state_after}
use Rattle.tcam_device.specs.Order.{StandsAt}
use Rattle.commit_writes.specs.Bits.{FieldBits, bits_with}
use Rattle.commit_writes.specs.Changes.{coded_by, during_of}
use Rattle.commit_writes.specs.Serving.{AreTranslated}
use Rattle.commit_writes.specs.Shape.{Stands, fresh_writes}
use Rattle.commit_writes.proofs.ServedTables.{tables_serve}
use Rattle.readback.specs.Progress.{AreParted}
use Rattle.readback.specs.Stage.{IsCommitAt}
use Rattle.readback.specs.Tasks.{CommitPieces, Task, commit_pieces, known_pieces, tasks_of, IsDone, IsLeft, is_done}
use Rattle.readback.proofs.Begun.{begun, change_of}
use Rattle.readback.proofs.Facts.{ArePieces}
use Rattle.readback.proofs.Matches.{match_sym, match_trans}
use Rattle.readback.proofs.Pieces.{pieces_are}
use Rattle.readback.proofs.StageFound.{translated}
use Rattle.readback.proofs.Tests.{done_is, left_is}
use Rattle.trace_check.specs.declared.commit.Commit.{Commit}
use Rattle.trace_check.specs.declared.commit.Device.{Device}
use Rattle.trace_check.specs.Behind.{entries_in}
use Rattle.trace_check.specs.Coming.{ComesRight, MayLeave}
use Rattle.trace_check.specs.Kept.{IsKeptRight, IsPair, device_state, pieces_kept}
use Rattle.trace_check.specs.Local.{HoldsPiece, StandsElsewhere, ArePartedAnew, KeepsTwins, KeepsStage}
use Rattle.trace_check.proofs.Comes.{entries_set, entry_of_place, place_of, held_at, ahead_of, behind_of, goes_or_comes}
use Rattle.trace_check.proofs.Local.{slot_writes_are_local, was_done, was_left}
use Rattle.trace_check.proofs.PlacedEntries.{entries_size}

module _ (slots : ℕ) (mode : Mode) (bits : FieldBits) (rules : List Rule) (batch : List Command) (device : Device) (commit : Commit) (kept : IsKeptRight slots mode bits rules batch device commit)
    (at : ℕ) (used : at < slots) (inside : at < length device.places) where
  abbrev p : CommitPieces
  p = commit_pieces mode bits rules batch

  abbrev places : List (Option RankedPiece)
  places = device.places

  abbrev state : State
  state = device_state device

  pub facts : ArePieces p
  facts =
      let may = kept.is.may in
      pieces_are mode bits rules batch (change_of mode bits rules batch may.can) (state_after may.state (fresh_writes mode bits rules batch may.state))
      (tables_serve mode bits rules batch may.state (begun mode bits rules batch may.device_slots may.state may.can may.is (translated bits may.state may.right)))

  pub room : at < length state.slots
  room = subst (λ n. at < n) (sym (entries_size places)) inside

  pub known : (i : ℕ) (x : RankedPiece) → slot places i ≡ Some x → Contains (known_pieces p) x
  known i x there = subst (λ q. Contains (known_pieces q) x) kept.is.pieces (kept.known i x there)

  module _ (entry : Option Entry) (content : Option RankedPiece) (puts : Bool) (comes : ComesRight commit device at entry content puts) where
    abbrev after : State
    after = apply state (Slot at entry)

    -- the slots behind the write
    written : entries_in (slice_set places at content) ≡ slice_set state.slots at entry
    written = entries_set places at content ∙ ap (slice_set (entries_in places) at) comes.is

    familiar : (x : RankedPiece) → content ≡ Some x → Contains (known_pieces p) x
    familiar x is = elim (comes.familiar x is) [
      | inl own ↦ subst (λ q. Contains (known_pieces q) x) kept.is.pieces own
      | inr stands ↦ known stands.0 x stands.1
    ]

    -- the piece of the entry that comes
    of : (e : Entry) → entry ≡ Some e → (x : RankedPiece) × (content ≡ Some x) × (entry_for x ≡ e)
    of e same = entry_of_place content e (comes.is ∙ same)

    words : (x : RankedPiece) → Contains p.inserted x → HoldsPiece entry x → AreTranslated state (bits_with mode rules batch bits)
    words x member holds =
        let puts_it : IsTrue puts = comes.puts_in.1 (x, (subst (λ q. Contains q.inserted x) (sym kept.is.pieces) member), holds) in
        elim (comes.serves puts_it) [
          | inl served ↦ kept.served served
          | inr right ↦ subst (AreTranslated state) kept.is.during right
        ]

    ahead : (i : ℕ) (first second : RankedPiece) → i < at → Contains (known_pieces p) first → Contains (known_pieces p) second
        → StandsAt state i first → entry ≡ Some (entry_for second) → PiecesOverlap first.piece second.piece → second.rank ≤ first.rank
    ahead i first second less is_first is_second stands is over =
        let w = of (entry_for second) is in
        ahead_of p facts state places refl known at w.0 (familiar w.0 w.1) (comes.ahead w.0 w.1) i first second less is_first is_second stands (ap Some w.2) over

    behind : (j : ℕ) (first second : RankedPiece) → at < j → Contains (known_pieces p) first → Contains (known_pieces p) second
        → entry ≡ Some (entry_for first) → StandsAt state j second → PiecesOverlap first.piece second.piece → second.rank ≤ first.rank
    behind j first second more is_first is_second is stands over =
        let w = of (entry_for first) is in
        behind_of p facts state places refl known at w.0 (familiar w.0 w.1) (comes.behind w.0 w.1) j first second more is_first is_second (ap Some w.2) stands over

    -- what stood may go
    module _ (goes : (x : RankedPiece) → slot places at ≡ Some x → MayLeave commit places at content x) where
      own : (y : RankedPiece) → Contains commit.erased.items y ⊎ Contains commit.inserted.items y → Contains p.erased y ⊎ Contains p.inserted y
      own y (inl erased) = inl (subst (λ q. Contains q.erased y) kept.is.pieces erased)
      own y (inr inserted) = inr (subst (λ q. Contains q.inserted y) kept.is.pieces inserted)

      stays : (x : RankedPiece) → Contains p.old x → (Contains p.erased x → ⊥) → Stands state at x → HoldsPiece entry x ⊎ StandsElsewhere state at x
      stays x old stay s =
          let y = place_of p facts state places refl known at s.0 s.1 in
          let as_y : IsTrue (same_match (entry_for x) (entry_for y.0)) = subst (λ (e : Entry). IsTrue (same_match (entry_for x) e)) (sym y.2) s.2 in
          elim (goes y.0 y.1) [
            | inl h ↦ inl (h.0, sym comes.is ∙ h.1, match_trans (entry_for x) (entry_for y.0) h.0 as_y h.2)
            | inr (inl o) ↦ inr (
              o.0,
              o.1,
              (entry_for o.2.0, held_at p facts state places refl known o.0 o.2.0 o.2.1, match_trans (entry_for x) (entry_for y.0) (entry_for o.2.0) as_y o.2.2),
            )
            | inr (inr g) ↦ absurd (goes_or_comes p facts state places refl known x g.0 old stay (own g.0 g.1)
                (match_trans (entry_for x) (entry_for y.0) (entry_for g.0) as_y (match_sym (entry_for g.0) (entry_for y.0) g.2)))
          ]

      -- and the tasks were counted
      module _ (twins : KeepsTwins state.slots at entry) (done left : ℕ) (parted : AreParted (entries_in (slice_set places at content)) (tasks_of (pieces_kept commit)) done left) where
        tasks_are : tasks_of p ≡ parted.front ++ parted.back
        tasks_are = subst (λ q. tasks_of q ≡ parted.front ++ parted.back) kept.is.pieces parted.parts

        is_done_behind : (task : Task) → Contains parted.front task → IsDone after task
        is_done_behind task member = done_is after task (subst (λ held. IsTrue (is_done held task)) written
            (AllByRecursion-member (λ one. IsTrue (is_done (entries_in (slice_set places at content)) one)) parted.front task parted.are_done member))

        is_left_behind : (task : Task) → Contains parted.back task → IsLeft after task
        is_left_behind task member = left_is after task (subst (λ held. IsFalse (is_done held task)) written
            (AllByRecursion-member (λ one. IsFalse (is_done (entries_in (slice_set places at content)) one)) parted.back task parted.are_left member))

        in_front : (task : Task) → Contains parted.front task → Contains (tasks_of p) task
        in_front task member = subst (λ all. Contains all task) (sym tasks_are) (Contains-append_left parted.front parted.back task member)

        in_back : (task : Task) → Contains parted.back task → Contains (tasks_of p) task
        in_back task member = subst (λ all. Contains all task) (sym tasks_are) (Contains-append_right parted.front parted.back task member)

        parted_anew : ArePartedAnew state (tasks_of p) kept.done kept.left at entry parted.front parted.back
        parted_anew = record {
          parts = tasks_are;
          are_done = λ task member. (
            λ touched. is_done_behind task member,
            λ untouched. was_done slots bits (bits_with mode rules batch bits) p state kept.done kept.left at entry parted.front parted.back kept.stage used room task (in_front task member)
                (is_done_behind task member) untouched,
          );
          are_left = λ task member. (
            λ touched. is_left_behind task member,
            λ untouched. was_left slots bits (bits_with mode rules batch bits) p state kept.done kept.left at entry parted.front parted.back kept.stage used room task (in_back task member)
                (is_left_behind task member) untouched,
          );
        }

        pub keeps : KeepsStage (bits_with mode rules batch bits) p state kept.done kept.left at entry parted.front parted.back
        keeps = record {
          known = λ e same. let w = of e same in (w.0, familiar w.0 w.1, w.2);
          words = words;
          ahead = ahead;
          behind = behind;
          twins = twins;
          stays = stays;
          parted = parted_anew;
        }

        -- so the write leads to a stage
        pub stage_behind : IsCommitAt slots mode bits rules batch after parted.front parted.back
        stage_behind = (slot_writes_are_local slots bits (bits_with mode rules batch bits) p state kept.done kept.left at entry parted.front parted.back kept.stage used room).1 keeps

        -- and what is kept then is right
        module _ (device_then : Device) (commit_then : Commit) (places_are : device_then.places ≡ slice_set places at content) (src_is : device_then.src.items ≡ device.src.items)
            (dst_is : device_then.dst.items ≡ device.dst.items) (pieces_same : pieces_kept commit_then ≡ pieces_kept commit) (live_same : commit_then.live ≡ commit.live)
            (gives_same : commit_then.gives_bit ≡ commit.gives_bit) (done_is_number : commit_then.done ≡ done)
            (pair_is : IsPair (slice_set (entries_in places) at (option_map entry_for content)) commit_then.pair) (served_is : IsTrue commit_then.served → IsTrue commit.served ⊎ IsTrue puts) where
          pub state_is : device_state device_then ≡ after
          state_is =
              ap (λ (held : List (Option Entry)). let s : State = record { slots = held; src = device_then.src.items; dst = device_then.dst.items } in s) (ap entries_in places_are ∙ written)
              ∙ (ap (λ (table : List ℕ). let s : State = record { slots = slice_set state.slots at entry; src = table; dst = device_then.dst.items } in s) src_is
              ∙ ap (λ (table : List ℕ). let s : State = record { slots = slice_set state.slots at entry; src = device.src.items; dst = table } in s) dst_is)

          known_then : (i : ℕ) (x : RankedPiece) → slot device_then.places i ≡ Some x → Contains (known_pieces (pieces_kept commit_then)) x
          known_then i x there =
              let held : slot (slice_set places at content) i ≡ Some x = subst (λ some. slot some i ≡ Some x) places_are there in
              let among : Contains (known_pieces p) x = elim (cases_eq i at) [
                | inl k ↦ familiar x (sym (slot_same places at content inside) ∙ (ap (slot (slice_set places at content)) (sym k) ∙ held))
                | inr n ↦ known i x (sym (slot_other places at content i n) ∙ held)
              ] in
              subst (λ q. Contains (known_pieces q) x) (sym (pieces_same ∙ kept.is.pieces)) among

          serves_then : IsTrue commit_then.served → AreTranslated (device_state device_then) (bits_with mode rules batch bits)
          serves_then served =
              let right : AreTranslated state (bits_with mode rules batch bits) = elim (served_is served) [
                | inl was ↦ kept.served was
                | inr puts_it ↦ elim (comes.serves puts_it) [
                  | inl was ↦ kept.served was
                  | inr is ↦ subst (AreTranslated state) kept.is.during is
                ]
              ] in
              let there : AreTranslated after (bits_with mode rules batch bits) = record { src = right.src; dst = right.dst } in
              subst (λ s. AreTranslated s (bits_with mode rules batch bits)) (sym state_is) there

          pub kept_then : IsKeptRight slots mode bits rules batch device_then commit_then
          kept_then = record {
            accepted = kept.accepted;
            is = record {
              may = kept.is.may;
              coded = ap coded_by live_same ∙ kept.is.coded;
              during = ap during_of live_same ∙ kept.is.during;
              gives = gives_same ∙ kept.is.gives;
              pieces = pieces_same ∙ kept.is.pieces;
            };
            known = known_then;
            done = parted.front;
            left = parted.back;
            stage = subst (λ s. IsCommitAt slots mode bits rules batch s parted.front parted.back) (sym state_is) stage_behind;
            number = done_is_number ∙ parted.done_number;
            pair = subst (λ held. IsPair held commit_then.pair) (sym (ap entries_in places_are ∙ entries_set places at content)) pair_is;
            served = serves_then;
          }
