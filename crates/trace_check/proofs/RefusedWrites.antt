-- A write of a slot that was found wrong leads to no stage.
use Rattle.std.proofs.Common.{◌≡◌, ℕ, ◌<◌, Option, Some, List, ◌∷◌, ◌++◌, length, Contains, IsTrue, IsFalse, inl, inr, ◌⊎◌, refl, sym, ◌∙◌, subst}
use Rattle.std.specs.Prelude.{option_map, slice_set}
use Rattle.slot_order.specs.Order.{slot}
use Rattle.slot_order.proofs.Lists.{AllByRecursion-member}
use Rattle.rule_model.specs.declared.Rule.{Rule}
use Rattle.rule_model.specs.declared.words.Entry.{Entry}
use Rattle.rule_model.specs.Entry.{RankedPiece, entry_for, same_match}
use Rattle.rule_store.specs.declared.Mode.{Mode}
use Rattle.rule_store.specs.declared.Command.{Command}
use Rattle.tcam_device.specs.declared.Write.TheVariants.{Slot}
use Rattle.tcam_device.specs.State.{State, apply}
use Rattle.tcam_device.proofs.One.{same_match-same}
use Rattle.commit_writes.specs.Bits.{FieldBits, bits_with}
use Rattle.commit_writes.specs.Serving.{AreTranslated}
use Rattle.commit_writes.specs.Shape.{Stands}
use Rattle.readback.specs.Progress.{IsOutOfTurn}
use Rattle.readback.specs.Stage.{IsStage}
use Rattle.readback.specs.Tasks.{CommitPieces, commit_pieces, known_pieces, tasks_of, IsDone, IsLeft, is_done}
use Rattle.readback.proofs.Facts.{ArePieces, known_cases}
use Rattle.readback.proofs.Faults.{done_or_left, later_in}
use Rattle.readback.proofs.Matches.{match_sym, match_trans}
use Rattle.readback.proofs.StandingIds.{same_match_of}
use Rattle.readback.proofs.Tests.{done_is, left_is}
use Rattle.trace_check.specs.declared.commit.Commit.{Commit}
use Rattle.trace_check.specs.declared.commit.Device.{Device}
use Rattle.trace_check.specs.Coming.{ComesWrong, MayLeave, IsCrossing}
use Rattle.trace_check.specs.Kept.{IsKeptRight, device_state, pieces_kept}
use Rattle.trace_check.specs.Local.{HoldsPiece, StandsElsewhere, KeepsTwins, KeepsStage}
use Rattle.trace_check.proofs.Comes.{place_of, held_at, not_ahead, not_behind}
use Rattle.trace_check.proofs.KeptWrites.{facts, room, known}
use Rattle.trace_check.proofs.Local.{slot_writes_are_local}

module _ (slots : ℕ) (mode : Mode) (bits : FieldBits) (rules : List Rule) (batch : List Command) (device : Device) (commit : Commit) (kept : IsKeptRight slots mode bits rules batch device commit)
    (at : ℕ) (used : at < slots) (inside : at < length device.places) (entry : Option Entry) (later : IsStage slots mode bits rules batch (apply (device_state device) (Slot at entry))) where
  abbrev p : CommitPieces
  p = commit_pieces mode bits rules batch

  abbrev places : List (Option RankedPiece)
  places = device.places

  abbrev state : State
  state = device_state device

  abbrev after : State
  after = apply state (Slot at entry)

  all_facts : ArePieces p
  all_facts = facts slots mode bits rules batch device commit kept at used inside

  among : (i : ℕ) (x : RankedPiece) → slot places i ≡ Some x → Contains (known_pieces p) x
  among = known slots mode bits rules batch device commit kept at used inside

  -- what a stage behind the write has
  keeps : KeepsStage (bits_with mode rules batch bits) p state kept.done kept.left at entry later.0 later.1
  keeps = (slot_writes_are_local slots bits (bits_with mode rules batch bits) p state kept.done kept.left at entry later.0 later.1 kept.stage used
      (room slots mode bits rules batch device commit kept at used inside)).0 later.2

  own : (x : RankedPiece) → Contains (known_pieces (pieces_kept commit)) x → Contains (known_pieces p) x
  own x member = subst (λ q. Contains (known_pieces q) x) kept.is.pieces member

  pub not_coming : ComesWrong commit device at entry → ⊥
  not_coming (inl none) =
      let w = keeps.known none.0 none.1 in none.2 w.0 (subst (λ q. Contains (known_pieces q) w.0) (sym kept.is.pieces) w.1) w.2
  not_coming (inr (inl (ranked, is, familiar, crossing))) = crossed crossing
    where
      ranked_known : Contains (known_pieces p) ranked
      ranked_known = elim familiar [ inl mine ↦ own ranked mine | inr stands ↦ among stands.0 ranked stands.1 ]

      crossed : IsCrossing places at ranked → ⊥
      crossed (inl low) = not_ahead p all_facts state places refl among at ranked ranked_known low.0 low.1 low.2 low.3 low.4 low.5
          (λ i first second less is_first is_second stands comes over. keeps.ahead i first second less is_first is_second stands (is ∙ comes) over)
      crossed (inr high) = not_behind p all_facts state places refl among at ranked ranked_known high.0 high.1 high.2 high.3 high.4 high.5
          (λ j first second more is_first is_second comes stands over. keeps.behind j first second more is_first is_second (is ∙ comes) stands over)
  not_coming (inr (inr (puts, unserved, wrong))) =
      wrong (subst (AreTranslated state) (sym kept.is.during) (keeps.words puts.0 (subst (λ q. Contains q.inserted puts.0) kept.is.pieces puts.1) puts.2))

  -- what must not go
  module _ (content : Option RankedPiece) (is : option_map entry_for content ≡ entry) where
    -- what stays of a piece that stood here
    goes_on : (x z : RankedPiece) → IsTrue (same_match (entry_for x) (entry_for z)) → HoldsPiece entry z ⊎ StandsElsewhere state at z → MayLeave commit places at content x
    goes_on x z match (inl h) = inl (h.0, is ∙ h.1, match_trans (entry_for x) (entry_for z) h.0 match h.2)
    goes_on x z match (inr o) =
        let y = place_of p all_facts state places refl among o.0 o.2.0 o.2.1 in
        inr (inl (o.0, o.1, (y.0, y.1, match_trans (entry_for x) (entry_for z) (entry_for y.0) match (subst (λ (e : Entry). IsTrue (same_match (entry_for z) e)) (sym y.2) o.2.2))))

    stood : (x z : RankedPiece) → slot places at ≡ Some x → IsTrue (same_match (entry_for z) (entry_for x)) → Stands state at z
    stood x z there match = (entry_for x, held_at p all_facts state places refl among at x there, match)

    pub not_going : (x : RankedPiece) → slot places at ≡ Some x → (MayLeave commit places at content x → ⊥) → ⊥
    not_going x there stuck = elim (known_cases p x (among at x there)) [
      | inl old ↦ stuck (goes_on x x (same_match-same (entry_for x))
          (keeps.stays x old (λ erased. stuck (inr (inr (x, inl (subst (λ q. Contains q.erased x) (sym kept.is.pieces) erased), same_match-same (entry_for x)))))
          (stood x x there (same_match-same (entry_for x)))))
      | inr (inl inserted) ↦ stuck (inr (inr (x, inr (subst (λ q. Contains q.inserted x) (sym kept.is.pieces) inserted), same_match-same (entry_for x))))
      | inr (inr rewritten) ↦
          let was = all_facts.was x rewritten in
          let match : IsTrue (same_match (entry_for was.0) (entry_for x)) = same_match_of was.0 x was.2 in
          stuck (goes_on x was.0 (match_sym (entry_for was.0) (entry_for x) match)
          (keeps.stays was.0 was.1 (λ erased. stuck (inr (inr (was.0, inl (subst (λ q. Contains q.erased was.0) (sym kept.is.pieces) erased), match))))
          (stood x was.0 there match)))
    ]

  -- what stands twice
  pub not_twins : (KeepsTwins state.slots at entry → ⊥) → ⊥
  not_twins broken = broken keeps.twins

  -- a task out of its turn
  pub not_early : (held : List (Option Entry)) (priority : ℕ) → held ≡ slice_set state.slots at entry → IsOutOfTurn held (tasks_of (pieces_kept commit)) priority → ⊥
  not_early held priority written early =
      let tasks_are : tasks_of p ≡ early.front ++ early.first ∷ (early.between ++ early.second ∷ early.back) =
      subst (λ q. tasks_of q ≡ early.front ++ early.first ∷ (early.between ++ early.second ∷ early.back)) kept.is.pieces early.parts in
      let stage = later.2 in
      elim (later_in later.0 later.1 early.front early.between early.back early.first early.second (sym stage.parts ∙ tasks_are)) [
        | inl done ↦ done_or_left after early.first (AllByRecursion-member (IsDone after) later.0 early.first stage.are_done done)
            (left_is after early.first (subst (λ some. IsFalse (is_done some early.first)) written early.not_done))
        | inr left ↦ done_or_left after early.second (done_is after early.second (subst (λ some. IsTrue (is_done some early.second)) written early.done))
            (AllByRecursion-member (IsLeft after) later.1 early.second stage.are_left left)
      ]
