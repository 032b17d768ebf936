-- No stage has a fault but want of memory.
use Rattle.std.proofs.Common.{◌≡◌, ℕ, List, [], ◌∷◌, ◌++◌, Contains, inl, inr, ◌⊎◌, refl, sym, ◌∙◌, subst, arith}
use Rattle.std.proofs.lemmas.List.Elements.{Contains-append_right}
use Rattle.slot_order.proofs.Lists.{contains_head, AllByRecursion-member}
use Rattle.rule_model.specs.declared.Field.{Field}
use Rattle.rule_model.specs.declared.Field.TheVariants.{Src, Dst}
use Rattle.tcam_device.specs.State.{State}
use Rattle.commit_writes.specs.Bits.{FieldBits, bits_with}
use Rattle.readback.specs.declared.StageFault.TheVariants.{BitsDiffer, Word, Foreign, Crossed, Twin, Gap, Memory}
use Rattle.readback.specs.Tasks.{CommitPieces, Task, Insert, Rewrite, Erase, commit_pieces, IsDone, IsLeft}
use Rattle.readback.specs.Stage.{IsStageAt}
use Rattle.readback.specs.Fault.{HasWrongWord, IsForeign, IsCrossed, IsOneTooMany, IsMissing, IsEarly, StagesHaveNoFault}

-- no task is done and left
pub done_or_left : (state : State) (task : Task) → IsDone state task → IsLeft state task → ⊥
done_or_left state (Insert x) done left = left done
done_or_left state (Rewrite x) done left = left done
done_or_left state (Erase x) done left = done left

-- of two parts of a list one holds the first, or both elements are in the second
pub later_in : {X : Type 0} (done left front between back : List X) (first second : X) → done ++ left ≡ front ++ first ∷ (between ++ second ∷ back)
    → Contains done first ⊎ Contains left second
later_in {X} [] left front between back first second same = inr (subst (λ xs. Contains xs second) (sym same)
    (Contains-append_right front (first ∷ (between ++ second ∷ back)) second (Contains-append_right (first ∷ between) (second ∷ back) second (contains_head second back))))
later_in {X} (x ∷ done) left [] between back first second same = inl (subst (Contains (x ∷ done)) (let z : x ∷ (done ++ left) ≡ first ∷ (between ++ second ∷ back) = same in let y : x ≡ first = cc in y) (contains_head x done))
later_in {X} (x ∷ done) left (y ∷ front) between back first second same =
    elim (later_in done left front between back first second (let z : x ∷ (done ++ left) ≡ y ∷ (front ++ first ∷ (between ++ second ∷ back)) = same in cc)) [
      | inl is ↦ inl (Contains-append_right (x ∷ []) done first is)
      | inr is ↦ inr is
    ]

module _ (slots : ℕ) (before during : FieldBits) (p : CommitPieces) (state : State) (done left : List Task) (stage : IsStageAt slots before during p state done left) where
  no_wrong_word : (field : Field) (port : ℕ) → HasWrongWord before during p state field port → ⊥
  no_wrong_word Src port (small, inl w) = w.3 (stage.old_words.src w.0 w.1 w.2 port small)
  no_wrong_word Src port (small, inr (x, member, stands, w)) = w.3 ((stage.new_words x member stands).src w.0 w.1 w.2 port small)
  no_wrong_word Dst port (small, inl w) = w.3 (stage.old_words.dst w.0 w.1 w.2 port small)
  no_wrong_word Dst port (small, inr (x, member, stands, w)) = w.3 ((stage.new_words x member stands).dst w.0 w.1 w.2 port small)

  none_foreign : (at : ℕ) → IsForeign slots p state at → ⊥
  none_foreign at (entry, s, inl past) = let z = stage.unused at past in cc
  none_foreign at (entry, s, inr none) = let w = stage.known at entry s in none w.0 w.1 w.2

  none_crossed : (at : ℕ) → IsCrossed p state at → ⊥
  none_crossed at c = let k = stage.order c.lesser at c.low c.high c.less c.low_known c.high_known c.holds_low c.holds_high c.overlap in let l = c.lower in omega arith

  none_too_many : (at : ℕ) → IsOneTooMany state.slots at → ⊥
  none_too_many at (inl (lesser, alike, differ)) = differ (stage.twins.equal lesser at alike)
  none_too_many at (inr (is, (other, is_other, less))) = let same = stage.twins.one other at is_other is in omega arith

  none_missing : (priority : ℕ) → IsMissing p state priority → ⊥
  none_missing priority (x, member, kept, missing, rank) = missing (stage.stays x member kept)

  none_early : (priority : ℕ) → IsEarly p state priority → ⊥
  none_early priority e = elim (later_in done left e.front e.between e.back e.first e.second (sym stage.parts ∙ e.parts)) [
    | inl is ↦ done_or_left state e.first (AllByRecursion-member (IsDone state) done e.first stage.are_done is) e.not_done
    | inr is ↦ done_or_left state e.second e.done (AllByRecursion-member (IsLeft state) left e.second stage.are_left is)
  ]

pub stages_have_no_fault : StagesHaveNoFault
stages_have_no_fault slots mode bits rules batch state (BitsDiffer field) (done, left, stage) set fault = absurd (fault (set field))
stages_have_no_fault slots mode bits rules batch state (Word field port) (done, left, stage) set fault =
    absurd (no_wrong_word slots bits (bits_with mode rules batch bits) (commit_pieces mode bits rules batch) state done left stage field port fault)
stages_have_no_fault slots mode bits rules batch state (Foreign at) (done, left, stage) set fault =
    absurd (none_foreign slots bits (bits_with mode rules batch bits) (commit_pieces mode bits rules batch) state done left stage at fault)
stages_have_no_fault slots mode bits rules batch state (Crossed at) (done, left, stage) set fault =
    absurd (none_crossed slots bits (bits_with mode rules batch bits) (commit_pieces mode bits rules batch) state done left stage at fault)
stages_have_no_fault slots mode bits rules batch state (Twin at) (done, left, stage) set fault =
    absurd (none_too_many slots bits (bits_with mode rules batch bits) (commit_pieces mode bits rules batch) state done left stage at fault)
stages_have_no_fault slots mode bits rules batch state (Gap priority) (done, left, stage) set (inl missing) =
    absurd (none_missing slots bits (bits_with mode rules batch bits) (commit_pieces mode bits rules batch) state done left stage priority missing)
stages_have_no_fault slots mode bits rules batch state (Gap priority) (done, left, stage) set (inr early) =
    absurd (none_early slots bits (bits_with mode rules batch bits) (commit_pieces mode bits rules batch) state done left stage priority early)
stages_have_no_fault slots mode bits rules batch state Memory (done, left, stage) set fault = refl
