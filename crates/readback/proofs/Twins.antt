-- The erase of the twin: its write leads to a stage with the same tasks done and no twin.
use Rattle.std.proofs.Common.{◌≡◌, ◌≢◌, ℕ, None, Some, List, inl, inr, sym, ◌∙◌, ap, arith}
use Rattle.std.proofs.lemmas.Bool.{cases_eq}
use Rattle.slot_order.specs.Order.{slot}
use Rattle.slot_order.proofs.Lists.{AllByRecursion-member}
use Rattle.rule_model.specs.Entry.{RankedPiece, entry_for}
use Rattle.tcam_device.specs.declared.Write.TheVariants.{Slot}
use Rattle.tcam_device.specs.State.{State, apply}
use Rattle.commit_writes.specs.Bits.{FieldBits}
use Rattle.commit_writes.proofs.Filters.{all_members}
use Rattle.readback.specs.Tasks.{CommitPieces, Task, Insert, Rewrite, Erase, IsStanding, IsTold, IsDone, IsLeft}
use Rattle.tcam_device.specs.Order.{AreAlike}
use Rattle.readback.specs.Stage.{IsStageAt}
use Rattle.readback.proofs.Matches.{match_sym, match_trans, match_same}
use Rattle.readback.proofs.Rewriting.{HasNoTwin}
use Rattle.readback.proofs.Erasing.{entry_at, IsWithout, without, was_there, is_there, stood, stands_on, twin_was}

module _ (slots : ℕ) (before during : FieldBits) (p : CommitPieces) (state : State) (lesser at : ℕ) (done left : List Task) (stage : IsStageAt slots before during p state done left) (alike : AreAlike state.slots lesser at) where
  abbrev next : State
  next = apply state (Slot at None)

  less : IsWithout state next at
  less = without state at alike.second alike.there

  apart : lesser ≢ at
  apart k = let l = alike.less in omega arith

  -- what stood as the twin stands as the other
  stands_forth : (x : RankedPiece) → IsStanding state x → IsStanding next x
  stands_forth x (i, s) = elim (cases_eq i at) [
    | inr n ↦ (i, stands_on state next at less x i n s)
    | inl k ↦ (
      lesser,
      (
        alike.first,
        is_there state next at less lesser alike.first apart alike.here,
        match_trans (entry_for x) alike.second alike.first (entry_at state i alike.second x (ap (slot state.slots) k ∙ alike.there) s) (match_sym alike.first alike.second alike.same),
      ),
    )
  ]

  -- its entry is the other's
  equal : alike.second ≡ alike.first
  equal = match_same alike.second alike.first (match_sym alike.first alike.second alike.same) (sym (stage.twins.equal lesser at alike))

  told_forth : (x : RankedPiece) → IsTold state x → IsTold next x
  told_forth x (i, s) = elim (cases_eq i at) [
    | inr n ↦ (i, is_there state next at less i (entry_for x) n s)
    | inl k ↦ (lesser, is_there state next at less lesser (entry_for x) apart (alike.here ∙ (ap Some (sym equal) ∙ (sym alike.there ∙ (ap (slot state.slots) (sym k) ∙ s)))))
  ]

  done_keeps : (task : Task) → IsDone state task → IsDone next task
  done_keeps (Insert x) is = stands_forth x is
  done_keeps (Rewrite x) is = told_forth x is
  done_keeps (Erase x) gone = λ s. gone (s.0, (stood state next at less x s.0 s.1).1)

  left_keeps : (task : Task) → IsLeft state task → IsLeft next task
  left_keeps (Insert x) out = λ s. out (s.0, (stood state next at less x s.0 s.1).1)
  left_keeps (Rewrite x) untold = λ s. untold (s.0, (was_there state next at less s.0 (entry_for x) s.1).1)
  left_keeps (Erase x) is = stands_forth x is

  pub alone_then : HasNoTwin next
  alone_then i is =
      let same : i ≡ at = stage.twins.one i at (twin_was state next at less i is) (lesser, alike) in
      let w = is.1 in
      let z : None ≡ Some w.second = sym less.gone ∙ (ap (slot next.slots) (sym same) ∙ w.there) in cc

  pub untwinned : IsStageAt slots before during p next done left
  untwinned = record {
    unused = λ i past. elim (cases_eq i at) [ inl k ↦ ap (slot next.slots) k ∙ less.gone | inr n ↦ less.off i n ∙ stage.unused i past ];
    known = λ i e s. stage.known i e (was_there state next at less i e s).1;
    old_words = record { src = stage.old_words.src; dst = stage.old_words.dst };
    new_words = λ x member s. let w = stage.new_words x member (s.0, (stood state next at less x s.0 s.1).1) in record { src = w.src; dst = w.dst };
    order = λ i j first second low is_first is_second a b over. stage.order i j first second low is_first is_second
        (was_there state next at less i (entry_for first) a).1 (was_there state next at less j (entry_for second) b).1 over;
    twins = record { one = λ a b is_a is_b. absurd (alone_then a is_a); equal = λ low a w. absurd (alone_then a (low, w)) };
    stays = λ x member kept. stands_forth x (stage.stays x member kept);
    parts = stage.parts;
    are_done = all_members (IsDone next) done (λ task member. done_keeps task (AllByRecursion-member (IsDone state) done task stage.are_done member));
    are_left = all_members (IsLeft next) left (λ task member. left_keeps task (AllByRecursion-member (IsLeft state) left task stage.are_left member));
  }
