-- A stage is told by what each slot holds and by the tables: so a device with more slots, which are empty, shows the same one.
use Rattle.std.proofs.Common.{◌≡◌, ℕ, Option, None, Some, List, sym, ◌∙◌, subst}
use Rattle.slot_order.specs.Order.{slot}
use Rattle.slot_order.proofs.Lists.{AllByRecursion-member}
use Rattle.rule_model.specs.Entry.{RankedPiece}
use Rattle.tcam_device.specs.State.{State}
use Rattle.tcam_device.specs.Order.{IsTranslated, AreAlike, HasOneTwin}
use Rattle.commit_writes.specs.Bits.{FieldBits}
use Rattle.commit_writes.proofs.Filters.{all_members}
use Rattle.readback.specs.Tasks.{CommitPieces, Task, Insert, Rewrite, Erase, IsStanding, IsDone, IsLeft}
use Rattle.readback.specs.Stage.{IsStageAt, IsTwinSlot}
use Rattle.commit_writes.specs.Serving.{AreTranslated}

module _ (state next : State) (same : (at : ℕ) → slot next.slots at ≡ slot state.slots at) where
  pub stands_on : (x : RankedPiece) → IsStanding state x → IsStanding next x
  stands_on x (i, s) = (i, (s.0, same i ∙ s.1, s.2))

  stands_back : (x : RankedPiece) → IsStanding next x → IsStanding state x
  stands_back x (i, s) = (i, (s.0, sym (same i) ∙ s.1, s.2))

  done_on : (task : Task) → IsDone state task → IsDone next task
  done_on (Insert x) is = stands_on x is
  done_on (Rewrite x) (i, s) = (i, same i ∙ s)
  done_on (Erase x) gone = λ s. gone (stands_back x s)

  left_on : (task : Task) → IsLeft state task → IsLeft next task
  left_on (Insert x) out = λ s. out (stands_back x s)
  left_on (Rewrite x) untold = λ s. untold (s.0, sym (same s.0) ∙ s.1)
  left_on (Erase x) is = stands_on x is

  abbrev alike_back : (i j : ℕ) → AreAlike next.slots i j → AreAlike state.slots i j
  alike_back i j w = record { less = w.less; first = w.first; second = w.second; here = sym (same i) ∙ w.here; there = sym (same j) ∙ w.there; same = w.same }

  alike_on : (i j : ℕ) → AreAlike state.slots i j → AreAlike next.slots i j
  alike_on i j w = record { less = w.less; first = w.first; second = w.second; here = same i ∙ w.here; there = same j ∙ w.there; same = w.same }

  one_twin : HasOneTwin state.slots → HasOneTwin next.slots
  one_twin twins = record {
    one = λ a b is_a is_b. twins.one a b (is_a.0, alike_back is_a.0 a is_a.1) (is_b.0, alike_back is_b.0 b is_b.1);
    equal = λ lesser at w. twins.equal lesser at (alike_back lesser at w);
  }

  pub twin_on : (twin : Option ℕ) → IsTwinSlot state.slots twin → IsTwinSlot next.slots twin
  twin_on None none = λ at is. none at (is.0, alike_back is.0 at is.1)
  twin_on (Some at) is = (is.0, alike_on is.0 at is.1)

  translated_on : (bits : FieldBits) → next.src ≡ state.src → next.dst ≡ state.dst → AreTranslated state bits → AreTranslated next bits
  translated_on bits src dst right = record {
    src = λ bit range held. subst (λ (table : List ℕ). IsTranslated table bit range) (sym src) (right.src bit range held);
    dst = λ bit range held. subst (λ (table : List ℕ). IsTranslated table bit range) (sym dst) (right.dst bit range held);
  }

  pub stage_on : (slots : ℕ) (before during : FieldBits) (p : CommitPieces) (done left : List Task) → next.src ≡ state.src → next.dst ≡ state.dst
      → IsStageAt slots before during p state done left → IsStageAt slots before during p next done left
  stage_on slots before during p done left src dst stage = record {
    unused = λ at past. same at ∙ stage.unused at past;
    known = λ at entry s. stage.known at entry (sym (same at) ∙ s);
    old_words = translated_on before src dst stage.old_words;
    new_words = λ x member stands. translated_on during src dst (stage.new_words x member (stands_back x stands));
    order = λ i j first second less a b here there over. stage.order i j first second less a b (sym (same i) ∙ here) (sym (same j) ∙ there) over;
    twins = one_twin stage.twins;
    stays = λ x member kept. stands_on x (stage.stays x member kept);
    parts = stage.parts;
    are_done = all_members (IsDone next) done (λ task member. done_on task (AllByRecursion-member (IsDone state) done task stage.are_done member));
    are_left = all_members (IsLeft next) left (λ task member. left_on task (AllByRecursion-member (IsLeft state) left task stage.are_left member));
  }
