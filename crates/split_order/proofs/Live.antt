-- The ranges that words in flight are current for: the device serves them between any two parts, and a step leaves the words
-- current.
use Rattle.std.proofs.Common.{◌≡◌, ℕ, zero, suc, ◌+◌, ◌<◌, ◌≤◌, ◌⊎◌, inl, inr, Bool, true, false, Option, None, Some, List, [], ◌∷◌, length, take, set, length-set, get_or-set_other, refl, sym, ◌∙◌, ap, subst, arith}
use Rattle.std.specs.Prelude.{IfSome}
use Rattle.std.proofs.lemmas.Bool.{cases_eq, cases_lt}
use Rattle.std.proofs.lemmas.List.{get_or_past}
use Rattle.slot_order.specs.Order.{slot}
use Rattle.slot_order.proofs.Writes.{slot_same}
use Rattle.rule_model.specs.declared.Key.{Key}
use Rattle.rule_model.specs.declared.words.Word.{Word}
use Rattle.rule_model.specs.declared.words.Entry.{Entry}
use Rattle.rule_model.specs.Entry.{same_match}
use Rattle.rule_store.specs.declared.Command.{Command}
use Rattle.tcam_device.specs.declared.Write.{Write}
use Rattle.tcam_device.specs.declared.Write.TheVariants as whole
use Rattle.tcam_device.specs.State.{State, on_device}
use Rattle.commit_writes.specs.Bits.{FieldBits}
use Rattle.commit_writes.specs.InFlight.{AreCurrent, ArePartOf, ServesLive}
use Rattle.commit_writes.proofs.Current.{are_current_part}
use Rattle.commit_writes.proofs.Led.{same_part}
use Rattle.batch_order.specs.declared.Step.{Step}
use Rattle.batch_order.specs.declared.Step.TheVariants as step
use Rattle.commit_writes.specs.declared.Done.{Done}
use Rattle.batch_order.specs.Managed.{HeldCommit, Managed, live_now}
use Rattle.batch_order.specs.Steps.{KeepsCurrent, ServesNow, Steps, next_of}
use Rattle.batch_order.specs.Turning.{IsHeldRight}
use Rattle.batch_order.proofs.back.Turned.{steps_keep_current}
use Rattle.split_device.specs.declared.SplitAction.{SplitAction}
use Rattle.split_device.specs.declared.SplitAction.TheVariants.{Written, Drained}
use Rattle.split_device.specs.declared.SplitWrite.TheVariants.{Slot, Result}
use Rattle.split_device.specs.State.{SplitState, no_result, result_at, undivided, whole_entry, split_apply, split_after}
use Rattle.split_device.specs.Flight.{Flight, flight_count}
use Rattle.split_device.specs.Drains.{AreTimely}
use Rattle.split_device.proofs.Whole.{whole_slot}
use Rattle.split_writes.specs.declared.SplitDone.{SplitDone}
use Rattle.split_writes.specs.Parts.{parts_over, put_parts, write_parts}
use Rattle.split_writes.proofs.Serving.{erased_serves}
use Rattle.split_writes.proofs.Through.{empty_parts}
use Rattle.split_writes.proofs.Undivided.{erase_is, over_other, over_same}
use Rattle.split_order.specs.declared.SplitStep.{SplitStep}
use Rattle.split_order.specs.declared.SplitStep.TheVariants as split_step
use Rattle.split_order.specs.declared.since.Since.{Since}
use Rattle.split_order.specs.Kept.{IsCommitOrRest, IsSplitKept, IsWayOn, parts_due, parts_of_due}
use Rattle.split_order.specs.Left.{left_of, left_of_held, since_of, state_on}
use Rattle.split_order.specs.Managed.{SplitManaged}
use Rattle.split_order.specs.Prepared.{HoldsSplit}
use Rattle.split_order.specs.Steps.{Ends, LeavesCurrent, SplitSteps}
use Rattle.split_order.proofs.Dues.{parts_same}

-- a result word of an empty slot is no entry's
result_serves : (bits : FieldBits) (state : SplitState) (at tag answer : ℕ) → slot state.slots at ≡ None → ServesLive bits (undivided state)
    → ServesLive bits (undivided (split_apply state (Result at tag answer)))
result_serves bits state at tag answer empty serves = record {
  src_words = serves.src_words;
  dst_words = serves.dst_words;
  src_right = serves.src_right;
  dst_right = serves.dst_right;
  tested = λ place entry stands. serves.tested place entry (was place entry (sym (whole_slot state.slots (set state.results at (tag, answer)) place) ∙ stands));
}
  where
    was : (place : ℕ) (entry : Entry) → whole_entry (slot state.slots place) (result_at (set state.results at (tag, answer)) place) ≡ Some entry → slot (undivided state).slots place ≡ Some entry
    was place entry stands = elim (cases_eq place at) [
      | inr other ↦
          whole_slot state.slots state.results place
          ∙ (ap (whole_entry (slot state.slots place)) (sym (get_or-set_other state.results at place (tag, answer) no_result other)) ∙ stands)
      | inl here ↦ absurd (
          let none : slot state.slots place ≡ None = subst (λ i. slot state.slots i ≡ None) (sym here) empty in
          let wrong : None ≡ Some entry = sym (ap (λ held. whole_entry held (result_at (set state.results at (tag, answer)) place)) none) ∙ stands in cc)
    ]

-- an erased slot is empty
empty_after : (slots : List (Option (Word × Word))) (at : ℕ) → slot (set slots at None) at ≡ None
empty_after slots at = elim (cases_lt at (length slots)) [
  | inl inside ↦ slot_same slots at None inside
  | inr past ↦ get_or_past (set slots at None) at None (subst (λ n. n ≤ at) (sym (length-set slots at None)) past)
]

-- with some of the parts of a write made, but not all of them
put_on : (bits : FieldBits) (state : SplitState) (at : ℕ) (entry : Entry) → slot state.slots at ≡ None → ServesLive bits (undivided state)
    → (made : ℕ) → made < length (put_parts at entry) → ServesLive bits (undivided (split_after state (take made (put_parts at entry))))
put_on bits state at entry empty serves zero below = serves
put_on bits state at entry empty serves (suc zero) below = result_serves bits state at entry.tag entry.result empty serves
put_on bits state at entry empty serves (suc (suc made)) below = absurd (omega arith)

erased_on : (bits : FieldBits) (state : SplitState) (at : ℕ) (entry : Entry) → ServesLive bits (undivided state)
    → (made : ℕ) → made < length (Slot at None ∷ put_parts at entry) → ServesLive bits (undivided (split_after state (take made (Slot at None ∷ put_parts at entry))))
erased_on bits state at entry serves zero below = serves
erased_on bits state at entry serves (suc made) below =
    put_on bits (split_apply state (Slot at None)) at entry (empty_after state.slots at)
    (subst (ServesLive bits) (sym (erase_is state at)) (erased_serves bits (undivided state) at serves)) made (omega arith)

over_on : (bits : FieldBits) (state : SplitState) (at : ℕ) (entry : Entry) (held : Option Entry) → slot (undivided state).slots at ≡ held → ServesLive bits (undivided state)
    → (made : ℕ) → made < length (parts_over held at entry) → ServesLive bits (undivided (split_after state (take made (parts_over held at entry))))
over_on bits state at entry None stands serves made below = put_on bits state at entry (empty_parts state at stands) serves made below
over_on bits state at entry (Some standing) stands serves made below = by (same_match entry standing) refl
  where
    by : (same : Bool) → same_match entry standing ≡ same → ServesLive bits (undivided (split_after state (take made (parts_over (Some standing) at entry))))
    by true e =
        let few : made < 1 = subst (λ parts. made < length parts) (over_same standing entry at e) below in
        let none : made ≡ 0 = omega arith in
        subst (λ n. ServesLive bits (undivided (split_after state (take n (parts_over (Some standing) at entry))))) (sym none) serves
    by false e =
        let parts = over_other standing entry at e in
        subst (λ some. ServesLive bits (undivided (split_after state (take made some)))) (sym parts)
        (erased_on bits state at entry serves made (subst (λ some. made < length some) parts below))

write_on : (bits : FieldBits) (state : SplitState) (write : Write) → ServesLive bits (undivided state)
    → (made : ℕ) → made < length (write_parts (undivided state) write) → ServesLive bits (undivided (split_after state (take made (write_parts (undivided state) write))))
write_on bits state (whole.Slot at None) serves zero below = serves
write_on bits state (whole.Slot at None) serves (suc made) below = absurd (omega arith)
write_on bits state (whole.Slot at (Some entry)) serves made below = over_on bits state at entry (slot (undivided state).slots at) refl serves made below
write_on bits state (whole.Table field port word) serves zero below = serves
write_on bits state (whole.Table field port word) serves (suc made) below = absurd (omega arith)

-- likewise of the write that is due, where the planner has fewer slots than the device
due_on : (bits : FieldBits) (slots : ℕ) (state : SplitState) (own : State) (due : Option Write) (made : ℕ) → undivided state ≡ on_device slots own → ServesLive bits (undivided state)
    → (made ≡ 0) ⊎ (made < length (parts_of_due own due)) → ServesLive bits (undivided (split_after state (take made (parts_of_due own due))))
due_on bits slots state own due made stands serves (inl none) =
    subst (λ n. ServesLive bits (undivided (split_after state (take n (parts_of_due own due))))) (sym none) serves
due_on bits slots state own None made stands serves (inr below) = absurd (omega arith)
due_on bits slots state own (Some write) made stands serves (inr below) =
    let parts = parts_same slots (undivided state) own write stands in
    subst (λ some. ServesLive bits (undivided (split_after state (take made some)))) (sym parts)
    (write_on bits state write serves made (subst (λ some. made < length some) parts below))

module _ (since : Since) (left : ℕ) (m : SplitManaged) (kept : IsSplitKept since left m) (slots : ℕ) (wide : m.whole.slots ≤ slots) where
  -- the device serves the ranges that words in flight are current for
  pub serves_live : ServesNow m.whole → ServesLive (live_now m.whole) (undivided (state_on slots m))
  serves_live now =
      let on = kept.on slots wide in
      let before : ServesLive (live_now m.whole) (undivided on.before) = subst (ServesLive (live_now m.whole)) (sym on.whole_is) (now slots wide) in
      subst (λ s. ServesLive (live_now m.whole) (undivided s)) (sym on.now_is)
      (due_on (live_now m.whole) slots on.before m.whole.state (next_of m.whole.held) m.made on.whole_is before (so_far m.whole.held kept.commit))
    where
      so_far : (held : Option HeldCommit) → IsCommitOrRest m held → (m.made ≡ 0) ⊎ (m.made < length (parts_due m))
      so_far None rest = inl rest.made
      so_far (Some held) commit = commit.made

  -- each part that is left stands in its time
  pub left_timely : AreTimely (state_on slots m) (since_of m) (left_of slots m)
  left_timely = go m.whole.held refl
    where
      go : (held : Option HeldCommit) → m.whole.held ≡ held → AreTimely (state_on slots m) (since_of m) (left_of slots m)
      go None is = subst (AreTimely (state_on slots m) (since_of m)) (sym (ap (left_of_held (state_on slots m) (since_of m) m.whole.state m.made) is)) tt
      go (Some held) is = let way : IsWayOn slots m held = subst (λ (h : Option HeldCommit). IfSome h (IsWayOn slots m)) is (kept.on slots wide).way in way.1.timely

-- The commit's end leaves words current.
pub ends_current : (old : Managed) (made : Step) (new : Managed) (counts : Done) → IsHeldRight old → Steps old 0 old.held made new → made ≡ step.Finished counts → ArePartOf (live_now new) (live_now old)
ends_current old made new counts right steps is = subst (λ (s : Step). KeepsCurrent old s new) is (steps_keep_current old 0 made new right steps)

pub same_current : (old new : Managed) → new ≡ old → ArePartOf (live_now new) (live_now old)
same_current old new same = subst (λ (w : Managed). ArePartOf (live_now w) (live_now old)) (sym same) (same_part (live_now old))

-- So does a step that makes a part or ends the commit, and one that drains or waits.
pub leaves : (old : SplitManaged) (made : SplitStep) (new : SplitManaged) → ArePartOf (live_now new.whole) (live_now old.whole) → LeavesCurrent old made new
leaves old (split_step.Wrote write) new part = part
leaves old split_step.Drained new part = tt
leaves old (split_step.Waiting flying) new part = part
leaves old (split_step.Finished counts) new part = part
leaves old split_step.Idle new part = part

pub live_current : (old new : SplitManaged) → live_now new.whole ≡ live_now old.whole → ArePartOf (live_now new.whole) (live_now old.whole)
live_current old new same = subst (λ bits. ArePartOf bits (live_now old.whole)) (sym same) (same_part (live_now old.whole))

pub drain_current : (slots : ℕ) (old : SplitManaged) (flying : ℕ) (made : SplitStep) (new : SplitManaged) → SplitSteps slots old flying (Drained ∷ []) made new → LeavesCurrent old made new
drain_current slots old zero made new did = subst (λ (s : SplitStep). LeavesCurrent old s new) (sym did.0) tt
drain_current slots old (suc n) made new did = leaves old made new (same_current old.whole new.whole (ap (λ (m : SplitManaged). m.whole) did.1))

-- and a plan that is taken
pub plan_current : (old new : SplitManaged) (batch : List Command) (counts : SplitDone) → HoldsSplit old batch counts new → old.whole.held ≡ None → ArePartOf (live_now new.whole) (live_now old.whole)
plan_current old new batch counts holds idle =
    live_current old new (ap live_now holds.whole.1.new_is ∙ sym (ap (λ (h : Option HeldCommit). live_now (record old.whole { held = h })) idle))

-- it drains only where nothing is in flight
no_drain : (old : SplitManaged) (held : Option HeldCommit) (new : SplitManaged) → Ends old held split_step.Drained new → ⊥
no_drain old None new did = let wrong : split_step.Drained ≡ split_step.Idle = did.0 in cc
no_drain old (Some held) new did = let wrong : split_step.Drained ≡ split_step.Finished old.counts = did.0 in cc

drains_empty : (slots : ℕ) (old : SplitManaged) (flying : ℕ) (left : List SplitAction) (new : SplitManaged) → SplitSteps slots old flying left split_step.Drained new → flying ≡ 0
drains_empty slots old flying [] new did = absurd (no_drain old old.whole.held new did)
drains_empty slots old flying (Written part ∷ left) new did = absurd (let wrong : split_step.Drained ≡ split_step.Wrote part = did.0 in cc)
drains_empty slots old zero (Drained ∷ left) new did = refl
drains_empty slots old (suc n) (Drained ∷ left) new did = absurd (let wrong : split_step.Drained ≡ split_step.Waiting (suc n) = did.0 in cc)

no_words : (bits : FieldBits) (words : List (Key × Word)) → length words ≡ 0 → AreCurrent bits words
no_words bits [] none = tt
no_words bits (oldest ∷ words) none = absurd (omega arith)

-- a step leaves the words in flight current
pub step_current : (slots : ℕ) (old : SplitManaged) (flight : Flight) (left : List SplitAction) (made : SplitStep) (new : SplitManaged) → LeavesCurrent old made new
    → SplitSteps slots old (flight_count flight) left made new → AreCurrent (live_now old.whole) flight.words → AreCurrent (live_now new.whole) flight.words
step_current slots old flight left (split_step.Wrote part) new leaves did current = are_current_part (live_now new.whole) (live_now old.whole) flight.words leaves current
step_current slots old flight left split_step.Drained new leaves did current =
    let none : length flight.words + length flight.found ≡ 0 = drains_empty slots old (flight_count flight) left new did in
    no_words (live_now new.whole) flight.words (omega arith)
step_current slots old flight left (split_step.Waiting n) new leaves did current = are_current_part (live_now new.whole) (live_now old.whole) flight.words leaves current
step_current slots old flight left (split_step.Finished counts) new leaves did current = are_current_part (live_now new.whole) (live_now old.whole) flight.words leaves current
step_current slots old flight left split_step.Idle new leaves did current = are_current_part (live_now new.whole) (live_now old.whole) flight.words leaves current
