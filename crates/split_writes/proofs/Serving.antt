-- While a commit's parts are made the device serves the live ranges that it serves while its undivided writes are.
use Rattle.std.proofs.Common.{◌≡◌, ℕ, ◌<◌, ◌≤◌, Bool, true, false, Option, None, Some, List, [], ◌∷◌, ◌++◌, length, set, length-set, inl, inr, refl, sym, ◌∙◌, subst}
use Rattle.std.specs.List.{AllByRecursion}
use Rattle.std.proofs.lemmas.Bool.{cases_eq, cases_lt}
use Rattle.std.proofs.lemmas.List.{get_or_past}
use Rattle.slot_order.specs.Order.{slot}
use Rattle.slot_order.proofs.Writes.{slot_same, slot_other}
use Rattle.rule_model.specs.declared.words.Entry.{Entry}
use Rattle.rule_model.specs.Entry.{same_match}
use Rattle.tcam_device.specs.declared.Write.{Write}
use Rattle.tcam_device.specs.declared.Write.TheVariants as whole
use Rattle.tcam_device.specs.declared.Action.{Action}
use Rattle.tcam_device.specs.declared.Action.TheVariants as action
use Rattle.tcam_device.specs.State.{State, IsInUse, apply}
use Rattle.tcam_device.specs.Flight.{writes_in}
use Rattle.commit_writes.specs.Bits.{FieldBits}
use Rattle.commit_writes.specs.InFlight as undivided_flight
use Rattle.commit_writes.specs.InFlight.{ArePartOf, ServesLive}
use Rattle.commit_writes.proofs.Led.{same_part}
use Rattle.split_device.specs.declared.SplitWrite.{SplitWrite}
use Rattle.split_device.specs.declared.SplitWrite.TheVariants.{Slot, Result, Table}
use Rattle.split_device.specs.declared.SplitAction.{SplitAction}
use Rattle.split_device.specs.declared.SplitAction.TheVariants.{Written, Drained}
use Rattle.split_device.specs.State.{SplitState, IsSized, undivided, split_apply, split_after}
use Rattle.split_device.specs.Drains.{SinceDrain, nothing_since, since_write, since_all, is_drain_due, with_drains}
use Rattle.split_writes.specs.Parts.{put_parts, parts_over, write_parts, made_of}
use Rattle.split_writes.specs.InFlight.{ServingTo}
use Rattle.split_writes.proofs.Undivided.{inside_of, erase_is, result_of_empty, over_same, over_other, write_is, sized_after}
use Rattle.split_writes.proofs.Through.{empty_parts}
use Rattle.split_writes.proofs.Made.{inside_after}

-- a state that serves live ranges serves them with a slot erased
pub erased_serves : (bits : FieldBits) (state : State) (at : ℕ) → ServesLive bits state → ServesLive bits (apply state (whole.Slot at None))
erased_serves bits state at serves = record {
  src_words = serves.src_words;
  dst_words = serves.dst_words;
  src_right = serves.src_right;
  dst_right = serves.dst_right;
  tested = λ place entry stands. serves.tested place entry (was place entry stands);
}
  where
    was : (place : ℕ) (entry : Entry) → slot (set state.slots at None) place ≡ Some entry → slot state.slots place ≡ Some entry
    was place entry stands = elim (cases_eq place at) [
      | inr other ↦ sym (slot_other state.slots at None place other) ∙ stands
      | inl here ↦ elim (cases_lt at (length state.slots)) [
        | inl inside ↦ absurd (
            let empty : slot (set state.slots at None) place ≡ None = subst (λ i. slot (set state.slots at None) i ≡ None) (sym here) (slot_same state.slots at None inside) in
            let wrong : None ≡ Some entry = sym empty ∙ stands in cc)
        | inr past ↦ absurd (
            let none : slot (set state.slots at None) place ≡ None = subst (λ i. slot (set state.slots at None) i ≡ None) (sym here) (past_none state.slots at past) in
            let wrong : None ≡ Some entry = sym none ∙ stands in cc)
      ]
    ]
      where
        past_none : (slots : List (Option Entry)) (i : ℕ) → length slots ≤ i → slot (set slots i None) i ≡ None
        past_none slots i past = get_or_past (set slots i None) i None (subst (λ n. n ≤ i) (sym (length-set slots i None)) past)

-- what is made of some parts, and of what comes behind them
abbrev Then : SplitState → SinceDrain → List SplitWrite → (SinceDrain → List SplitAction) → List SplitAction
Then state since parts more = with_drains state since parts ++ more (since_all since (with_drains state since parts))

-- one part, whatever was done since the last drain: a drain before it changes nothing
one_serves : (bits next last : FieldBits) (state : SplitState) (part : SplitWrite) (parts : List SplitWrite) (more : SinceDrain → List SplitAction) → ServesLive bits (undivided state) → ArePartOf next bits
    → ((since : SinceDrain) → ServingTo next (split_apply state part) (Then (split_apply state part) since parts more) last)
    → (since : SinceDrain) → ServingTo bits state (Then state since (part ∷ parts) more) last
one_serves bits next last state part parts more serves less rest since = by (is_drain_due state since part)
  where
    by : (due : Bool) → ServingTo bits state (elim due [
      | true ↦ Drained ∷ Written part ∷ with_drains (split_apply state part) (since_write nothing_since part) parts
      | false ↦ Written part ∷ with_drains (split_apply state part) (since_write since part) parts
    ] ++ more (since_all since (elim due [
      | true ↦ Drained ∷ Written part ∷ with_drains (split_apply state part) (since_write nothing_since part) parts
      | false ↦ Written part ∷ with_drains (split_apply state part) (since_write since part) parts
    ]))) last
    by true = (serves, (bits, (serves, (next, less, rest (since_write nothing_since part)))))
    by false = (serves, (next, less, rest (since_write since part)))

-- the parts of a put into an empty slot
put_serves : (bits next last : FieldBits) (state : SplitState) (at : ℕ) (entry : Entry) (more : SinceDrain → List SplitAction) → slot state.slots at ≡ None → at < length state.results
    → ServesLive bits (undivided state) → ArePartOf next bits → ((since : SinceDrain) → ServingTo next (split_after state (put_parts at entry)) (more since) last)
    → (since : SinceDrain) → ServingTo bits state (Then state since (put_parts at entry) more) last
put_serves bits next last state at entry more empty inside serves less rest =
    let told : SplitState = split_apply state (Result at entry.tag entry.result) in
    one_serves bits bits last state (Result at entry.tag entry.result) (Slot at (Some (entry.value, entry.mask)) ∷ []) more serves (same_part bits)
    (one_serves bits next last told (Slot at (Some (entry.value, entry.mask))) [] more
    (subst (ServesLive bits) (sym (result_of_empty state at (entry.tag, entry.result) empty inside)) serves) less rest)

-- the parts of a write
over_serves : (bits next last : FieldBits) (state : SplitState) (at : ℕ) (entry : Entry) (held : Option Entry) (more : SinceDrain → List SplitAction) → at < length state.slots → IsSized state
    → slot (undivided state).slots at ≡ held → ServesLive bits (undivided state) → ArePartOf next bits → ((since : SinceDrain) → ServingTo next (split_after state (parts_over held at entry)) (more since) last)
    → (since : SinceDrain) → ServingTo bits state (Then state since (parts_over held at entry) more) last
over_serves bits next last state at entry None more inside sized stands serves less rest =
    put_serves bits next last state at entry more (empty_parts state at stands) (inside_of state at sized inside) serves less rest
over_serves bits next last state at entry (Some standing) more inside sized stands serves less rest = by (same_match entry standing) refl
  where
    -- whichever parts they are
    Serve : List SplitWrite → Type 0
    Serve parts = ((since : SinceDrain) → ServingTo next (split_after state parts) (more since) last) → (since : SinceDrain) → ServingTo bits state (Then state since parts more) last

    by : (same : Bool) → same_match entry standing ≡ same → (since : SinceDrain) → ServingTo bits state (Then state since (parts_over (Some standing) at entry) more) last
    by true e = subst Serve (sym (over_same standing entry at e)) (one_serves bits next last state (Result at entry.tag entry.result) [] more serves less) rest
    by false e =
        let erased : SplitState = split_apply state (Slot at None) in
        subst Serve (sym (over_other standing entry at e))
        (λ on. one_serves bits bits last state (Slot at None) (put_parts at entry) more serves (same_part bits)
        (put_serves bits next last erased at entry more (slot_same state.slots at None inside) (inside_of state at sized inside)
        (subst (ServesLive bits) (sym (erase_is state at)) (erased_serves bits (undivided state) at serves)) less on))
        rest

write_serves : (bits next last : FieldBits) (state : SplitState) (write : Write) (more : SinceDrain → List SplitAction) → IsInUse (length state.slots) write → IsSized state → ServesLive bits (undivided state) → ArePartOf next bits
    → ((since : SinceDrain) → ServingTo next (split_after state (write_parts (undivided state) write)) (more since) last)
    → (since : SinceDrain) → ServingTo bits state (Then state since (write_parts (undivided state) write) more) last
write_serves bits next last state (whole.Slot at None) more inside sized serves less rest = one_serves bits next last state (Slot at None) [] more serves less rest
write_serves bits next last state (whole.Slot at (Some entry)) more inside sized serves less rest = over_serves bits next last state at entry (slot (undivided state).slots at) more inside sized refl serves less rest
write_serves bits next last state (whole.Table field port word) more inside sized serves less rest = one_serves bits next last state (Table field port word) [] more serves less rest

-- What is made of some actions serves the ranges that the actions serve.
pub made_serves : (bits last : FieldBits) (state : SplitState) (actions : List Action) → IsSized state → AllByRecursion (IsInUse (length state.slots)) (writes_in actions)
    → undivided_flight.ServingTo bits (undivided state) actions last → (since : SinceDrain) → ServingTo bits state (made_of state since actions) last
made_serves bits last state [] sized inside serving since = serving
made_serves bits last state (action.Written write ∷ actions) sized inside serving since =
    let parts = write_parts (undivided state) write in
    let next = serving.1 in
    write_serves bits next.0 last state write (λ later. made_of (split_after state parts) later actions) inside.0 sized serving.0 next.1
    (made_serves next.0 last (split_after state parts) actions (sized_after state parts sized) (inside_after state parts (writes_in actions) inside.1)
    (subst (λ (s : State). undivided_flight.ServingTo next.0 s actions last) (sym (write_is state write sized inside.0)) next.2))
    since
made_serves bits last state (action.Drained ∷ actions) sized inside serving since =
    (serving.0, (serving.1.0, made_serves serving.1.0 last state actions sized inside serving.1.1 nothing_since))

-- the device serves the ranges now
pub split_serves_now : (bits last : FieldBits) (state : SplitState) (made : List SplitAction) → ServingTo bits state made last → ServesLive bits (undivided state)
split_serves_now bits last state [] serving = serving.0
split_serves_now bits last state (Written write ∷ made) serving = serving.0
split_serves_now bits last state (Drained ∷ made) serving = serving.0

-- the first of what is made serve too
pub split_serving_front : (bits last : FieldBits) (state : SplitState) (front back : List SplitAction) → ServingTo bits state (front ++ back) last → (there : FieldBits) × ServingTo bits state front there
split_serving_front bits last state [] back serving = (bits, (split_serves_now bits last state back serving, same_part bits))
split_serving_front bits last state (Written write ∷ front) back serving =
    let rest = split_serving_front serving.1.0 last (split_apply state write) front back serving.1.2 in
    (rest.0, (serving.0, (serving.1.0, serving.1.1, rest.1)))
split_serving_front bits last state (Drained ∷ front) back serving =
    let rest = split_serving_front serving.1.0 last state front back serving.1.1 in
    (rest.0, (serving.0, (serving.1.0, rest.1)))
