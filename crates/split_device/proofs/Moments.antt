-- Where each write stands in its time, each read answers what an undivided look-up at one of its moments would.
use Rattle.std.proofs.Common.{◌≡◌, ℕ, Bool, true, false, Option, None, Some, List, [], ◌∷◌, ◌++◌, length, map, drop, Contains, IsFalse, inl, inr, refl, sym, ◌∙◌, subst, ap, set, get_or-set_other}
use Rattle.std.specs.Prelude.{◌||◌, nat_eq}
use Rattle.std.specs.List.{list_any, AllByRecursion}
use Rattle.std.proofs.lemmas.Bool.{cases_eq, cases_lt, eq-eqb}
use Rattle.std.proofs.lemmas.List.{get_or_past}
use Rattle.std.proofs.lemmas.List.Elements.{Contains-append_left, Contains-append_right}
use Rattle.std.proofs.lemmas.List.Quantifiers.{position-Some}
use Rattle.slot_order.specs.Order.{slot}
use Rattle.slot_order.proofs.Lists.{all_append, contains_head}
use Rattle.slot_order.proofs.Writes.{slot_same, slot_other}
use Rattle.rule_model.specs.declared.Key.{Key}
use Rattle.rule_model.specs.declared.words.Word.{Word}
use Rattle.rule_model.specs.declared.Field.TheVariants.{Src, Dst}
use Rattle.split_device.specs.declared.SplitWrite.{SplitWrite}
use Rattle.split_device.specs.declared.SplitWrite.TheVariants.{Slot, Result, Table}
use Rattle.split_device.specs.State.{SplitState, no_result, parts_hit, read_at, split_lookup, split_apply}
use Rattle.split_device.specs.declared.SplitAction.TheVariants.{Written, Drained}
use Rattle.split_device.specs.Flight.{Event, Makes, Translates, Searches, Reads, Look, Pipeline, with_moment, begun_looks, happens, after_events, read_looks, reads, IsOfAMoment}
use Rattle.split_device.specs.Drains.{SinceDrain, nothing_since, since_write, since_made, since_event, since_events, is_erased, result_waits, is_drain_due, OldestIsCurrent, MayHappen, MayAllHappen}
use Rattle.split_device.specs.Waiting.{IsWaiting, AreWaiting}

neither : (a b : Bool) → (a || b) ≡ false → (a ≡ false) × (b ≡ false)
neither true b e = absurd (cc)
neither false b e = (refl, e)

later : (old : List SplitState) (state now : SplitState) (key : Key) (slot : Option ℕ) (before after : List (ℕ × ℕ)) → read_at before slot ≡ read_at after slot
    → (moment : SplitState) × Contains old moment × (split_lookup moment key ≡ read_at before slot)
    → (moment : SplitState) × Contains (old ++ now ∷ []) moment × (split_lookup moment key ≡ read_at after slot)
later old state now key slot before after same (moment, member, is) = (moment, Contains-append_left old (now ∷ []) moment member, is ∙ same)

erased_head : (at : ℕ) (erased : List ℕ) → list_any (λ one. nat_eq one at) (at ∷ erased) ≡ true
erased_head at erased = rw (eq-eqb at at refl) refl

erased_tail : (one at : ℕ) (erased : List ℕ) → list_any (λ one. nat_eq one at) erased ≡ true → list_any (λ one. nat_eq one at) (one ∷ erased) ≡ true
erased_tail one at erased is = or_true (nat_eq one at) (list_any (λ one. nat_eq one at) erased) is
  where
    or_true : (a b : Bool) → b ≡ true → (a || b) ≡ true
    or_true true b e = refl
    or_true false b e = e

-- a slot's write
slot_keeps : (state : SplitState) (since : SinceDrain) (at : ℕ) (parts : Option (Word × Word)) (look : Look) → IsWaiting state since look
    → IsWaiting (split_apply state (Slot at parts)) (since_write since (Slot at parts)) (with_moment (split_apply state (Slot at parts)) look)
slot_keeps state since at None look held = record {
  told = later look.moments state (split_apply state (Slot at None)) look.key look.slot state.results state.results refl held.told;
  gone = λ place is empty. elim (cases_eq place at) [
    | inl same ↦ subst (λ n. list_any (λ one. nat_eq one place) (n ∷ since.erased) ≡ true) same (erased_head place since.erased)
    | inr other ↦ erased_tail at place since.erased (held.gone place is (sym (slot_other state.slots at None place other) ∙ empty))
  ];
  still = λ place is slots bits. absurd (cc);
}
slot_keeps state since at (Some parts) look held = record {
  told = later look.moments state (split_apply state (Slot at (Some parts))) look.key look.slot state.results state.results refl held.told;
  gone = λ place is empty. elim (cases_eq place at) [
    | inr other ↦ held.gone place is (sym (slot_other state.slots at (Some parts) place other) ∙ empty)
    | inl same ↦ elim (cases_lt place (length state.slots)) [
      | inr past ↦ held.gone place is (get_or_past state.slots place None past)
      | inl inside ↦ absurd (
          let full : slot (set state.slots at (Some parts)) place ≡ Some parts = subst (λ n. slot (set state.slots n (Some parts)) place ≡ Some parts) same (slot_same state.slots place (Some parts) inside) in
          let wrong : Some parts ≡ None = sym full ∙ empty in cc)
    ]
  ];
  still = λ place is slots bits. absurd (cc);
}

-- a result word's write in its time
result_keeps : (state : SplitState) (since : SinceDrain) (at tag answer : ℕ) (look : Look) → IsFalse (is_drain_due state since (Result at tag answer)) → IsWaiting state since look
    → IsWaiting (split_apply state (Result at tag answer)) since (with_moment (split_apply state (Result at tag answer)) look)
result_keeps state since at tag answer look timely held = record { told = told look.slot refl; gone = held.gone; still = held.still }
  where
    next : SplitState
    next = split_apply state (Result at tag answer)

    now : IsFalse (result_waits since at (slot state.slots at))
    now = (neither since.bits (result_waits since at (slot state.slots at)) timely).1

    here : (place : ℕ) → look.slot ≡ Some place → place ≡ at → (stands : Option (Word × Word)) → slot state.slots place ≡ stands
        → (moment : SplitState) × Contains (look.moments ++ next ∷ []) moment × (split_lookup moment look.key ≡ read_at next.results look.slot)
    here place is same None empty =
        absurd (let waits : is_erased since place ≡ true = held.gone place is empty in
        let no : result_waits since place None ≡ false = subst (λ s. result_waits since place s ≡ false) empty (subst (λ n. result_waits since n (slot state.slots n) ≡ false) (sym same) now) in cc)
    here place is same (Some parts) full =
        let calm : since.slots ≡ false = subst (λ s. result_waits since place s ≡ false) full (subst (λ n. result_waits since n (slot state.slots n) ≡ false) (sym same) now) in
        let bits : since.bits ≡ false = (neither since.bits (result_waits since at (slot state.slots at)) timely).0 in (
          next,
          Contains-append_right look.moments (next ∷ []) next (contains_head next []),
          ap (read_at next.results) (held.still place is calm bits ∙ sym is),
        )

    told : (found : Option ℕ) → look.slot ≡ found
        → (moment : SplitState) × Contains (look.moments ++ next ∷ []) moment × (split_lookup moment look.key ≡ read_at next.results look.slot)
    told None is = later look.moments state next look.key look.slot state.results next.results (ap (read_at state.results) is ∙ sym (ap (read_at next.results) is)) held.told
    told (Some place) is = elim (cases_eq place at) [
      | inl same ↦ here place is same (slot state.slots place) refl
      | inr other ↦
          later look.moments state next look.key look.slot state.results next.results
          (ap (read_at state.results) is ∙ (ap Some (sym (get_or-set_other state.results at place (tag, answer) no_result other)) ∙ sym (ap (read_at next.results) is))) held.told
    ]

-- a table's write
table_keeps : (state next : SplitState) (since : SinceDrain) (look : Look) → next.slots ≡ state.slots → next.results ≡ state.results
    → IsWaiting state since look → IsWaiting next (record since { bits = true }) (with_moment next look)
table_keeps state next since look slots results held = record {
  told = later look.moments state next look.key look.slot state.results next.results (ap (λ r. read_at r look.slot) (sym results)) held.told;
  gone = λ place at empty. held.gone place at (subst (λ s. slot s place ≡ None) slots empty);
  still = λ place at calm bits. absurd (cc);
}

-- any write in its time
write_keeps : (state : SplitState) (since : SinceDrain) (write : SplitWrite) (look : Look) → IsFalse (is_drain_due state since write) → IsWaiting state since look
    → IsWaiting (split_apply state write) (since_write since write) (with_moment (split_apply state write) look)
write_keeps state since (Slot at parts) look timely held = slot_keeps state since at parts look held
write_keeps state since (Result at tag answer) look timely held = result_keeps state since at tag answer look timely held
write_keeps state since (Table Src port word) look timely held = table_keeps state (split_apply state (Table Src port word)) since look refl refl held
write_keeps state since (Table Dst port word) look timely held = table_keeps state (split_apply state (Table Dst port word)) since look refl refl held

-- all look-ups that wait
writes_keep : (state : SplitState) (since : SinceDrain) (write : SplitWrite) (looks : List Look) → IsFalse (is_drain_due state since write) → AllByRecursion (IsWaiting state since) looks
    → AllByRecursion (IsWaiting (split_apply state write) (since_write since write)) (map (with_moment (split_apply state write)) looks)
writes_keep state since write [] timely held = tt
writes_keep state since write (look ∷ looks) timely held = (write_keeps state since write look timely held.0, writes_keep state since write looks timely held.1)

-- a search of a current word begins one
begun : (state : SplitState) (since : SinceDrain) (words : List (Key × Word)) → OldestIsCurrent state words → AllByRecursion (IsWaiting state since) (begun_looks state words)
begun state since [] current = tt
begun state since (oldest ∷ words) current = (
  record {
    told = (state, contains_head state [], ap (read_at state.results) (sym current));
    gone = λ at is empty. absurd (
        let hit : parts_hit oldest.1 (slot state.slots at) ≡ true = (position-Some (parts_hit oldest.1) state.slots at None is).1 in
        let none : parts_hit oldest.1 None ≡ true = subst (λ s. parts_hit oldest.1 s ≡ true) empty hit in cc);
    still = λ at is slots bits. sym current ∙ is;
  },
  tt,
)

rest_held : (state : SplitState) (since : SinceDrain) (looks : List Look) → AllByRecursion (IsWaiting state since) looks → AllByRecursion (IsWaiting state since) (drop 1 looks)
rest_held state since [] held = tt
rest_held state since (look ∷ looks) held = held.1

-- an event that may happen keeps what holds of them
event_keeps : (line : Pipeline) (since : SinceDrain) (event : Event) → MayHappen line since event → AreWaiting line.state since line.looks
    → AreWaiting (happens line event).state (since_event since event) (happens line event).looks
event_keeps line since (Makes (Written write)) may held = writes_keep line.state since write line.looks may held
event_keeps line since (Makes Drained) may held = subst (AllByRecursion (IsWaiting line.state nothing_since)) (sym may.1) tt
event_keeps line since (Translates key) may held = held
event_keeps line since Searches may held = all_append (IsWaiting line.state since) line.looks (begun_looks line.state line.words) held (begun line.state since line.words may)
event_keeps line since Reads may held = rest_held line.state since line.looks held

-- what is read now is of a moment
read_now : (state : SplitState) (since : SinceDrain) (looks : List Look) → AllByRecursion (IsWaiting state since) looks → AllByRecursion IsOfAMoment (read_looks state looks)
read_now state since [] held = tt
read_now state since (look ∷ looks) held = (held.0.told, tt)

-- Each look-up that is read is one of a moment between its search and its read.
pub each_of_a_moment : (line : Pipeline) (since : SinceDrain) (events : List Event) → AreWaiting line.state since line.looks → MayAllHappen line since events
    → AllByRecursion IsOfAMoment (reads line events)
each_of_a_moment line since [] held may = tt
each_of_a_moment line since (Reads ∷ events) held may =
    all_append IsOfAMoment (read_looks line.state line.looks) (reads (happens line Reads) events)
    (read_now line.state since line.looks held) (each_of_a_moment (happens line Reads) since events (event_keeps line since Reads may.0 held) may.1)
each_of_a_moment line since (Makes made ∷ events) held may = each_of_a_moment (happens line (Makes made)) (since_made since made) events (event_keeps line since (Makes made) may.0 held) may.1
each_of_a_moment line since (Translates key ∷ events) held may = each_of_a_moment (happens line (Translates key)) since events (event_keeps line since (Translates key) may.0 held) may.1
each_of_a_moment line since (Searches ∷ events) held may = each_of_a_moment (happens line Searches) since events (event_keeps line since Searches may.0 held) may.1

-- and those that wait then are as those that waited before
pub all_waiting : (line : Pipeline) (since : SinceDrain) (events : List Event) → AreWaiting line.state since line.looks → MayAllHappen line since events
    → AreWaiting (after_events line events).state (since_events since events) (after_events line events).looks
all_waiting line since [] held may = held
all_waiting line since (event ∷ events) held may =
    all_waiting (happens line event) (since_event since event) events (event_keeps line since event may.0 held) may.1
