-- The parts of undivided writes amount to them: where each undivided write leads, its parts lead too.
use Rattle.std.proofs.Common.{◌≡◌, ℕ, zero, suc, ◌<◌, Bool, true, false, Option, None, Some, List, [], ◌∷◌, ◌++◌, length, set, refl, sym, ◌∙◌, subst, ap, ap₂, length-set, get_or-set_same}
use Rattle.std.specs.Prelude.{◌&&◌, nat_eq}
use Rattle.std.specs.List.{AllByRecursion}
use Rattle.std.proofs.lemmas.Bool.{and_parts, eqb-true}
use Rattle.std.proofs.lemmas.Slice.Eq.{bytes_eq-Decides}
use Rattle.slot_order.specs.Order.{slot}
use Rattle.rule_model.specs.declared.Field.TheVariants.{Src, Dst}
use Rattle.rule_model.specs.declared.words.Word.{Word}
use Rattle.rule_model.specs.declared.words.Entry.{Entry}
use Rattle.rule_model.specs.Entry.{same_word, same_match}
use Rattle.tcam_device.specs.declared.Write.{Write}
use Rattle.tcam_device.specs.declared.Write.TheVariants as whole
use Rattle.tcam_device.specs.State.{State, IsInUse, apply, state_after}
use Rattle.split_device.specs.declared.SplitWrite.{SplitWrite}
use Rattle.split_device.specs.declared.SplitWrite.TheVariants.{Slot, Result, Table}
use Rattle.split_device.specs.State.{SplitState, IsSized, no_result, result_at, whole_entry, whole_entries, undivided, split_apply, split_after}
use Rattle.split_device.proofs.Twice.{set_set}
use Rattle.split_device.proofs.Whole.{whole_slot, whole_slot_set, whole_result_set}
use Rattle.split_writes.specs.Parts.{put_parts, parts_over, write_parts, parts_of_writes}

-- what stands there already
pub set_slot : {A : Type 0} (xs : List (Option A)) (i : ℕ) (a : Option A) → slot xs i ≡ a → set xs i a ≡ xs
set_slot [] i a e = refl
set_slot (x ∷ xs) zero a e = ap (λ first. first ∷ xs) (sym e)
set_slot (x ∷ xs) (suc i) a e = ap (λ rest. x ∷ rest) (set_slot xs i a e)

-- the same lanes are the same word
word_same : (a b : Word) → same_word a b ≡ true → a ≡ b
word_same a b e = ap (λ lanes. record { lane = lanes }) ((bytes_eq-Decides a.lane b.lane).0 e)

-- entries of the same match are the same but for the result
pub match_parts : (a b : Entry) → same_match a b ≡ true → (a.value ≡ b.value) × (a.mask ≡ b.mask) × (a.tag ≡ b.tag)
match_parts a b e =
    let front = and_parts (same_word a.value b.value && same_word a.mask b.mask) (nat_eq a.tag b.tag) e in
    let words = and_parts (same_word a.value b.value) (same_word a.mask b.mask) front.0 in
    (word_same a.value b.value words.0, word_same a.mask b.mask words.1, eqb-true a.tag b.tag front.1)

abbrev pub with_slots : SplitState → List (Option Entry) → State
with_slots state slots = record { slots = slots; src = state.src; dst = state.dst }

-- an erase
pub erase_is : (state : SplitState) (at : ℕ) → undivided (split_apply state (Slot at None)) ≡ apply (undivided state) (whole.Slot at None)
erase_is state at = ap (with_slots state) (whole_slot_set state.slots state.results at None)

-- a result word of an empty slot changes nothing
pub result_of_empty : (state : SplitState) (at : ℕ) (word : ℕ × ℕ) → slot state.slots at ≡ None → at < length state.results
    → undivided (split_apply state (Result at word.0 word.1)) ≡ undivided state
result_of_empty state at word empty inside =
    ap (with_slots state) (whole_result_set state.slots state.results at word inside
    ∙ (ap (λ held. set (whole_entries state.slots state.results) at (whole_entry held word)) empty
    ∙ set_slot (whole_entries state.slots state.results) at None (whole_slot state.slots state.results at ∙ ap (λ held. whole_entry held (result_at state.results at)) empty)))

-- an entry that is put, over whatever stands
pub put_is : (state : SplitState) (at : ℕ) (entry : Entry) → at < length state.results
    → undivided (split_after state (put_parts at entry)) ≡ apply (undivided state) (whole.Slot at (Some entry))
put_is state at entry inside =
    ap (with_slots state) (whole_slot_set state.slots (set state.results at (entry.tag, entry.result)) at (Some (entry.value, entry.mask))
    ∙ (ap₂ (λ slots word. set slots at (whole_entry (Some (entry.value, entry.mask)) word))
    (whole_result_set state.slots state.results at (entry.tag, entry.result) inside) (get_or-set_same state.results at (entry.tag, entry.result) no_result inside)
    ∙ set_set (whole_entries state.slots state.results) at (whole_entry (slot state.slots at) (entry.tag, entry.result)) (Some entry)))

-- a new result of what stands
pub result_is : (state : SplitState) (at : ℕ) (entry standing : Entry) → at < length state.results → slot (undivided state).slots at ≡ Some standing → same_match entry standing ≡ true
    → undivided (split_apply state (Result at entry.tag entry.result)) ≡ apply (undivided state) (whole.Slot at (Some entry))
result_is state at entry standing inside stands same =
    ap (with_slots state) (whole_result_set state.slots state.results at (entry.tag, entry.result) inside
    ∙ ap (set (whole_entries state.slots state.results) at) (here (slot state.slots at) (sym (whole_slot state.slots state.results at) ∙ stands)))
  where
    here : (held : Option (Word × Word)) → whole_entry held (result_at state.results at) ≡ Some standing → whole_entry held (entry.tag, entry.result) ≡ Some entry
    here None is = absurd (let wrong : None ≡ Some standing = is in cc)
    here (Some (value, mask)) is =
        let one : record { value = value; mask = mask; tag = (result_at state.results at).0; result = (result_at state.results at).1 } ≡ standing = cc in
        let parts = match_parts entry standing same in
        let v : value ≡ entry.value = ap (λ (e : Entry). e.value) one ∙ sym parts.0 in
        let m : mask ≡ entry.mask = ap (λ (e : Entry). e.mask) one ∙ sym parts.1 in
        ap₂ (λ x y. Some (record { value = x; mask = y; tag = entry.tag; result = entry.result })) v m

pub over_same : (standing entry : Entry) (at : ℕ) → same_match entry standing ≡ true → parts_over (Some standing) at entry ≡ Result at entry.tag entry.result ∷ []
over_same standing entry at same = rw same refl

pub over_other : (standing entry : Entry) (at : ℕ) → same_match entry standing ≡ false → parts_over (Some standing) at entry ≡ Slot at None ∷ put_parts at entry
over_other standing entry at other = rw other refl

-- an entry that is put over another one, whose slot is erased first
pub replace_is : (state : SplitState) (at : ℕ) (entry : Entry) → at < length state.results
    → undivided (split_after state (Slot at None ∷ put_parts at entry)) ≡ apply (undivided state) (whole.Slot at (Some entry))
replace_is state at entry inside =
    put_is (split_apply state (Slot at None)) at entry inside
    ∙ (ap (λ (s : State). apply s (whole.Slot at (Some entry))) (erase_is state at)
    ∙ ap (with_slots state) (set_set (whole_entries state.slots state.results) at None (Some entry)))

-- the parts of one write
pub over_is : (state : SplitState) (at : ℕ) (entry : Entry) (held : Option Entry) → at < length state.results → slot (undivided state).slots at ≡ held
    → undivided (split_after state (parts_over held at entry)) ≡ apply (undivided state) (whole.Slot at (Some entry))
over_is state at entry None inside stands = put_is state at entry inside
over_is state at entry (Some standing) inside stands = by (same_match entry standing) refl
  where
    by : (same : Bool) → same_match entry standing ≡ same → undivided (split_after state (parts_over (Some standing) at entry)) ≡ apply (undivided state) (whole.Slot at (Some entry))
    by true e = ap (λ parts. undivided (split_after state parts)) (over_same standing entry at e) ∙ result_is state at entry standing inside stands e
    by false e = ap (λ parts. undivided (split_after state parts)) (over_other standing entry at e) ∙ replace_is state at entry inside

pub inside_of : (state : SplitState) (at : ℕ) → IsSized state → at < length state.slots → at < length state.results
inside_of state at sized inside = subst (λ n. at < n) (sym sized) inside

pub write_is : (state : SplitState) (write : Write) → IsSized state → IsInUse (length state.slots) write
    → undivided (split_after state (write_parts (undivided state) write)) ≡ apply (undivided state) write
write_is state (whole.Slot at None) sized inside = erase_is state at
write_is state (whole.Slot at (Some entry)) sized inside = over_is state at entry (slot (undivided state).slots at) (inside_of state at sized inside) refl
write_is state (whole.Table Src port word) sized inside = refl
write_is state (whole.Table Dst port word) sized inside = refl

pub after_append : (state : SplitState) (xs ys : List SplitWrite) → split_after state (xs ++ ys) ≡ split_after (split_after state xs) ys
after_append state [] ys = refl
after_append state (x ∷ xs) ys = after_append (split_apply state x) xs ys

-- parts keep how many slots and result words there are
size_kept : (state : SplitState) (write : SplitWrite) → (length (split_apply state write).slots ≡ length state.slots) × (length (split_apply state write).results ≡ length state.results)
size_kept state (Slot at parts) = (length-set state.slots at parts, refl)
size_kept state (Result at tag answer) = (refl, length-set state.results at (tag, answer))
size_kept state (Table Src port word) = (refl, refl)
size_kept state (Table Dst port word) = (refl, refl)

pub sizes_kept : (state : SplitState) (writes : List SplitWrite) → (length (split_after state writes).slots ≡ length state.slots) × (length (split_after state writes).results ≡ length state.results)
sizes_kept state [] = (refl, refl)
sizes_kept state (write ∷ writes) = let one = size_kept state write in let rest = sizes_kept (split_apply state write) writes in (rest.0 ∙ one.0, rest.1 ∙ one.1)

pub sized_after : (state : SplitState) (writes : List SplitWrite) → IsSized state → IsSized (split_after state writes)
sized_after state writes sized = let k = sizes_kept state writes in k.1 ∙ (sized ∙ sym k.0)

-- Some undivided writes and their parts lead to the same undivided state.
pub parts_lead : (state : SplitState) (writes : List Write) → IsSized state → AllByRecursion (IsInUse (length state.slots)) writes
    → undivided (split_after state (parts_of_writes (undivided state) writes)) ≡ state_after (undivided state) writes
parts_lead state [] sized inside = refl
parts_lead state (write ∷ writes) sized inside =
    let parts = write_parts (undivided state) write in
    let next = split_after state parts in
    let one : undivided next ≡ apply (undivided state) write = write_is state write sized inside.0 in
    ap undivided (after_append state parts (parts_of_writes (apply (undivided state) write) writes))
    ∙ (ap (λ (s : State). undivided (split_after next (parts_of_writes s writes))) (sym one)
    ∙ (parts_lead next writes (sized_after state parts sized) (subst (λ n. AllByRecursion (IsInUse n) writes) (sym (sizes_kept state parts).0) inside.1)
    ∙ ap (λ (s : State). state_after s writes) one))
