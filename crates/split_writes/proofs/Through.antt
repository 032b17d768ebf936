-- What holds before and after each undivided write, and where a slot is erased for one, holds after each of their parts.
use Rattle.std.proofs.Common.{◌≡◌, ℕ, zero, suc, ◌<◌, Bool, true, false, Option, None, Some, List, [], ◌∷◌, ◌++◌, length, take, IsFalse, refl, sym, ◌∙◌, subst}
use Rattle.std.specs.List.{AllByRecursion}
use Rattle.slot_order.specs.Order.{slot}
use Rattle.rule_model.specs.declared.Field.TheVariants.{Src, Dst}
use Rattle.rule_model.specs.declared.words.Word.{Word}
use Rattle.rule_model.specs.declared.words.Entry.{Entry}
use Rattle.rule_model.specs.Entry.{same_match}
use Rattle.tcam_device.specs.declared.Write.{Write}
use Rattle.tcam_device.specs.declared.Write.TheVariants as whole
use Rattle.tcam_device.specs.State.{State, IsInUse, apply, state_after}
use Rattle.tcam_device.specs.Insertion.{is_table_write}
use Rattle.split_device.specs.declared.SplitWrite.{SplitWrite}
use Rattle.split_device.specs.declared.SplitWrite.TheVariants.{Slot}
use Rattle.split_device.specs.State.{SplitState, IsSized, result_at, whole_entry, undivided, split_apply, split_after}
use Rattle.split_device.proofs.Whole.{whole_slot}
use Rattle.split_writes.specs.Parts.{put_parts, parts_over, write_parts, parts_of_writes}
use Rattle.split_writes.proofs.Undivided.{inside_of, erase_is, result_of_empty, put_is, result_is, replace_is, over_same, over_other, write_is, sizes_kept, sized_after}
use Rattle.slot_order.proofs.Writes.{slot_same}

-- a fact holds where a slot is erased so that another entry can be put there
abbrev pub HoldsOver : (State → Type 0) → State → ℕ → Entry → Type 0
HoldsOver Fact state at entry =
    (standing : Entry) → slot state.slots at ≡ Some standing → same_match entry standing ≡ false → Fact (apply state (whole.Slot at None))

-- it holds where this write needs an erase
abbrev pub HoldsWithin : (State → Type 0) → State → Write → Type 0
HoldsWithin Fact state (whole.Slot at None) = Unit {0}
HoldsWithin Fact state (whole.Slot at (Some entry)) = HoldsOver Fact state at entry
HoldsWithin Fact state (whole.Table field port word) = Unit {0}

-- it holds wherever one of some writes needs an erase
abbrev pub HoldsOfErased : (State → Type 0) → State → List Write → Type 0
HoldsOfErased Fact state [] = Unit {0}
HoldsOfErased Fact state (write ∷ writes) = HoldsWithin Fact state write × HoldsOfErased Fact (apply state write) writes

-- it holds before the first, after each, and wherever one needs an erase
abbrev pub HoldsThrough : (State → Type 0) → State → List Write → Type 0
HoldsThrough Fact state [] = Fact state
HoldsThrough Fact state (write ∷ writes) = Fact state × HoldsWithin Fact state write × HoldsThrough Fact (apply state write) writes

-- it holds of the undivided state before the first and after each part
abbrev pub HoldsAlong : (State → Type 0) → SplitState → List SplitWrite → Type 0
HoldsAlong Fact state [] = Fact (undivided state)
HoldsAlong Fact state (write ∷ writes) = Fact (undivided state) × HoldsAlong Fact (split_apply state write) writes

along_append : (Fact : State → Type 0) (state : SplitState) (xs ys : List SplitWrite) → HoldsAlong Fact state xs → HoldsAlong Fact (split_after state xs) ys → HoldsAlong Fact state (xs ++ ys)
along_append Fact state [] ys a b = b
along_append Fact state (x ∷ xs) ys a b = (a.0, along_append Fact (split_apply state x) xs ys a.1 b)

pub along_take : (Fact : State → Type 0) (state : SplitState) (writes : List SplitWrite) (n : ℕ) → HoldsAlong Fact state writes → Fact (undivided (split_after state (take n writes)))
along_take Fact state [] zero a = a
along_take Fact state [] (suc n) a = a
along_take Fact state (w ∷ writes) zero a = a.0
along_take Fact state (w ∷ writes) (suc n) a = along_take Fact (split_apply state w) writes n a.1

pub through_head : (Fact : State → Type 0) (state : State) (writes : List Write) → HoldsThrough Fact state writes → Fact state
through_head Fact state [] a = a
through_head Fact state (w ∷ writes) a = a.0

-- an empty slot
pub empty_parts : (state : SplitState) (at : ℕ) → slot (undivided state).slots at ≡ None → slot state.slots at ≡ None
empty_parts state at e = here (slot state.slots at) (sym (whole_slot state.slots state.results at) ∙ e)
  where
    here : (held : Option (Word × Word)) → whole_entry held (result_at state.results at) ≡ None → held ≡ None
    here None is = refl
    here (Some parts) is = absurd (let wrong : whole_entry (Some parts) (result_at state.results at) ≡ None = is in cc)

-- put into an empty slot
put_along : (Fact : State → Type 0) (state : SplitState) (at : ℕ) (entry : Entry) → slot state.slots at ≡ None → at < length state.results
    → Fact (undivided state) → Fact (apply (undivided state) (whole.Slot at (Some entry))) → HoldsAlong Fact state (put_parts at entry)
put_along Fact state at entry empty inside before after = (
  before,
  (
    subst Fact (sym (result_of_empty state at (entry.tag, entry.result) empty inside)) before,
    subst Fact (sym (put_is state at entry inside)) after,
  ),
)

-- over what stands
over_along : (Fact : State → Type 0) (state : SplitState) (at : ℕ) (entry : Entry) (held : Option Entry) → at < length state.slots → IsSized state → slot (undivided state).slots at ≡ held
    → Fact (undivided state) → HoldsOver Fact (undivided state) at entry → Fact (apply (undivided state) (whole.Slot at (Some entry)))
    → HoldsAlong Fact state (parts_over held at entry)
over_along Fact state at entry None inside sized stands before over after = put_along Fact state at entry (empty_parts state at stands) (inside_of state at sized inside) before after
over_along Fact state at entry (Some standing) inside sized stands before over after = by (same_match entry standing) refl
  where
    room : at < length state.results
    room = inside_of state at sized inside

    by : (same : Bool) → same_match entry standing ≡ same → HoldsAlong Fact state (parts_over (Some standing) at entry)
    by true e = subst (HoldsAlong Fact state) (sym (over_same standing entry at e)) (before, subst Fact (sym (result_is state at entry standing room stands e)) after)
    by false e = subst (HoldsAlong Fact state) (sym (over_other standing entry at e)) (
      before,
      put_along Fact (split_apply state (Slot at None)) at entry (slot_same state.slots at None inside) room
          (subst Fact (sym (erase_is state at)) (over standing stands e))
          (subst Fact (sym (replace_is state at entry room) ∙ put_is (split_apply state (Slot at None)) at entry room) after),
    )

write_along : (Fact : State → Type 0) (state : SplitState) (write : Write) → IsSized state → IsInUse (length state.slots) write
    → Fact (undivided state) → HoldsWithin Fact (undivided state) write → Fact (apply (undivided state) write) → HoldsAlong Fact state (write_parts (undivided state) write)
write_along Fact state (whole.Slot at None) sized inside before within after = (before, subst Fact (sym (erase_is state at)) after)
write_along Fact state (whole.Slot at (Some entry)) sized inside before within after =
    over_along Fact state at entry (slot (undivided state).slots at) inside sized refl before within after
write_along Fact state (whole.Table Src port word) sized inside before within after = (before, after)
write_along Fact state (whole.Table Dst port word) sized inside before within after = (before, after)

-- So it holds after each part of the writes.
pub parts_along : (Fact : State → Type 0) (state : SplitState) (writes : List Write) → IsSized state → AllByRecursion (IsInUse (length state.slots)) writes
    → HoldsThrough Fact (undivided state) writes → HoldsAlong Fact state (parts_of_writes (undivided state) writes)
parts_along Fact state [] sized inside through = through
parts_along Fact state (write ∷ writes) sized inside through =
    let parts = write_parts (undivided state) write in
    let next = split_after state parts in
    let one : undivided next ≡ apply (undivided state) write = write_is state write sized inside.0 in
    along_append Fact state parts (parts_of_writes (apply (undivided state) write) writes)
    (write_along Fact state write sized inside.0 through.0 through.1 (through_head Fact (apply (undivided state) write) writes through.2))
    (subst (λ (s : State). HoldsAlong Fact next (parts_of_writes s writes)) one
    (parts_along Fact next writes (sized_after state parts sized) (subst (λ n. AllByRecursion (IsInUse n) writes) (sym (sizes_kept state parts).0) inside.1)
    (subst (λ (s : State). HoldsThrough Fact s writes) (sym one) through.2)))

pub erased_append : (Fact : State → Type 0) (state : State) (xs ys : List Write) → HoldsOfErased Fact state xs → HoldsOfErased Fact (state_after state xs) ys → HoldsOfErased Fact state (xs ++ ys)
erased_append Fact state [] ys a b = b
erased_append Fact state (x ∷ xs) ys a b = (a.0, erased_append Fact (apply state x) xs ys a.1 b)

within_weaker : (Few Many : State → Type 0) (state : State) (write : Write) → ((s : State) → s.src ≡ state.src → s.dst ≡ state.dst → Few s → Many s) → HoldsWithin Few state write → HoldsWithin Many state write
within_weaker Few Many state (whole.Slot at None) up a = tt
within_weaker Few Many state (whole.Slot at (Some entry)) up a = λ standing stands differ. up (apply state (whole.Slot at None)) refl refl (a standing stands differ)
within_weaker Few Many state (whole.Table field port word) up a = tt

-- a fact that follows from another one in states of the same tables
pub erased_weaker : (Few Many : State → Type 0) (state : State) (writes : List Write) → AllByRecursion (λ write. IsFalse (is_table_write write)) writes
    → ((s : State) → s.src ≡ state.src → s.dst ≡ state.dst → Few s → Many s) → HoldsOfErased Few state writes → HoldsOfErased Many state writes
erased_weaker Few Many state [] slots up a = tt
erased_weaker Few Many state (whole.Slot at entry ∷ writes) slots up a =
    (within_weaker Few Many state (whole.Slot at entry) up a.0, erased_weaker Few Many (apply state (whole.Slot at entry)) writes slots.1 up a.1)
erased_weaker Few Many state (whole.Table field port word ∷ writes) slots up a = absurd (let wrong : true ≡ false = slots.0 in cc)

-- what holds after each of the first writes, and wherever one needs an erase, holds all the way
pub through_of : (Fact : State → Type 0) (state : State) (writes : List Write) → ((n : ℕ) → Fact (state_after state (take n writes))) → HoldsOfErased Fact state writes → HoldsThrough Fact state writes
through_of Fact state [] each erased = each 0
through_of Fact state (write ∷ writes) each erased = (each 0, erased.0, through_of Fact (apply state write) writes (λ n. each (suc n)) erased.1)
