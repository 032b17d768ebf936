-- The insertions of the parts of some writes are the parts of their insertions.
use Rattle.std.proofs.Common.{◌≡◌, ℕ, zero, suc, ◌<◌, Bool, true, false, not, Option, None, Some, List, [], ◌∷◌, ◌++◌, length, set, IsFalse, refl, sym, ◌∙◌, subst, ap, ap₂, append_assoc, append-nil, get_or-set_same}
use Rattle.std.specs.Prelude.{◌||◌}
use Rattle.std.specs.List.{list_any, AllByRecursion, AllZip}
use Rattle.std.proofs.lemmas.List.Folds.{list_any_at}
use Rattle.slot_order.specs.Order.{slot}
use Rattle.slot_order.proofs.Writes.{slot_same, slot_inside}
use Rattle.rule_model.specs.declared.words.Entry.{Entry}
use Rattle.rule_model.specs.Entry.{same_match}
use Rattle.tcam_device.specs.declared.Write.{Write}
use Rattle.tcam_device.specs.declared.Write.TheVariants as whole
use Rattle.tcam_device.specs.State.{State, IsInUse, apply, state_after}
use Rattle.tcam_device.specs.Insertion.{Insertion, is_new, holds_match, is_table_write, insertions, insertions_from}
use Rattle.tcam_device.proofs.Spans.{state_after-append}
use Rattle.split_device.specs.declared.SplitWrite.{SplitWrite}
use Rattle.split_device.specs.declared.SplitWrite.TheVariants.{Slot, Result}
use Rattle.split_device.specs.State.{SplitState, IsSized, no_result, result_at, undivided, split_apply, split_after}
use Rattle.split_writes.specs.Parts.{put_parts, parts_over, write_parts, parts_of_writes}
use Rattle.split_writes.specs.Insertion.{SplitInsertion, completed, completes_new, split_insertions, split_insertions_from}
use Rattle.split_writes.proofs.Undivided.{inside_of, erase_is, result_of_empty, put_is, result_is, replace_is, over_same, over_other, sized_after, sizes_kept}
use Rattle.split_writes.proofs.Through.{empty_parts}

-- one insertion and the same by parts
pub record IsParted (insertion : Insertion) (split : SplitInsertion) : Type 0 where
  pub before : undivided split.before ≡ insertion.before
  pub writes : split.writes ≡ parts_of_writes insertion.before insertion.writes
  pub entry : split.entry ≡ insertion.entry

-- an entry that stood where a slot is erased, and doesn't match, told nothing of a new one
any_erased : (entry standing : Entry) (slots : List (Option Entry)) (at : ℕ) → slot slots at ≡ Some standing → same_match entry standing ≡ false
    → list_any (holds_match entry) (set slots at None) ≡ list_any (holds_match entry) slots
any_erased entry standing [] at stands differ = refl
any_erased entry standing (held ∷ slots) zero stands differ =
    let no : holds_match entry held ≡ false = subst (λ h. holds_match entry h ≡ false) (sym stands) differ in
    sym (ap (λ b. b || list_any (holds_match entry) slots) no)
any_erased entry standing (held ∷ slots) (suc at) stands differ = ap (λ b. holds_match entry held || b) (any_erased entry standing slots at stands differ)

-- the insertions behind a write that completes an entry, new or not
abbrev cut : Bool → SplitState → List SplitWrite → Entry → SplitState → List SplitWrite → List SplitInsertion
cut new begun longer entry next writes =
    elim new [
      | true ↦ record { before = begun; writes = longer; entry = entry } ∷ split_insertions_from next [] next writes
      | false ↦ split_insertions_from begun longer next writes
    ]

-- a put into an empty slot
put_cut : (begun : SplitState) (run : List SplitWrite) (state : SplitState) (at : ℕ) (entry : Entry) (writes : List SplitWrite) → slot state.slots at ≡ None → at < length state.results
    → split_insertions_from begun run state (put_parts at entry ++ writes)
    ≡ cut (is_new (undivided state) entry) begun (run ++ put_parts at entry) entry (split_after state (put_parts at entry)) writes
put_cut begun run state at entry writes empty inside =
    let told : SplitState = split_apply state (Result at entry.tag entry.result) in
    let word : result_at told.results at ≡ (entry.tag, entry.result) = get_or-set_same state.results at (entry.tag, entry.result) no_result inside in
    let same : completed told at (entry.value, entry.mask) ≡ entry =
    ap (λ (w : ℕ × ℕ). record { value = entry.value; mask = entry.mask; tag = w.0; result = w.1 }) word in
    let new : completes_new told at (entry.value, entry.mask) ≡ is_new (undivided state) entry =
    ap (λ e. is_new (undivided told) e) same ∙ ap (λ s. is_new s entry) (result_of_empty state at (entry.tag, entry.result) empty inside) in
    ap (λ b. cut b begun ((run ++ Result at entry.tag entry.result ∷ []) ++ Slot at (Some (entry.value, entry.mask)) ∷ []) (completed told at (entry.value, entry.mask)) (split_after state (put_parts at entry)) writes) new
    ∙ (ap (λ e. cut (is_new (undivided state) entry) begun ((run ++ Result at entry.tag entry.result ∷ []) ++ Slot at (Some (entry.value, entry.mask)) ∷ []) e (split_after state (put_parts at entry)) writes) same
    ∙ ap (λ longer. cut (is_new (undivided state) entry) begun longer entry (split_after state (put_parts at entry)) writes)
    (append_assoc run (Result at entry.tag entry.result ∷ []) (Slot at (Some (entry.value, entry.mask)) ∷ [])))

-- parts, one after the other
pub parts_append : (state : State) (xs ys : List Write) → parts_of_writes state (xs ++ ys) ≡ parts_of_writes state xs ++ parts_of_writes (state_after state xs) ys
parts_append state [] ys = refl
parts_append state (x ∷ xs) ys =
    ap (λ rest. write_parts state x ++ rest) (parts_append (apply state x) xs ys)
    ∙ sym (append_assoc (write_parts state x) (parts_of_writes (apply state x) xs) (parts_of_writes (state_after (apply state x) xs) ys))

-- what is so far: a run and its parts
record IsSoFar (begun : State) (run : List Write) (state : State) (begun' : SplitState) (run' : List SplitWrite) (state' : SplitState) : Type 0 where
  begun_is : undivided begun' ≡ begun
  state_is : undivided state' ≡ state
  run_is : run' ≡ parts_of_writes begun run
  after : state_after begun run ≡ state
  sized : IsSized state'

-- with one write more
so_far_more : (begun : State) (run : List Write) (state : State) (begun' : SplitState) (run' : List SplitWrite) (state' : SplitState) (write : Write) (parts : List SplitWrite)
    → IsSoFar begun run state begun' run' state' → parts ≡ write_parts state write → undivided (split_after state' parts) ≡ apply state write
    → IsSoFar begun (run ++ write ∷ []) (apply state write) begun' (run' ++ parts) (split_after state' parts)
so_far_more begun run state begun' run' state' write parts so is leads = record {
  begun_is = so.begun_is;
  state_is = leads;
  run_is = ap₂ (λ a b. a ++ b) so.run_is (is ∙ (sym (append-nil (write_parts state write)) ∙ ap (λ (s : State). parts_of_writes s (write ∷ [])) (sym so.after)))
      ∙ sym (parts_append begun run (write ∷ []));
  after = state_after-append begun run (write ∷ []) ∙ ap (λ (s : State). apply s write) so.after;
  sized = sized_after state' parts so.sized;
}

-- no write is to a table
abbrev pub AreOfSlots : List Write → Type 0
AreOfSlots writes = AllByRecursion (λ write. IsFalse (is_table_write write)) writes

-- the insertions of writes and of their parts go on alike
abbrev Alike : List Write → Type 0
Alike writes =
    (begun : State) (run : List Write) (state : State) (begun' : SplitState) (run' : List SplitWrite) (state' : SplitState)
    → IsSoFar begun run state begun' run' state' → AllByRecursion (IsInUse (length state'.slots)) writes
    → AllZip IsParted (insertions_from begun run state writes) (split_insertions_from begun' run' state' (parts_of_writes state writes))

-- the insertions behind an undivided write of an entry, new or not
abbrev whole_cut : Bool → State → List Write → Entry → State → List Write → List Insertion
whole_cut new begun longer entry next writes =
    elim new [
      | true ↦ record { before = begun; writes = longer; entry = entry } ∷ insertions_from next [] next writes
      | false ↦ insertions_from begun longer next writes
    ]

cut_alike : (new : Bool) (begun : State) (run : List Write) (entry : Entry) (next : State) (begun' : SplitState) (run' : List SplitWrite) (next' : SplitState) (writes : List Write)
    → Alike writes → IsSoFar begun run next begun' run' next' → AllByRecursion (IsInUse (length next'.slots)) writes
    → AllZip IsParted (whole_cut new begun run entry next writes) (cut new begun' run' entry next' (parts_of_writes next writes))
cut_alike true begun run entry next begun' run' next' writes alike so inside = (
  record { before = so.begun_is; writes = so.run_is; entry = refl },
  alike next [] next next' [] next' record { begun_is = so.state_is; state_is = so.state_is; run_is = refl; after = refl; sized = so.sized } inside,
)
cut_alike false begun run entry next begun' run' next' writes alike so inside = alike begun run next begun' run' next' so inside

-- what is left is within the slots after some parts
inside_after : (state : SplitState) (parts : List SplitWrite) (writes : List Write) → AllByRecursion (IsInUse (length state.slots)) writes → AllByRecursion (IsInUse (length (split_after state parts).slots)) writes
inside_after state parts writes inside = subst (λ n. AllByRecursion (IsInUse n) writes) (sym (sizes_kept state parts).0) inside

module _ (writes : List Write) (alike : Alike writes) (begun : State) (run : List Write) (state : State) (begun' : SplitState) (run' : List SplitWrite) (state' : SplitState)
    (so : IsSoFar begun run state begun' run' state') (at : ℕ) (entry : Entry) (room : at < length state'.slots) (inside : AllByRecursion (IsInUse (length state'.slots)) writes) where
  abbrev write : Write
  write = whole.Slot at (Some entry)

  abbrev rest : List SplitWrite
  rest = parts_of_writes (apply state (whole.Slot at (Some entry))) writes

  words : at < length state'.results
  words = inside_of state' at so.sized room

  -- into an empty slot
  alike_empty : slot state.slots at ≡ None
      → AllZip IsParted (insertions_from begun run state (whole.Slot at (Some entry) ∷ writes)) (split_insertions_from begun' run' state' (put_parts at entry ++ parts_of_writes (apply state (whole.Slot at (Some entry))) writes))
  alike_empty empty =
      let next' = split_after state' (put_parts at entry) in
      subst (λ xs. AllZip IsParted (whole_cut (is_new state entry) begun (run ++ write ∷ []) entry (apply state write) writes) xs)
      (sym (put_cut begun' run' state' at entry rest (empty_parts state' at (ap (λ (s : State). slot s.slots at) so.state_is ∙ empty)) words
      ∙ ap (λ s. cut (is_new s entry) begun' (run' ++ put_parts at entry) entry next' rest) so.state_is))
      (cut_alike (is_new state entry) begun (run ++ write ∷ []) entry (apply state write) begun' (run' ++ put_parts at entry) next' writes alike
      (so_far_more begun run state begun' run' state' write (put_parts at entry) so (ap (λ held. parts_over held at entry) (sym empty))
      (put_is state' at entry words ∙ ap (λ (s : State). apply s write) so.state_is))
      (inside_after state' (put_parts at entry) writes inside))

  -- as a new result
  alike_same : (standing : Entry) → slot state.slots at ≡ Some standing → same_match entry standing ≡ true
      → AllZip IsParted (insertions_from begun run state (whole.Slot at (Some entry) ∷ writes)) (split_insertions_from begun' run' state' ((Result at entry.tag entry.result ∷ []) ++ parts_of_writes (apply state (whole.Slot at (Some entry))) writes))
  alike_same standing stands same =
      let parts = Result at entry.tag entry.result ∷ [] in
      let old : is_new state entry ≡ false =
      ap not (list_any_at (holds_match entry) state.slots at None (slot_inside state.slots at standing stands) (subst (λ held. holds_match entry held ≡ true) (sym stands) same)) in
      subst (λ b. AllZip IsParted (whole_cut b begun (run ++ write ∷ []) entry (apply state write) writes) (split_insertions_from begun' run' state' (parts ++ rest))) (sym old)
      (alike begun (run ++ write ∷ []) (apply state write) begun' (run' ++ parts) (split_after state' parts)
      (so_far_more begun run state begun' run' state' write parts so (sym (over_same standing entry at same) ∙ ap (λ held. parts_over held at entry) (sym stands))
      (result_is state' at entry standing words (ap (λ (s : State). slot s.slots at) so.state_is ∙ stands) same ∙ ap (λ (s : State). apply s write) so.state_is))
      (inside_after state' parts writes inside))

  -- in place of another entry
  alike_other : (standing : Entry) → slot state.slots at ≡ Some standing → same_match entry standing ≡ false
      → AllZip IsParted (insertions_from begun run state (whole.Slot at (Some entry) ∷ writes)) (split_insertions_from begun' run' state' ((Slot at None ∷ put_parts at entry) ++ parts_of_writes (apply state (whole.Slot at (Some entry))) writes))
  alike_other standing stands differ =
      let parts = Slot at None ∷ put_parts at entry in
      let erased : SplitState = split_apply state' (Slot at None) in
      let next' = split_after state' parts in
      let new : is_new (undivided erased) entry ≡ is_new state entry =
      ap (λ s. is_new s entry) (erase_is state' at ∙ ap (λ (s : State). apply s (whole.Slot at None)) so.state_is) ∙ ap not (any_erased entry standing state.slots at stands differ) in
      subst (λ xs. AllZip IsParted (whole_cut (is_new state entry) begun (run ++ write ∷ []) entry (apply state write) writes) xs)
      (sym (put_cut begun' (run' ++ Slot at None ∷ []) erased at entry rest (slot_same state'.slots at None room) words
      ∙ (ap (λ b. cut b begun' ((run' ++ Slot at None ∷ []) ++ put_parts at entry) entry next' rest) new
      ∙ ap (λ longer. cut (is_new state entry) begun' longer entry next' rest) (append_assoc run' (Slot at None ∷ []) (put_parts at entry)))))
      (cut_alike (is_new state entry) begun (run ++ write ∷ []) entry (apply state write) begun' (run' ++ parts) next' writes alike
      (so_far_more begun run state begun' run' state' write parts so (sym (over_other standing entry at differ) ∙ ap (λ held. parts_over held at entry) (sym stands))
      (replace_is state' at entry words ∙ ap (λ (s : State). apply s write) so.state_is))
      (inside_after state' parts writes inside))

  alike_over : (held : Option Entry) → slot state.slots at ≡ held
      → AllZip IsParted (insertions_from begun run state (whole.Slot at (Some entry) ∷ writes)) (split_insertions_from begun' run' state' (parts_over held at entry ++ parts_of_writes (apply state (whole.Slot at (Some entry))) writes))
  alike_over None stands = alike_empty stands
  alike_over (Some standing) stands = by (same_match entry standing) refl
    where
      by : (same : Bool) → same_match entry standing ≡ same
          → AllZip IsParted (insertions_from begun run state (whole.Slot at (Some entry) ∷ writes)) (split_insertions_from begun' run' state' (parts_over (Some standing) at entry ++ parts_of_writes (apply state (whole.Slot at (Some entry))) writes))
      by true e = subst (λ parts. AllZip IsParted (insertions_from begun run state (whole.Slot at (Some entry) ∷ writes)) (split_insertions_from begun' run' state' (parts ++ rest))) (sym (over_same standing entry at e)) (alike_same standing stands e)
      by false e = subst (λ parts. AllZip IsParted (insertions_from begun run state (whole.Slot at (Some entry) ∷ writes)) (split_insertions_from begun' run' state' (parts ++ rest))) (sym (over_other standing entry at e)) (alike_other standing stands e)

all_alike : (writes : List Write) → AreOfSlots writes → Alike writes
all_alike [] slots begun run state begun' run' state' so inside = tt
all_alike (whole.Slot at None ∷ writes) slots begun run state begun' run' state' so inside =
    all_alike writes slots.1 begun (run ++ whole.Slot at None ∷ []) (apply state (whole.Slot at None)) begun' (run' ++ Slot at None ∷ []) (split_apply state' (Slot at None))
    (so_far_more begun run state begun' run' state' (whole.Slot at None) (Slot at None ∷ []) so refl (erase_is state' at ∙ ap (λ (s : State). apply s (whole.Slot at None)) so.state_is))
    (inside_after state' (Slot at None ∷ []) writes inside.1)
all_alike (whole.Slot at (Some entry) ∷ writes) slots begun run state begun' run' state' so inside =
    alike_over writes (all_alike writes slots.1) begun run state begun' run' state' so at entry inside.0 inside.1 (slot state.slots at) refl
all_alike (whole.Table field port word ∷ writes) slots begun run state begun' run' state' so inside = absurd (let wrong : true ≡ false = slots.0 in cc)

-- The insertions of the parts of slot writes are the parts of the insertions.
pub insertions_parted : (state : SplitState) (writes : List Write) → IsSized state → AllByRecursion (IsInUse (length state.slots)) writes → AreOfSlots writes
    → AllZip IsParted (insertions (undivided state) writes) (split_insertions state (parts_of_writes (undivided state) writes))
insertions_parted state writes sized inside slots =
    all_alike writes slots (undivided state) [] (undivided state) state [] state record { begun_is = refl; state_is = refl; run_is = refl; after = refl; sized = sized } inside
