-- Insertions by parts: the runs of writes that each put one new entry into the memory, and how many writes they take.
use Rattle.std.specs.Prelude.{◌≡◌, ℕ, suc, ◌+◌, ◌-◌, ◌*◌, ◌≤◌, ◌⊎◌, max, Bool, true, false, Some, None, List, [], ◌∷◌, ◌++◌, Contains, length, map, fold, count_by}
use Rattle.std.specs.List.{AllByRecursion}
use Rattle.rule_model.specs.declared.words.Word.{Word}
use Rattle.rule_model.specs.declared.words.Entry.{Entry}
use Rattle.tcam_device.specs.declared.Write.{Write}
use Rattle.tcam_device.specs.declared.Write.TheVariants as whole
use Rattle.tcam_device.specs.Insertion.{Insertion, is_new, IsCrossingSpan}
use Rattle.split_device.specs.declared.SplitWrite.{SplitWrite}
use Rattle.split_device.specs.declared.SplitWrite.TheVariants.{Slot, Result, Table}
use Rattle.split_device.specs.State.{SplitState, undivided, result_at, split_apply}

-- An insertion: the state that it begins in, its writes, and the entry that the last of them completes.
pub record SplitInsertion : Type 0 where
  pub before : SplitState
  pub writes : List SplitWrite
  pub entry : Entry

-- the entry that a value and a mask complete in a slot, with the slot's result word
abbrev pub completed : SplitState → ℕ → Word × Word → Entry
completed state at (value, mask) =
    record {
      value = value;
      mask = mask;
      tag = (result_at state.results at).0;
      result = (result_at state.results at).1;
    }

-- whether they complete an entry whose value, mask and tag stand in no slot
abbrev pub completes_new : SplitState → ℕ → Word × Word → Bool
completes_new state at parts = is_new (undivided state) (completed state at parts)

-- the insertions, where run is what was written since the last one ended, and begun the state that the run began in
abbrev pub split_insertions_from : SplitState → List SplitWrite → SplitState → List SplitWrite → List SplitInsertion
split_insertions_from begun run state [] = []
split_insertions_from begun run state (Slot at (Some parts) ∷ writes) =
    let next = split_apply state (Slot at (Some parts)) in
    let longer = run ++ Slot at (Some parts) ∷ [] in
    elim (completes_new state at parts) [
      | true ↦ record { before = begun; writes = longer; entry = completed state at parts } ∷ split_insertions_from next [] next writes
      | false ↦ split_insertions_from begun longer next writes
    ]
split_insertions_from begun run state (Slot at None ∷ writes) =
    split_insertions_from begun (run ++ Slot at None ∷ []) (split_apply state (Slot at None)) writes
split_insertions_from begun run state (Result at tag answer ∷ writes) =
    split_insertions_from begun (run ++ Result at tag answer ∷ []) (split_apply state (Result at tag answer)) writes
split_insertions_from begun [] state (Table field port word ∷ writes) =
    let next = split_apply state (Table field port word) in split_insertions_from next [] next writes
split_insertions_from begun (first ∷ run) state (Table field port word ∷ writes) =
    split_insertions_from begun (first ∷ run) (split_apply state (Table field port word)) writes

-- Writes of slots and result words, cut after each that completes an entry whose value, mask and tag stood in no slot;
-- the rest, as result changes and erases, belongs to none.
abbrev pub split_insertions : SplitState → List SplitWrite → List SplitInsertion
split_insertions state writes = split_insertions_from state [] state writes

-- the number of writes of the longest insertion
abbrev pub longest_split_insertion : SplitState → List SplitWrite → ℕ
longest_split_insertion state writes = fold max 0 (map (λ insertion. length insertion.writes) (split_insertions state writes))

-- how many undivided writes put an entry into a slot
abbrev pub put_writes : List Write → ℕ
put_writes [] = 0
put_writes (whole.Slot at None ∷ writes) = put_writes writes
put_writes (whole.Slot at (Some entry) ∷ writes) = suc (put_writes writes)
put_writes (whole.Table field port word ∷ writes) = put_writes writes

-- An insertion by parts takes exactly three writes for each entry that the undivided one puts, but one: three for each that
-- is put over another one, and two for each that fills an empty slot, of which there is one more than erases.
abbrev pub TakesThreeEach : Insertion → SplitInsertion → Type 0
TakesThreeEach undivided split = length split.writes + 1 ≡ 3 * put_writes undivided.writes

-- the write changes a table's word
abbrev pub is_table_part : SplitWrite → Bool
is_table_part (Slot at parts) = false
is_table_part (Result at tag answer) = false
is_table_part (Table field port word) = true

-- how many writes change a table's word
abbrev pub table_parts : List SplitWrite → ℕ
table_parts writes = count_by is_table_part writes

-- the greatest crossing span of the insertions, 0 where there is none
pub record IsGreatestSplitSpan (made : List SplitInsertion) (span : ℕ) : Type 0 where
  pub no_less : AllByRecursion (λ insertion. (own : ℕ) × IsCrossingSpan (undivided insertion.before) insertion.entry own × (own ≤ span)) made
  pub no_more : (span ≡ 0) ⊎ ((insertion : SplitInsertion) × Contains made insertion × IsCrossingSpan (undivided insertion.before) insertion.entry span)

-- each insertion takes no more writes than a bound on its crossing span allows
abbrev pub AreSplitBoundedBy : (ℕ → ℕ) → List SplitInsertion → Type 0
AreSplitBoundedBy most made =
    AllByRecursion (λ insertion. (span : ℕ) × IsCrossingSpan (undivided insertion.before) insertion.entry span
    × (length insertion.writes ≤ most span)) made

-- At most 2 + 3 (m - 1) (1 + c) writes, c the insertion's crossing span and m a bound on overlap chains.
abbrev pub IsWithinSplitBound : ℕ → List SplitInsertion → Type 0
IsWithinSplitBound chain made = AreSplitBoundedBy (λ span. 2 + 3 * (chain - 1) * (1 + span)) made

-- each insertion has crossing span 0 and takes no more than so many writes, as of routes
abbrev pub IsSplitUncrossed : ℕ → List SplitInsertion → Type 0
IsSplitUncrossed most made =
    AllByRecursion (λ insertion. IsCrossingSpan (undivided insertion.before) insertion.entry 0 × (length insertion.writes ≤ most)) made
