-- The numbers of a commit by parts, by those of its undivided writes.
use Rattle.std.proofs.Common.{◌≡◌, ℕ, ◌+◌, ◌-◌, ◌*◌, ◌≤◌, Bool, true, false, Option, None, Some, List, [], ◌∷◌, length, map, Contains, arith, inl, inr, refl, sym, ◌∙◌, subst, ap, ap₂}
use Rattle.std.specs.List.{AllByRecursion, AllZip}
use Rattle.slot_order.specs.Order.{slot}
use Rattle.slot_order.proofs.Lists.{contains_cases, contains_head, contains_none, contains_tail}
use Rattle.rule_model.specs.declared.words.Entry.{Entry}
use Rattle.rule_model.specs.Entry.{same_match}
use Rattle.rule_store.proofs.Counts.{count_by-append}
use Rattle.tcam_device.specs.declared.Write.{Write}
use Rattle.tcam_device.specs.declared.Write.TheVariants as whole
use Rattle.tcam_device.specs.State.{State, apply}
use Rattle.tcam_device.specs.Insertion.{Insertion, is_table_write, table_writes, IsCrossingSpan, IsGreatestSpan}
use Rattle.split_device.specs.State.{undivided}
use Rattle.split_writes.specs.Parts.{parts_over, write_parts, parts_of_writes}
use Rattle.split_writes.specs.Insertion.{SplitInsertion, is_table_part, put_writes, table_parts, TakesThreeEach, IsGreatestSplitSpan}
use Rattle.split_writes.proofs.Insertions.{IsParted}
use Rattle.split_writes.proofs.RowExact.{IsExactly}
use Rattle.split_writes.proofs.Undivided.{over_other, over_same}

-- an entry that is put writes no word of a table
over_words : (held : Option Entry) (at : ℕ) (entry : Entry) → table_parts (parts_over held at entry) ≡ 0
over_words None at entry = refl
over_words (Some standing) at entry = by (same_match entry standing) refl
  where
    by : (same : Bool) → same_match entry standing ≡ same → table_parts (parts_over (Some standing) at entry) ≡ 0
    by true e = ap table_parts (over_same standing entry at e)
    by false e = ap table_parts (over_other standing entry at e)

write_words : (state : State) (write : Write) → table_parts (write_parts state write) ≡ table_writes (write ∷ [])
write_words state (whole.Slot at None) = refl
write_words state (whole.Slot at (Some entry)) = over_words (slot state.slots at) at entry
write_words state (whole.Table field port word) = refl

-- the parts write as many words of the tables as the writes
pub words_parted : (state : State) (writes : List Write) → table_parts (parts_of_writes state writes) ≡ table_writes writes
words_parted state [] = refl
words_parted state (write ∷ writes) =
    count_by-append is_table_part (write_parts state write) (parts_of_writes (apply state write) writes)
    ∙ (ap₂ (λ a b. a + b) (write_words state write) (words_parted (apply state write) writes)
    ∙ sym (count_by-append is_table_write (write ∷ []) writes))

-- insertions that take three parts of each entry that they put, but one
pub three_each : (made : List Insertion) (split : List SplitInsertion) → AllByRecursion IsExactly made → AllZip IsParted made split → AllZip TakesThreeEach made split
three_each [] [] exact parted = tt
three_each [] (s ∷ split) exact parted = absurd parted
three_each (n ∷ made) [] exact parted = absurd parted
three_each (n ∷ made) (s ∷ split) exact parted =
    (subst (λ parts. length parts + 1 ≡ 3 * put_writes n.writes) (sym parted.0.writes) exact.0, three_each made split exact.1 parted.1)

-- so their lengths are told by what the undivided ones put
pub lengths_each : (made : List Insertion) (split : List SplitInsertion) → AllZip TakesThreeEach made split
    → map (λ (insertion : Insertion). 3 * put_writes insertion.writes - 1) made ≡ map (λ (insertion : SplitInsertion). length insertion.writes) split
lengths_each [] [] each = refl
lengths_each [] (s ∷ split) each = absurd each
lengths_each (n ∷ made) [] each = absurd each
lengths_each (n ∷ made) (s ∷ split) each =
    let one : length s.writes + 1 ≡ 3 * put_writes n.writes = each.0 in
    let same : 3 * put_writes n.writes - 1 ≡ length s.writes = omega arith in
    ap₂ (λ (first : ℕ) (rest : List ℕ). first ∷ rest) same (lengths_each made split each.1)

-- an insertion crosses by parts what it crosses undivided
span_same : (insertion : Insertion) (split : SplitInsertion) (span : ℕ) → IsParted insertion split → IsCrossingSpan insertion.before insertion.entry span
    → IsCrossingSpan (undivided split.before) split.entry span
span_same insertion split span parted is =
    subst (λ (state : State). IsCrossingSpan state split.entry span) (sym parted.before)
    (subst (λ entry. IsCrossingSpan insertion.before entry span) (sym parted.entry) is)

spans_less : (made : List Insertion) (split : List SplitInsertion) (span : ℕ) → AllZip IsParted made split
    → AllByRecursion (λ insertion. (own : ℕ) × IsCrossingSpan insertion.before insertion.entry own × (own ≤ span)) made
    → AllByRecursion (λ insertion. (own : ℕ) × IsCrossingSpan (undivided insertion.before) insertion.entry own × (own ≤ span)) split
spans_less [] [] span parted all = tt
spans_less [] (s ∷ split) span parted all = absurd parted
spans_less (n ∷ made) [] span parted all = absurd parted
spans_less (n ∷ made) (s ∷ split) span parted all = ((all.0.0, span_same n s all.0.0 parted.0 all.0.1, all.0.2), spans_less made split span parted.1 all.1)

-- each of the insertions has its one by parts
split_of : (made : List Insertion) (split : List SplitInsertion) (insertion : Insertion) → AllZip IsParted made split → Contains made insertion
    → (own : SplitInsertion) × Contains split own × IsParted insertion own
split_of [] split insertion parted member = absurd (contains_none insertion member)
split_of (n ∷ made) [] insertion parted member = absurd parted
split_of (n ∷ made) (s ∷ split) insertion parted member = elim (contains_cases n insertion made member) [
  | inl is ↦ (s, contains_head s split, subst (λ one. IsParted one s) is parted.0)
  | inr later ↦ let own = split_of made split insertion parted.1 later in (own.0, contains_tail s own.0 split own.1, own.2)
]

-- so the greatest span is the same
pub span_parted : (made : List Insertion) (split : List SplitInsertion) (span : ℕ) → AllZip IsParted made split → IsGreatestSpan made span → IsGreatestSplitSpan split span
span_parted made split span parted greatest = record {
  no_less = spans_less made split span parted greatest.no_less;
  no_more = elim greatest.no_more [
    | inl none ↦ inl none
    | inr one ↦ let own = split_of made split one.0 parted one.1 in inr (own.0, own.1, span_same one.0 own.0 span own.2 one.2)
  ];
}
