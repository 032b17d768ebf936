-- What the words of some new bits do to a translation table: at each port it gets the word that has these bits by their ranges.
use Rattle.std.proofs.Common.{◌≡◌, ℕ, suc, ◌+◌, ◌<◌, ◌≤◌, ◌==◌, Bool, true, false, cond, None, Some, List, [], ◌∷◌, length, set, ◌⊎◌, inl, inr, refl, ap, sym, ◌∙◌, subst, arith, eqb-true}
use Rattle.std.specs.Prelude.{slice_index}
use Rattle.std.specs.List.{AllByRecursion, filter_map, enumerate_from, cons_option}
use Rattle.std.proofs.lemmas.Bool.{cases_eq}
use Rattle.std.proofs.lemmas.List.{length-set, get_or-set_same, get_or-set_other}
use Rattle.rule_model.specs.declared.Field.{Field}
use Rattle.rule_model.specs.declared.Field.TheVariants.{Src, Dst}
use Rattle.range_bits.specs.LiveRanges.{LiveRanges, word_for}
use Rattle.tcam_device.specs.declared.Write.{Write}
use Rattle.tcam_device.specs.declared.Write.TheVariants.{Table}
use Rattle.tcam_device.specs.State.{State, apply, state_after, table_of}
use Rattle.commit_writes.specs.Shape.{word_write, field_writes}

-- the other field
abbrev pub other_field : Field → Field
other_field Src = Dst
other_field Dst = Src

-- the word of a table's port with the bits
abbrev pub new_word : LiveRanges → List ℕ → ℕ → ℕ
new_word live table port = word_for live port (slice_index table port)

-- the write of one of these words
pub record IsWordWrite (field : Field) (live : LiveRanges) (table : List ℕ) (write : Write) : Type 0 where
  pub port : ℕ
  pub inside : port < length table
  pub is : write ≡ Table field port (new_word live table port)

-- a write of one field's table changes no slot and no word of the other's
pub record KeepsOthers (field : Field) (before after : State) : Type 0 where
  pub slots : after.slots ≡ before.slots
  pub other : table_of (other_field field) after ≡ table_of (other_field field) before

table-applied : (field : Field) (state : State) (port word : ℕ) → table_of field (apply state (Table field port word)) ≡ set (table_of field state) port word
table-applied Src state port word = refl
table-applied Dst state port word = refl

others-applied : (field : Field) (state : State) (port word : ℕ) → KeepsOthers field state (apply state (Table field port word))
others-applied Src state port word = record { slots = refl; other = refl }
others-applied Dst state port word = record { slots = refl; other = refl }

-- some ports of the table have their new words, the others still the old ones
pub record IsMixed (live : LiveRanges) (table now : List ℕ) : Type 0 where
  pub size : length now ≡ length table
  pub either : (port : ℕ) → (slice_index now port ≡ slice_index table port) ⊎ (slice_index now port ≡ new_word live table port)

pub mixed-set : (live : LiveRanges) (table now : List ℕ) (port : ℕ) → IsMixed live table now → port < length table → IsMixed live table (set now port (new_word live table port))
mixed-set live table now port mixed inside = record {
  size = length-set now port (new_word live table port) ∙ mixed.size;
  either = λ other. elim (cases_eq other port) [
    | inl same ↦ inr (subst (λ p. slice_index (set now port (new_word live table port)) p ≡ new_word live table p) (sym same)
        (let size = mixed.size in get_or-set_same now port (new_word live table port) 0 (omega arith)))
    | inr apart ↦ subst (λ w. (w ≡ slice_index table other) ⊎ (w ≡ new_word live table other)) (sym (get_or-set_other now port other (new_word live table port) 0 apart)) (mixed.either other)
  ];
}

-- the ports below a first one have their new words, and the others still the old ones
pub record AreWrittenBelow (live : LiveRanges) (table now : List ℕ) (first : ℕ) : Type 0 where
  pub size : length now ≡ length table
  pub written : (port : ℕ) → port < first → slice_index now port ≡ new_word live table port
  pub to_come : (port : ℕ) → first ≤ port → slice_index now port ≡ slice_index table port

written-same : (live : LiveRanges) (table now : List ℕ) (first : ℕ) → AreWrittenBelow live table now first → new_word live table first ≡ slice_index table first
    → AreWrittenBelow live table now (first + 1)
written-same live table now first below same = record {
  size = below.size;
  written = λ port less. elim (cases_eq port first) [
    | inl here ↦ subst (λ p. slice_index now p ≡ new_word live table p) (sym here) (below.to_come first (omega arith) ∙ sym same)
    | inr apart ↦ below.written port (omega arith)
  ];
  to_come = λ port past. below.to_come port (omega arith);
}

written-set : (live : LiveRanges) (table now : List ℕ) (first : ℕ) → AreWrittenBelow live table now first → first < length table
    → AreWrittenBelow live table (set now first (new_word live table first)) (first + 1)
written-set live table now first below inside = record {
  size = length-set now first (new_word live table first) ∙ below.size;
  written = λ port less. elim (cases_eq port first) [
    | inl here ↦ subst (λ p. slice_index (set now first (new_word live table first)) p ≡ new_word live table p) (sym here)
        (let size = below.size in get_or-set_same now first (new_word live table first) 0 (omega arith))
    | inr apart ↦ get_or-set_other now first port (new_word live table first) 0 apart ∙ below.written port (omega arith)
  ];
  to_come = λ port past. get_or-set_other now first port (new_word live table first) 0 (λ same. omega arith) ∙ below.to_come port (omega arith);
}

-- the words from a first port on
abbrev pub later_writes : Field → LiveRanges → ℕ → List ℕ → List Write
later_writes field live first words = filter_map (word_write field live) (enumerate_from first words)

-- the rest of a table
abbrev pub IsRest : List ℕ → ℕ → List ℕ → Type 0
IsRest table first words = (first + length words ≡ length table) × ((k : ℕ) → k < length words → slice_index words k ≡ slice_index table (first + k))

rest-tail : (table : List ℕ) (first word : ℕ) (words : List ℕ) → IsRest table first (word ∷ words) → IsRest table (first + 1) words
rest-tail table first word words rest = (
  (let size = rest.0 in omega arith),
  λ k inside. rest.1 (suc k) (omega arith) ∙ ap (slice_index table) (omega arith),
)

rest-head : (table : List ℕ) (first word : ℕ) (words : List ℕ) → IsRest table first (word ∷ words) → word ≡ slice_index table first
rest-head table first word words rest = rest.1 0 (omega arith) ∙ ap (slice_index table) (omega arith)

all_option : {X : Type 0} (P : X → Type 0) (none : Bool) (x : X) (xs : List X) → P x → AllByRecursion P xs → AllByRecursion P (cons_option (cond none None (Some x)) xs)
all_option P true x xs one all = all
all_option P false x xs one all = (one, all)

-- each write is that of a word
writes_words : (field : Field) (live : LiveRanges) (table : List ℕ) (first : ℕ) (words : List ℕ) → IsRest table first words
    → AllByRecursion (IsWordWrite field live table) (later_writes field live first words)
writes_words field live table first [] rest = tt
writes_words field live table first (word ∷ words) rest =
    let size = rest.0 in
    all_option (IsWordWrite field live table) (word_for live first word == word) (Table field first (word_for live first word)) (later_writes field live (first + 1) words)
    (record { port = first; inside = omega arith; is = ap (λ old. Table field first (word_for live first old)) (rest-head table first word words rest) })
    (writes_words field live table (first + 1) words (rest-tail table first word words rest))

pub field_writes-words : (field : Field) (live : LiveRanges) (table : List ℕ) → AllByRecursion (IsWordWrite field live table) (field_writes field live table)
field_writes-words field live table = writes_words field live table 0 table ((omega arith), λ k inside. ap (slice_index table) (omega arith))

-- what the table of the field and the rest of the state are after some writes
pub record IsAfterWords (field : Field) (P : List ℕ → Type 0) (before after : State) : Type 0 where
  pub table : P (table_of field after)
  pub others : KeepsOthers field before after

others-then : (field : Field) (before next after : State) → KeepsOthers field before next → KeepsOthers field next after → KeepsOthers field before after
others-then field before next after first second = record { slots = second.slots ∙ first.slots; other = second.other ∙ first.other }

-- all of them
words_from : (field : Field) (live : LiveRanges) (table : List ℕ) (first : ℕ) (words : List ℕ) (state : State) → IsRest table first words
    → AreWrittenBelow live table (table_of field state) first
    → IsAfterWords field (λ now. AreWrittenBelow live table now (length table)) state (state_after state (later_writes field live first words))
words_from field live table first [] state rest below = record {
  table = let size = rest.0 in subst (AreWrittenBelow live table (table_of field state)) (omega arith) below;
  others = record { slots = refl; other = refl };
}
words_from field live table first (word ∷ words) state rest below =
    one (word_for live first word == word) refl
    (λ next. words_from field live table (first + 1) words state (rest-tail table first word words rest) next)
    (words_from field live table (first + 1) words changed (rest-tail table first word words rest) set_now)
  where
    changed : State
    changed = apply state (Table field first (word_for live first word))

    inside : first < length table
    inside = let size = rest.0 in omega arith

    head : word ≡ slice_index table first
    head = rest-head table first word words rest

    set_now : AreWrittenBelow live table (table_of field changed) (first + 1)
    set_now = subst (λ now. AreWrittenBelow live table now (first + 1)) (sym (table-applied field state first (word_for live first word)))
        (subst (λ old. AreWrittenBelow live table (set (table_of field state) first (word_for live first old)) (first + 1)) (sym head)
        (written-set live table (table_of field state) first below inside))

    one : (same : Bool) → (word_for live first word == word) ≡ same
        → (AreWrittenBelow live table (table_of field state) (first + 1) → IsAfterWords field (λ now. AreWrittenBelow live table now (length table)) state (state_after state (later_writes field live (first + 1) words)))
        → IsAfterWords field (λ now. AreWrittenBelow live table now (length table)) changed (state_after changed (later_writes field live (first + 1) words))
        → IsAfterWords field (λ now. AreWrittenBelow live table now (length table)) state
        (state_after state (cons_option (cond (word_for live first word == word) None (Some (Table field first (word_for live first word)))) (later_writes field live (first + 1) words)))
    one true same skip on = rw same (skip (written-same live table (table_of field state) first below
        (subst (λ old. word_for live first old ≡ old) head (eqb-true _ _ same))))
    one false same skip on = rw same record { table = on.table; others = others-then field state changed (state_after changed (later_writes field live (first + 1) words)) (others-applied field state first (word_for live first word)) on.others }

-- after all of a field's writes each port of its table has its new word
pub record AreWritten (live : LiveRanges) (table now : List ℕ) : Type 0 where
  pub size : length now ≡ length table
  pub words : (port : ℕ) → port < length table → slice_index now port ≡ new_word live table port

pub field_written : (field : Field) (live : LiveRanges) (state : State) → IsAfterWords field (AreWritten live (table_of field state)) state (state_after state (field_writes field live (table_of field state)))
field_written field live state = record {
  table = record { size = all.table.size; words = all.table.written };
  others = all.others;
}
  where
    all : IsAfterWords field (λ now. AreWrittenBelow live (table_of field state) now (length (table_of field state))) state (state_after state (field_writes field live (table_of field state)))
    all = words_from field live (table_of field state) 0 (table_of field state) state ((omega arith), λ k inside. ap (slice_index (table_of field state)) (omega arith))
        record { size = refl; written = λ port less. absurd (omega arith); to_come = λ port past. refl }

writes_few : (field : Field) (live : LiveRanges) (first : ℕ) (words : List ℕ) → length (later_writes field live first words) ≤ length words
writes_few field live first [] = omega arith
writes_few field live first (word ∷ words) = one (word_for live first word == word) (writes_few field live (first + 1) words)
  where
    one : (same : Bool) → length (later_writes field live (first + 1) words) ≤ length words
        → length (cons_option (cond same None (Some (Table field first (word_for live first word)))) (later_writes field live (first + 1) words)) ≤ length (word ∷ words)
    one true few = omega arith
    one false few = omega arith

-- at most one for each port
pub field_writes-few : (field : Field) (live : LiveRanges) (table : List ℕ) → length (field_writes field live table) ≤ length table
field_writes-few field live table = writes_few field live 0 table
