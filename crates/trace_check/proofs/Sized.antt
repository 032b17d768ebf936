-- A write of a word of 16 bits leaves a state with its sizes.
use Rattle.std.proofs.Common.{◌≡◌, ℕ, ◌<◌, ◌^◌, List, length, sym, ◌∙◌, subst, inl, inr, arith, length-set, get_or-set_same, get_or-set_other}
use Rattle.std.specs.Prelude.{slice_index, slice_set}
use Rattle.std.proofs.lemmas.Bool.{cases_eq, cases_lt}
use Rattle.std.proofs.lemmas.List.{get_or_past}
use Rattle.rule_model.specs.declared.Field.TheVariants.{Src, Dst}
use Rattle.tcam_device.specs.declared.Write.{Write}
use Rattle.tcam_device.specs.declared.Write.TheVariants.{Slot, Table}
use Rattle.tcam_device.specs.State.{State, IsState, apply}

-- a word that is written to a table has 16 bits
abbrev pub HasWord : Write → Type 0
HasWord (Slot at entry) = Unit {0}
HasWord (Table field port word) = word < 2 ^ 16

words_set : (table : List ℕ) (port word : ℕ) → length table ≡ 2 ^ 16 → word < 2 ^ 16 → ((at : ℕ) → slice_index table at < 2 ^ 16) → (at : ℕ) → slice_index (slice_set table port word) at < 2 ^ 16
words_set table port word size small words at = elim (cases_eq at port) [
  | inr other ↦ subst (λ n. n < 2 ^ 16) (sym (get_or-set_other table port at word 0 other)) (words at)
  | inl same ↦ elim (cases_lt port (2 ^ 16)) [
    | inl below ↦ subst (λ n. n < 2 ^ 16) (sym (subst (λ p. slice_index (slice_set table port word) p ≡ word) (sym same) (get_or-set_same table port word 0 (let s = size in omega arith)))) small
    | inr past ↦ subst (λ n. n < 2 ^ 16) (sym (get_or_past (slice_set table port word) at 0 (let l = length-set table port word in let s = size in let e = same in omega arith))) (omega arith)
  ]
]

pub IsState-apply : (slots : ℕ) (state : State) (one : Write) → IsState slots state → HasWord one → IsState slots (apply state one)
IsState-apply slots state (Slot at entry) is word = record {
  size = length-set state.slots at entry ∙ is.size;
  src_size = is.src_size;
  dst_size = is.dst_size;
  src_words = is.src_words;
  dst_words = is.dst_words;
}
IsState-apply slots state (Table Src port word) is small = record {
  size = is.size;
  src_size = length-set state.src port word ∙ is.src_size;
  dst_size = is.dst_size;
  src_words = words_set state.src port word is.src_size small is.src_words;
  dst_words = is.dst_words;
}
IsState-apply slots state (Table Dst port word) is small = record {
  size = is.size;
  src_size = is.src_size;
  dst_size = length-set state.dst port word ∙ is.dst_size;
  src_words = is.src_words;
  dst_words = words_set state.dst port word is.dst_size small is.dst_words;
}
