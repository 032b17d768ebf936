-- Every state that writes leave has its sizes, and words of 16 bits in its tables.
use Rattle.std.proofs.Common.{◌≡◌, ◌<◌, ◌^◌, ℕ, length, replicate, Option, None, sym, subst, arith, inl, inr}
use Rattle.std.specs.Prelude.{slice_index}
use Rattle.std.proofs.lemmas.Bool.{cases_lt}
use Rattle.std.proofs.lemmas.List.{length-replicate, get_or-replicate, get_or_past}
use Rattle.rule_model.specs.declared.words.Entry.{Entry}
use Rattle.tcam_device.specs.State.{IsState, blank, blank_table}
use Rattle.tcam_device.proofs.Kept.{blank_table-is}

blank_words : (port : ℕ) → slice_index blank_table port < 2 ^ 16
blank_words port = subst (λ table. slice_index table port < 2 ^ 16) (sym blank_table-is) (elim (cases_lt port 65536) [
  | inl below ↦ subst (λ word. word < 2 ^ 16) (sym (get_or-replicate {A = ℕ} 65536 port 0 0 below)) (omega arith)
  | inr past ↦ subst (λ word. word < 2 ^ 16) (sym (get_or_past (replicate 65536 0) port 0 (rw (length-replicate {A = ℕ} 65536 0) past))) (omega arith)
])

blank_size : length blank_table ≡ 2 ^ 16
blank_size = rw blank_table-is (length-replicate {A = ℕ} 65536 0)

pub IsState-blank : (slots : ℕ) → IsState slots (blank slots)
IsState-blank slots = record {
  size = length-replicate {A = Option Entry} slots None;
  src_size = blank_size;
  dst_size = blank_size;
  src_words = blank_words;
  dst_words = blank_words;
}
