-- The state that a device was left in, by the words that are read back.
use Rattle.std.proofs.Common.{◌≡◌, ℕ, ◌<◌, ◌^◌, List, length, inl, inr, subst, sym, ◌∙◌, arith}
use Rattle.std.specs.Prelude.{slice_index}
use Rattle.std.proofs.lemmas.Bool.{cases_lt}
use Rattle.std.proofs.lemmas.List.{get_or_past}
use Rattle.rule_model.specs.declared.Field.TheVariants.{Src, Dst}
use Rattle.tcam_device.specs.declared.Write.{Write}
use Rattle.tcam_device.specs.State.{IsState, blank, replay}
use Rattle.tcam_device.proofs.States.{IsState-blank}
use Rattle.tcam_device.proofs.Wider.{slots-after}
use Rattle.commit_writes.proofs.ReadBack.{table_size}
use Rattle.readback.specs.Words.{AreShort}

-- a word past the table's end is 0
short_words : (table : List ℕ) → length table ≡ 2 ^ 16 → ((port : ℕ) → port < 2 ^ 16 → slice_index table port < 2 ^ 16) → (port : ℕ) → slice_index table port < 2 ^ 16
short_words table size short port = elim (cases_lt port (2 ^ 16)) [
  | inl below ↦ short port below
  | inr past ↦ subst (λ word. word < 2 ^ 16) (sym (get_or_past table port 0 (omega arith))) (omega arith)
]

pub replayed : (slots : ℕ) (writes : List Write) → AreShort (replay slots writes) → IsState slots (replay slots writes)
replayed slots writes short =
    let src_size : length (replay slots writes).src ≡ 2 ^ 16 = table_size Src slots writes in
    let dst_size : length (replay slots writes).dst ≡ 2 ^ 16 = table_size Dst slots writes in
    record {
      size = slots-after (blank slots) writes ∙ (IsState-blank slots).size;
      src_size = src_size;
      dst_size = dst_size;
      src_words = short_words (replay slots writes).src src_size (λ port below. short Src port below);
      dst_words = short_words (replay slots writes).dst dst_size (λ port below. short Dst port below);
    }
