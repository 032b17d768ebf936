use Rattle.std.proofs.Common.{◌≡◌, ◌≤◌, IsTrue, length, take}
use Rattle.std.specs.Prelude.{vec_capacity}
use Rattle.std.specs.List.{AllByRecursion}
use Rattle.tcam_device.specs.Insertion.{is_table_write}
use Rattle.tcam_device.specs.State.{state_after}
use Rattle.commit_writes.specs.Undo.{restorings}
use Rattle.batch_order.proofs.undoing.make_words.Given as goal

-- the first words are made and noted
abbrev pub invariant-loop-word : goal.invariant-loop-word
invariant-loop-word l = record {
  made : l.tables ≡ state_after l.fn.tables (take l.word-index l.words);
  noted : l.undo.items ≡ restorings l.fn.tables (take l.word-index l.words);
  to_tables : AllByRecursion (λ word. IsTrue (is_table_write word)) (take l.word-index l.words);
  number : length l.undo.items ≡ l.word-index;
  room : length l.words ≤ vec_capacity l.undo;
}
