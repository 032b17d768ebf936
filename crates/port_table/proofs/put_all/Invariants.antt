use Rattle.std.proofs.Common.{◌≡◌, length, take}
use Rattle.port_table.specs.Table.{after_words}
use Rattle.port_table.proofs.put_all.Given as goal

abbrev pub invariant-loop-one : goal.invariant-loop-one
invariant-loop-one l = record {
  so_far : l.words ≡ after_words l.fn.words (take l.one-index l.written);
  size : length l.words ≡ 65536;
}
