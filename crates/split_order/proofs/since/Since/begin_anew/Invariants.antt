use Rattle.std.proofs.Common.{◌≡◌, ◌<◌, ℕ, length}
use Rattle.std.specs.Prelude.{slice_index_or}
use Rattle.split_order.proofs.since.Since.begin_anew.Given as goal

-- the first places are clear
abbrev pub invariant-loop-place : goal.invariant-loop-place
invariant-loop-place l = record {
  size : length l.self.erased.items ≡ length l.fn.self.erased.items;
  clear : (at : ℕ) → at < l.place → slice_index_or l.self.erased.items at 0 ≡ 0;
  stretch : l.self.stretch ≡ 1;
  slots : l.self.slots ≡ l.fn.self.slots;
  bits : l.self.bits ≡ l.fn.self.bits;
}
