use Rattle.std.proofs.Common.{◌≡◌, take}
use Rattle.std.specs.Prelude.{map}
use Rattle.rule_model.specs.Entry.{entry_for}
use Rattle.rule_entries.proofs.entries_for.Given as goal

-- the entries of the first pieces are in
abbrev pub invariant-loop-ranked : goal.invariant-loop-ranked
invariant-loop-ranked l = l.entries.items ≡ map entry_for (take l.ranked-index l.pieces)
