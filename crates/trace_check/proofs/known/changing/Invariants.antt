use Rattle.std.proofs.Common.{◌≡◌, take, filter}
use Rattle.readback.specs.Tasks.{changes_result}
use Rattle.trace_check.proofs.known.changing.Given as goal

-- those of the first pieces are in
abbrev pub invariant-loop-ranked : goal.invariant-loop-ranked
invariant-loop-ranked l = l.some.items ≡ filter (changes_result l.rules.rules) (take l.ranked-index l.pieces)
