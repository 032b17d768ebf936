use Rattle.std.proofs.Common.{◌≡◌, [], take}
use Rattle.rule_store.specs.Batch.{commands_naming}
use Rattle.line_judge.proofs.commands.is_unnamed.Given as goal

-- none of the first commands names it
abbrev pub invariant-loop-i : goal.invariant-loop-i
invariant-loop-i l = commands_naming l.priority (take l.i l.batch) ≡ []
