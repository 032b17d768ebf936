use Rattle.std.proofs.Common.{◌≡◌, ◌++◌, map, length}
use Rattle.rule_store.specs.declared.Command.TheVariants.{Del}
use Rattle.removals_first.proofs.parts.early_part.Given as goal

-- the removals of the batch and those that are left
abbrev pub invariant-loop-priority : goal.invariant-loop-priority
invariant-loop-priority l = l.part ++ map (λ priority. Del priority) l.ranks.items ≡ map (λ priority. Del priority) l.fn.ranks.items

abbrev pub decreases-loop-priority : goal.decreases-loop-priority
decreases-loop-priority l = length l.ranks.items
