use Rattle.std.proofs.Common.{◌≡◌, ◌≤◌, ◌-◌, Ok, drop, length}
use Rattle.std.specs.Prelude.{MatchOption}
use Rattle.written_chains.specs.Written.{rules_out, written_out}
use Rattle.written_chains.proofs.writing.+written_out.Given as goal

abbrev pub decreases-written_out : goal.decreases-written_out
decreases-written_out l = l.depth

-- the lines of the rules that are behind
abbrev pub invariant-rules : goal.invariant-rules
invariant-rules l = record {
  lines : rules_out l.most (λ callee. written_out l.most l.rules (l.depth - 1) callee) l.chain (drop l.place l.rules) ≡ Ok l.behind.items;
  few : length l.behind.items ≤ l.most;
  kept : MatchOption l.known (Unit {0}) (λ callee. written_out l.most l.rules (l.depth - 1) callee ≡ Ok l.kept.items);
}
