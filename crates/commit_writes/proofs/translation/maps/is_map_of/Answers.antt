use Rattle.std.proofs.lemmas.Bool.{both_ways}
use Rattle.rule_store.specs.Verdict.{coded_ranges}
use Rattle.commit_writes.proofs.SetRanges.{are_by, only_these}
use Rattle.commit_writes.proofs.translation.maps.is_map_of.Goals as goal

pub returns-then-has_no_other : goal.returns-then-has_no_other
returns-then-has_no_other c = (
  λ yes. are_by c.args.live.now (coded_ranges c.args.field c.args.rules.now.rules) (c.has_no_other.ensures.0 c.if-has_no_other.true) (c.has_each.ensures.0 yes),
  λ are. c.has_each.ensures.1 (λ range. (are range).1),
)

pub returns-else-has_no_other : goal.returns-else-has_no_other
returns-else-has_no_other c = (
  λ yes. absurd (both_ways c.has_no_other.result c.if-has_no_other.false yes),
  λ are. c.has_no_other.ensures.1 (only_these c.args.live.now (coded_ranges c.args.field c.args.rules.now.rules) are),
)
