use Rattle.rule_store.proofs.Pieces.{fresh-cover}
use Rattle.rule_store.proofs.entries.fresh_entries.Goals as goal

pub overflow_sub-result : goal.overflow_sub-result
overflow_sub-result c =
    (fresh-cover c.args.old.now c.args.new.now c.entries_needed.result c.kept_entries.result (rw c.in-Cover.is at c.entries_needed.ensures.count) c.kept_entries.ensures).0

pub returns-in-Cover-clause-count : goal.returns-in-Cover-clause-count
returns-in-Cover-clause-count c =
    rw c.in-Cover.is (fresh-cover c.args.old.now c.args.new.now c.entries_needed.result c.kept_entries.result (rw c.in-Cover.is at c.entries_needed.ensures.count) c.kept_entries.ensures).1
