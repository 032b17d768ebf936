use Rattle.std.proofs.Common.{ap₂, ◌∙◌}
use Rattle.rule_store.specs.Common.{common_blocks}
use Rattle.rule_store.proofs.entries.common_size.Goals as goal

pub returns-clause-count : goal.returns-clause-count
returns-clause-count c = c.common_blocks.ensures.count ∙ ap₂ common_blocks c.cover.ensures.list c.cover-2.ensures.list
