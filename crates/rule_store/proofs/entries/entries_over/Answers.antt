use Rattle.std.proofs.Common.{◌∙◌, sym}
use Rattle.rule_store.proofs.Pieces.{pieces_of-length}
use Rattle.rule_store.proofs.entries.entries_over.Goals as goal

pub returns-in-None-clause-count : goal.returns-in-None-clause-count
returns-in-None-clause-count c = rw c.in-None.is (c.entries_needed.ensures.count ∙ sym (pieces_of-length c.args.mode c.args.new.now))
