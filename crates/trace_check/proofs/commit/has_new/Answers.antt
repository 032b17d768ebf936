use Rattle.std.proofs.Common.{sym, ◌∙◌, ap}
use Rattle.commit_writes.specs.Actions.{have_bits}
use Rattle.commit_writes.specs.Bits.{new_bits}
use Rattle.commit_writes.specs.Changes.{during_of}
use Rattle.trace_check.proofs.PiecesKept.{none_new}
use Rattle.trace_check.proofs.commit.has_new.Goals as goal

pub returns-in-None : goal.returns-in-None
returns-in-None c = none_new c.args.live.now c.args.bits.now c.in-None.is (c.requires c.in-None.is)

pub returns-in-Some : goal.returns-in-Some
returns-in-Some c = c.any.ensures ∙ (ap have_bits c.new_since.ensures ∙ ap (λ live. have_bits (new_bits c.args.bits.now (during_of live))) (sym c.in-Some.is))
