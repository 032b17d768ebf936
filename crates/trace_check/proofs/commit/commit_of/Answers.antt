use Rattle.std.proofs.Common.{◌∙◌}
use Rattle.commit_writes.specs.Changes.{coded_by, during_of}
use Rattle.trace_check.proofs.PiecesKept.{inserted_by, rewritten_by, erased_by, no_live}
use Rattle.trace_check.proofs.commit.commit_of.Goals as goal

pub with_entries-requires : goal.with_entries-requires
with_entries-requires c =
    inserted_by (coded_by c.args.live) c.args.bits.now c.args.rules.now.rules c.args.batch.now c.requires.may (during_of c.args.live) c.requires.during c.deref.result.now
    (c.deref.ensures.value ∙ c.in_ok-pieces.ensures.inserted)

pub changing-requires : goal.changing-requires
changing-requires c =
    rewritten_by (coded_by c.args.live) c.args.bits.now c.args.rules.now.rules c.args.batch.now c.requires.may (during_of c.args.live) c.requires.during c.deref-2.result.now
    (c.deref-2.ensures.value ∙ c.in_ok-pieces.ensures.rewritten)

pub with_entries-requires-2 : goal.with_entries-requires-2
with_entries-requires-2 c =
    erased_by (coded_by c.args.live) c.args.bits.now c.args.rules.now.rules c.args.batch.now c.requires.may (during_of c.args.live) c.requires.during c.deref-3.result.now
    (c.deref-3.ensures.value ∙ c.in_ok-pieces.ensures.erased)

pub has_new-gives_bit-requires : goal.has_new-gives_bit-requires
has_new-gives_bit-requires c none = no_live c.args.live c.args.bits.now c.args.rules.now.rules c.args.batch.now c.requires.may none
