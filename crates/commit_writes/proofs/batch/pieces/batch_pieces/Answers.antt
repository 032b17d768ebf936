use Rattle.std.proofs.Common.{◌∙◌}
use Rattle.commit_writes.specs.Changes.{coded_by, during_of}
use Rattle.commit_writes.proofs.Changed.{pieces_are}
use Rattle.commit_writes.proofs.batch.pieces.batch_pieces.Goals as goal

pub returns : goal.returns
returns c =
    let pieces = pieces_are (coded_by c.args.bits.now) (during_of c.args.bits.now) c.args.rules.now.rules c.args.batch.now c.requires.is_set c.requires.sound c.in_ok-changes.changes.items c.in_ok-changes.ensures c.deref.result.now c.deref.ensures.value in
    record {
      inserted = c.in_ok-pieces.ensures.inserted ∙ pieces.inserted;
      rewritten = c.in_ok-pieces.ensures.rewritten ∙ pieces.rewritten;
      erased = c.in_ok-pieces.ensures.erased ∙ pieces.erased;
    }
