use Rattle.std.proofs.Common.{arith}
use Rattle.tcam_device.specs.State.{replay, table_of}
use Rattle.tcam_device.specs.View.{journal}
use Rattle.commit_writes.proofs.ReadBack.{table_size, next_word, all_words, one_more_short}
use Rattle.commit_writes.proofs.translation.tables.read_table.Goals as goal

pub loop-port-preserved : goal.loop-port-preserved
loop-port-preserved g c =
    let slots = (g.D.Writable.view c.args.device.now).slots in
    let writes = journal (g.D.Writable.view c.args.device.now) in
    let table = table_of c.args.field (replay slots writes) in
    let size = table_size c.args.field slots writes in
    let inside = c.loop-port-test.true in
    let was = c.loop-port.invariant in (
      next_word table c.loop-port.words.items c.push.new.self.items c.loop-port.port c.read_word.result (omega arith) c.read_word.ensures was.0 c.in_ok-push.ensures.items,
      one_more_short c.loop-port.words.items c.push.new.self.items c.read_word.result c.read_word.type_inv was.1 c.in_ok-push.ensures.items,
    )

pub returns-clause-words : goal.returns-clause-words
returns-clause-words g c =
    let slots = (g.D.Writable.view c.args.device.now).slots in
    let writes = journal (g.D.Writable.view c.args.device.now) in
    let size = table_size c.args.field slots writes in
    let past = c.loop-port-test.false in
    all_words (table_of c.args.field (replay slots writes)) c.loop-port.words.items c.loop-port.port (omega arith) c.loop-port.invariant.0
