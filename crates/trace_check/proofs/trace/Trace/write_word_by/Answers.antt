use Rattle.std.proofs.Common.{false, arith, sym, ◌∙◌, subst}
use Rattle.std.proofs.lemmas.Result.{on_ok_weaker, IfErr-weaker}
use Rattle.tcam_device.specs.declared.Write.TheVariants as writes
use Rattle.trace_check.specs.Traced.{IsWritten}
use Rattle.trace_file.specs.declared.TraceLine.TheVariants as lines
use Rattle.commit_writes.specs.InFlight.{HasBits}
use Rattle.trace_check.proofs.LinesTaken.{memory_breaks}
use Rattle.trace_check.proofs.WritesTaken.{wrong_word, word_written, table_takes}
use Rattle.trace_check.proofs.trace.Trace.write_word_by.Goals as goal

pub returns-then-self-clause-broken : goal.returns-then-self-clause-broken
returns-then-self-clause-broken c keeps = absurd (let bad = sym c.if-self.true ∙ keeps.1 in cc)

pub returns-then-not-is_right-clause-broken : goal.returns-then-not-is_right-clause-broken
returns-then-not-is_right-clause-broken c keeps =
    wrong_word c.args.self.now c.args.commit c.requires.sized c.requires.opened c.if-self.false c.args.field c.args.port c.args.word (let fits = c.ranges.port.fits in omega arith)
    (λ right. c.is_right.ensures.wrong c.if-not-is_right.true (subst (λ live. HasBits live c.args.port c.args.word) (sym c.of.ensures) right)) keeps.0.stage

pub returns-clause-taken : goal.returns-clause-taken
returns-clause-taken c =
    on_ok_weaker c.count_write.result (λ same. table_takes c.args.self.now c.count_write.new.self c.args.field c.args.port c.args.word c.if-self.false
    (subst (IsWritten c.args.self.now (writes.Table c.args.field c.args.port c.args.word) c.args.self.now.moved false) (sym same) (word_written c.args.self.now c.args.commit c.requires.sized c.requires.opened c.if-self.false c.args.field c.args.port c.args.word (let fits = c.ranges.port.fits in omega arith) c.write_word.new.self (let fits = c.ranges.word.fits in omega arith)
    (subst (λ live. HasBits live c.args.port c.args.word) c.of.ensures (c.is_right.ensures.right c.if-not-is_right.false)) c.write_word.ensures.places c.write_word.ensures.state))) c.count_write.ensures.counted

pub returns-clause-broken : goal.returns-clause-broken
returns-clause-broken c =
    IfErr-weaker c.count_write.result _ _ (λ fault is. memory_breaks c.args.self.now (lines.Table c.args.field c.args.port c.args.word) fault is) c.count_write.ensures.memory
