use Rattle.std.proofs.Common.{sym, arith}
use Rattle.rule_model.proofs.WordRest.{passed, differs, ended}
use Rattle.rule_model.proofs.words.hits.Goals as goal

pub returns-then-word-i-ne0 : goal.returns-then-word-i-ne0
returns-then-word-i-ne0 c =
    sym (differs c.args.word.now.lane c.args.entry.now.value.lane c.args.entry.now.mask.lane c.loop-i.i
    (omega arith) (omega arith) (omega arith) c.loop-i.invariant c.if-word-i-ne0.true)

pub returns : goal.returns
returns c =
    sym (ended c.args.word.now.lane c.args.entry.now.value.lane c.args.entry.now.mask.lane c.loop-i.i (omega arith) c.loop-i.invariant)

pub loop-i-preserved : goal.loop-i-preserved
loop-i-preserved c =
    passed c.args.word.now.lane c.args.entry.now.value.lane c.args.entry.now.mask.lane c.loop-i.i
    (omega arith) (omega arith) (omega arith) c.loop-i.invariant c.if-word-i-ne0.false
