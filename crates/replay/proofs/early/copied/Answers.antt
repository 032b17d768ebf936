use Rattle.std.proofs.Common.{◌∙◌, arith}
use Rattle.std.proofs.lemmas.List.{take_all}
use Rattle.replay.proofs.parting.Copied.{not_yet, one_more_in}
use Rattle.replay.proofs.early.copied.Goals as goal

pub insert-requires-clause-absent : goal.insert-requires-clause-absent
insert-requires-clause-absent c = not_yet c.args.rules.now.rules c.loop-i.i c.at.result.now c.len-count.ensures.falling c.at.ensures c.loop-i.copy.rules c.loop-i.invariant.in_it

pub loop-i-preserved : goal.loop-i-preserved
loop-i-preserved c = record {
  in_it = one_more_in c.args.rules.now.rules c.loop-i.i c.at.result.now c.len-count.ensures.falling c.at.ensures c.loop-i.copy.rules _ c.loop-i.invariant.in_it c.insert.ensures.rules;
  room = let room = c.loop-i.invariant.room in let spare = c.insert.ensures.spare in omega arith;
}

pub returns : goal.returns
returns c = c.loop-i.invariant.in_it ∙ take_all c.loop-i.i c.args.rules.now.rules (let size = c.len-count.ensures.count in let past = c.loop-i-test.false in omega arith)
