use Rattle.write_judge.proofs.judging.confirmed.Goals as goal

pub returns : goal.returns
returns c = record {
  is_key = c.key_fields.ensures;
  gets = c.look-gets.ensures;
  old_answer = c.answer-old_answer.ensures;
  new_answer = c.answer-new_answer.ensures;
  wrong = c.is_wrong.ensures c.if-not-is_wrong.false;
}
