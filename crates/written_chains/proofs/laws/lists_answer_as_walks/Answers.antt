use Rattle.written_chains.proofs.Answers.{lists-answer}
use Rattle.written_chains.proofs.laws.lists_answer_as_walks.Goals as goal

pub returns : goal.returns
returns c = lists-answer
