use Rattle.commit_writes.proofs.Searches.{answer_as_look_ups}
use Rattle.commit_writes.proofs.laws.searches_answer_as_look_ups.Goals as goal

pub returns : goal.returns
returns c = answer_as_look_ups
