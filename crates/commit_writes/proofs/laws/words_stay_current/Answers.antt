use Rattle.commit_writes.proofs.Searches.{stay_current}
use Rattle.commit_writes.proofs.laws.words_stay_current.Goals as goal

pub returns : goal.returns
returns c = stay_current
