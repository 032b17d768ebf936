use Rattle.std.proofs.Common.{subst}
use Rattle.leak_search.specs.Found.{AreWords}
use Rattle.write_judge.proofs.watched.Watched.has_words.Goals as goal

pub returns-clause-src : goal.returns-clause-src
returns-clause-src c = subst AreWords c.tables-tables.ensures.src c.are_words.ensures

pub returns-clause-dst : goal.returns-clause-dst
returns-clause-dst c = subst AreWords c.tables-tables.ensures.dst c.are_words-2.ensures
