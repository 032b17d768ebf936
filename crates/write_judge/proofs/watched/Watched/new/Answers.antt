use Rattle.write_judge.proofs.Lookups.{blank_is}
use Rattle.write_judge.proofs.watched.Watched.new.Goals as goal

pub returns : goal.returns
returns c = blank_is c.args.slots c.in_ok-held.held.items c.in_ok-src.src c.in_ok-dst.dst c.in_ok-held.ensures c.in_ok-src.ensures c.in_ok-dst.ensures
