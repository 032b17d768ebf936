use Rattle.std.proofs.Common.{◌∙◌, sym}
use Rattle.memory_tcam.proofs.Logged.{writes_in-events_of}
use Rattle.memory_tcam.proofs.log.Log.journal.Goals as goal

pub returns : goal.returns
returns c = rw (← c.self.view_is) (c.deref.ensures.value ∙ sym (writes_in-events_of c.self.inside.journal.items c.self.inside.gaps.items))
