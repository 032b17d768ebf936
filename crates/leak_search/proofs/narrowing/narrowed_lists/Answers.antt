use Rattle.std.proofs.Common.{subst}
use Rattle.leak_search.specs.Found.{AnswerAlike}
use Rattle.leak_search.proofs.narrowing.narrowed_lists.Goals as goal

pub returns-clause-device : goal.returns-clause-device
returns-clause-device c = subst (AnswerAlike c.args.cube.now c.in_ok-device.device.items) c.as_slice-device_entries.ensures.value c.in_ok-device.ensures

pub returns-clause-old : goal.returns-clause-old
returns-clause-old c = subst (AnswerAlike c.args.cube.now c.in_ok-old.old.items) c.as_slice-old_entries.ensures.value c.in_ok-old.ensures

pub returns-clause-new : goal.returns-clause-new
returns-clause-new c = subst (AnswerAlike c.args.cube.now c.in_ok-new.new.items) c.as_slice-new_entries.ensures.value c.in_ok-new.ensures
