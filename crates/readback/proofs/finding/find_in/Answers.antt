use Rattle.std.proofs.Common.{inl, inr, sym, refl, subst}
use Rattle.readback.specs.Fault.{IsOneTooMany}
use Rattle.readback.proofs.SortedSlots.{crossed_there, missing_there, early_there, sorted}
use Rattle.readback.proofs.finding.find_in.Goals as goal

pub returns-in-Some-crossed-clause-fault : goal.returns-in-Some-crossed-clause-fault
returns-in-Some-crossed-clause-fault c state same =
    crossed_there c.args.commit.now c.args.held.now state same c.in-Some-crossed.slot c.args.places.now c.requires.places c.in-Some-crossed.ensures.some

pub returns-in-Err-clause-fault : goal.returns-in-Err-clause-fault
returns-in-Err-clause-fault c state same = subst (λ slots. IsOneTooMany slots c.in-Err.slot) (sym same) c.in-Err.ensures.more

pub returns-in-Some-missing-clause-fault : goal.returns-in-Some-missing-clause-fault
returns-in-Some-missing-clause-fault c state same = inl (missing_there c.args.commit.now c.args.held.now state same c.in-Some-missing.priority c.in-Some-missing.ensures.some)

pub returns-in-Err-count_tasks-clause-fault : goal.returns-in-Err-count_tasks-clause-fault
returns-in-Err-count_tasks-clause-fault c state same = inr (early_there c.args.commit.now c.args.held.now state same c.in-Err-count_tasks.priority c.in-Err-count_tasks.ensures.early)

pub returns-in-Ok-count_tasks-clause-found : goal.returns-in-Ok-count_tasks-clause-found
returns-in-Ok-count_tasks-clause-found c =
    sorted c.args.slots c.args.held.now c.args.commit.now c.args.places.now c.in-Ok-count_tasks.came.done c.in-Ok-count_tasks.came.left c.in-Ok.twin c.numbers.result c.requires.places
    (c.in_default.ensures.none refl) (c.in_default-crossed.ensures.none refl)
    c.in-Ok.ensures.one c.in-Ok.ensures.twin (c.in_default-missing.ensures.none refl) c.in-Ok-count_tasks.ensures.parted c.numbers.ensures.done c.numbers.ensures.left c.numbers.ensures.twin
