use Rattle.std.proofs.Common.{◌<◌, ℕ, Some, length, ap, sym, ◌∙◌}
use Rattle.trace_check.proofs.ComesFound.{some_of}
use Rattle.trace_check.proofs.GroupsKept.{listed_less}
use Rattle.trace_check.proofs.groups.leave_one.Goals as goal

pub returns-in-Some-clause-slots : goal.returns-in-Some-clause-slots
returns-in-Some-clause-slots c other k apart was = rw (c.leave.ensures)
    (listed_less c.args.groups.now.items c.in-Some.group c.args.at c.index_mut.result.now (some_of (λ (g : ℕ). g < length c.args.groups.now.items) c.args.group c.in-Some.group c.in-Some.is c.requires) c.index_mut.ensures.value
    other k (λ same. apart) was)

pub returns-in-Some-clause-groups : goal.returns-in-Some-clause-groups
returns-in-Some-clause-groups c other away was = rw (c.leave.ensures)
    (listed_less c.args.groups.now.items c.in-Some.group c.args.at c.index_mut.result.now (some_of (λ (g : ℕ). g < length c.args.groups.now.items) c.args.group c.in-Some.group c.in-Some.is c.requires) c.index_mut.ensures.value
    other c.args.at (λ same. absurd (away (c.in-Some.is ∙ ap Some (sym same)))) was)
