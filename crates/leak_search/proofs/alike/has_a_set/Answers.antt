use Rattle.std.proofs.Common.{inl, inr, subst}
use Rattle.driver_trace.specs.Judged.{IsWrong}
use Rattle.leak_search.specs.Found.{found_in}
use Rattle.leak_search.proofs.alike.has_a_set.Goals as goal

pub returns-in-OldOrNew : goal.returns-in-OldOrNew
returns-in-OldOrNew c = λ yes word wrong.
    let lists = c.args.lists.now in
    let is = subst (IsWrong c.args.question.by (found_in lists.device.items word) (found_in lists.old.items word) (found_in lists.new.items word)) c.in-OldOrNew.is wrong in
    elim (c.has_either.ensures yes word) [ inl old ↦ is.0 old | inr new ↦ is.1 new ]

pub returns-in-New : goal.returns-in-New
returns-in-New c = λ yes word wrong.
    let lists = c.args.lists.now in
    subst (IsWrong c.args.question.by (found_in lists.device.items word) (found_in lists.old.items word) (found_in lists.new.items word)) c.in-New.is wrong (c.has_new.ensures yes word)

pub returns-in-Old : goal.returns-in-Old
returns-in-Old c = λ yes word wrong.
    let lists = c.args.lists.now in
    subst (IsWrong c.args.question.by (found_in lists.device.items word) (found_in lists.old.items word) (found_in lists.new.items word)) c.in-Old.is wrong (c.has_old.ensures yes word)

pub returns-in-Nothing : goal.returns-in-Nothing
returns-in-Nothing c = λ yes word wrong.
    let lists = c.args.lists.now in
    subst (IsWrong c.args.question.by (found_in lists.device.items word) (found_in lists.old.items word) (found_in lists.new.items word)) c.in-Nothing.is wrong
