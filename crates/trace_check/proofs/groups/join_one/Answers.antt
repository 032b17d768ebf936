use Rattle.std.proofs.Common.{sym, subst}
use Rattle.std.specs.Prelude.{◌<◌, ℕ, IfSome, OnOk, length, set}
use Rattle.std.proofs.lemmas.Result.{on_ok_weaker}
use Rattle.trace_check.specs.Groups.{IsListed}
use Rattle.trace_check.proofs.ComesFound.{some_of}
use Rattle.trace_check.proofs.GroupsKept.{listed_here, listed_more}
use Rattle.trace_check.proofs.groups.join_one.Goals as goal

pub returns-in-Some-clause-others : goal.returns-in-Some-clause-others
returns-in-Some-clause-others c = on_ok_weaker c.join.result (λ joined other k was. rw joined
    (listed_more c.args.groups.now.items c.in-Some.group c.args.at c.index_mut.result.now (some_of (λ (g : ℕ). g < length c.args.groups.now.items) c.args.group c.in-Some.group c.in-Some.is c.requires) c.index_mut.ensures.value other k was)) c.join.ensures.joined

pub returns-in-Some-clause-here : goal.returns-in-Some-clause-here
returns-in-Some-clause-here c =
    subst (λ g. OnOk c.join.result (IfSome g (λ group. IsListed (set c.args.groups.now.items c.in-Some.group c.join.new.self) group c.args.at))) (sym c.in-Some.is)
    (on_ok_weaker c.join.result (λ joined. rw joined
    (listed_here c.args.groups.now.items c.in-Some.group c.args.at c.index_mut.result.now (some_of (λ (g : ℕ). g < length c.args.groups.now.items) c.args.group c.in-Some.group c.in-Some.is c.requires))) c.join.ensures.joined)
