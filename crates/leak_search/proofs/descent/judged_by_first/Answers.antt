use Rattle.std.proofs.Common.{◌∙◌, refl, sym, subst, ap}
use Rattle.rule_model.specs.declared.words.Entry.{Entry}
use Rattle.std.proofs.Common.{List}
use Rattle.driver_trace.specs.Judged.{IsWrong}
use Rattle.leak_search.specs.Found.{found_in}
use Rattle.leak_search.proofs.Settling.{cut_within}
use Rattle.leak_search.proofs.descent.judged_by_first.Goals as goal

pub returns-in-Told-clause-right : goal.returns-in-Told-clause-right
returns-in-Told-clause-right c = λ is word is_word within wrong.
    let lists = c.args.lists.now in
    c.judged_where.ensures.right is word is_word within
    (subst (λ gets. IsWrong c.args.question.by gets (found_in lists.old.items word) (found_in lists.new.items word) c.args.question.asked)
    (ap (λ (some : List Entry). found_in some word) (sym c.as_slice-entries.ensures.value) ∙ c.in-Told.ensures.told c.in-Told.gets refl word is_word within) wrong)

pub returns-in-Open-clause-cut : goal.returns-in-Open-clause-cut
returns-in-Open-clause-cut c = λ lane bit same. cut_within _ _ lane bit same (c.in-Open.ensures.open c.in-Open.lane c.in-Open.bit refl)
