use Rattle.std.proofs.Common.{List, subst}
use Rattle.rule_model.specs.declared.words.Entry.{Entry}
use Rattle.leak_search.specs.Found.{found_in}
use Rattle.leak_search.specs.Sought.{IsSettledAs}
use Rattle.leak_search.proofs.Settling.{settled_word}
use Rattle.leak_search.proofs.descent.judged_where.Goals as goal

pub returns-clause-right : goal.returns-clause-right
returns-clause-right c = λ is word is_word within wrong.
    let lists = c.args.lists.now in
    c.follows.ensures.right is (found_in lists.old.items word) (found_in lists.new.items word)
    (subst (λ (some : List Entry). IsSettledAs c.settle-old.result (found_in some word)) c.as_slice-old_entries.ensures.value
    (settled_word c.args.cube.now c.as_slice-old_entries.result.now c.settle-old.result c.settle-old.ensures.told word is_word within))
    (subst (λ (some : List Entry). IsSettledAs c.settle-new.result (found_in some word)) c.as_slice-new_entries.ensures.value
    (settled_word c.args.cube.now c.as_slice-new_entries.result.now c.settle-new.result c.settle-new.ensures.told word is_word within)) wrong
