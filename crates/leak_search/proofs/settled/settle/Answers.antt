use Rattle.std.proofs.Common.{◌∙◌, [], arith, refl}
use Rattle.leak_search.proofs.Finding.{last_entry, no_entry_left, skipped_entry}
use Rattle.leak_search.proofs.Settling.{one_found, open_within, told_is}
use Rattle.leak_search.proofs.settled.settle.Goals as goal

pub returns-in-Hits-clause-told : goal.returns-in-Hits-clause-told
returns-in-Hits-clause-told c = λ told same word is_word within.
    c.loop-entry.invariant word is_word within
    ∙ last_entry c.args.entries.now c.loop-entry.entry-index c.entry-item.result (omega arith) c.entry-item.is word [] (c.in-Hits.ensures.hits refl word is_word within)
    ∙ one_found word c.entry-item.result (c.in-Hits.ensures.hits refl word is_word within) ∙ told_is _ told same

pub returns-in-Splits-clause-open : goal.returns-in-Splits-clause-open
returns-in-Splits-clause-open c = λ lane bit same. open_within _ _ lane bit same (c.in-Splits.ensures.splits _ _ refl)

pub loop-entry-preserved : goal.loop-entry-preserved
loop-entry-preserved c = λ word is_word within.
    c.loop-entry.invariant word is_word within
    ∙ skipped_entry c.args.entries.now c.loop-entry.entry-index c.entry-item.result (omega arith) c.entry-item.is word [] (c.in-Misses.ensures.misses refl word is_word within)

pub returns-clause-told : goal.returns-clause-told
returns-clause-told c = λ told same word is_word within.
    c.loop-entry.invariant word is_word within ∙ no_entry_left word [] c.args.entries.now c.loop-entry.entry-index (omega arith) ∙ told_is _ told same
