use Rattle.std.proofs.Common.{◌∙◌, sym, arith}
use Rattle.leak_search.proofs.Finding.{no_entry_left}
use Rattle.leak_search.proofs.TakenIn.{taken_last, taken_on}
use Rattle.leak_search.proofs.narrowing.narrowed.Goals as goal

pub returns-then-last : goal.returns-then-last
returns-then-last c = λ word is_word within.
    sym (c.loop-entry.invariant word is_word within
    ∙ taken_last c.args.cube.now c.args.entries.now c.loop-entry.entry-index c.entry-item.result (omega arith) c.entry-item.is c.loop-entry.some.items c.take_in.new.some.items
    c.in_ok-last.last c.if-last.true c.in_ok-last.ensures word is_word within)

pub loop-entry-preserved : goal.loop-entry-preserved
loop-entry-preserved c = λ word is_word within.
    c.loop-entry.invariant word is_word within
    ∙ taken_on c.args.cube.now c.args.entries.now c.loop-entry.entry-index c.entry-item.result (omega arith) c.entry-item.is c.loop-entry.some.items c.take_in.new.some.items
    c.in_ok-last.last c.if-last.false c.in_ok-last.ensures word is_word within

pub returns : goal.returns
returns c = λ word is_word within.
    sym (c.loop-entry.invariant word is_word within ∙ no_entry_left word c.loop-entry.some.items c.args.entries.now c.loop-entry.entry-index (omega arith))
