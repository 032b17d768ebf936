use Rattle.write_judge.specs.Judging.{StateBetween}
use Rattle.write_judge.proofs.Judgement.{clear_is_right, clear_at}
use Rattle.write_judge.proofs.judging.judged_in.Goals as goal

pub returns-in-Clear : goal.returns-in-Clear
returns-in-Clear c =
    let now : StateBetween = record { state = c.args.device.now; old = c.args.old.now; new = c.args.new.now } in
    let src = c.tables-tables.ensures.src in
    let dst = c.tables-tables.ensures.dst in
    clear_is_right c.args.question now c.has_words.ensures.src c.has_words.ensures.dst c.args.cube.now c.in_ok-lists.lists
    c.is_right.ensures.is_set c.is_right.ensures.right c.is_right-2.ensures.is_set c.is_right-2.ensures.right c.in_ok-lists.ensures.device c.in_ok-lists.ensures.old c.in_ok-lists.ensures.new
    (clear_at c.args.question c.in_ok-lists.lists _ _ _ _ c.args.cube.now src dst (c.in_ok-sought.ensures (let clear = c.in-Clear.is in cc)))

pub returns : goal.returns
returns c = c.told_at.ensures c.args.cube.now
