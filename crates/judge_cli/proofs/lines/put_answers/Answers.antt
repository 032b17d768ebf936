use Rattle.std.proofs.Common.{◌++◌, codes}
use Rattle.import_lines.proofs.Tells.{puts-then}
use Rattle.judge_cli.specs.Lines.{answer_text}
use Rattle.judge_cli.proofs.lines.put_answers.Goals as goal

pub returns : goal.returns
returns c =
    let leak = c.args.leak.now in
    let gets = codes " gets " ++ answer_text leak.gets in
    let old = codes ", old " ++ answer_text leak.old in
    let fresh = codes ", new " ++ answer_text leak.new in
    let one = c.put_named.new.into.items in
    let two = c.put_named-2.new.into.items in
    let three = c.put_named-3.new.into.items in
    let all = c.put_bytes.new.into.items in
    puts-then c.args.into.now.items one all gets (old ++ (fresh ++ codes "\n")) c.in_ok-put_named.ensures
    (puts-then one two all old (fresh ++ codes "\n") c.in_ok-put_named-2.ensures
    (puts-then two three all fresh (codes "\n") c.in_ok-put_named-3.ensures c.in_ok-put_bytes.ensures))
