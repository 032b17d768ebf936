use Rattle.std.proofs.Common.{◌++◌, codes, decimal}
use Rattle.import_lines.proofs.Tells.{puts-then}
use Rattle.judge_cli.specs.Lines.{answers_text, key_text}
use Rattle.judge_cli.proofs.lines.put_leak.Goals as goal

pub returns : goal.returns
returns c =
    let head = c.put_bytes.new.into.items in
    let line = c.put_number.new.into.items in
    let named = c.put_bytes-2.new.into.items in
    let key = c.put_key.new.into.items in
    let all = c.put_answers.new.into.items in
    let leak = c.args.leak.now in
    let shown = key_text c.args.version leak.key in
    puts-then c.args.into.now.items head all (codes "no line ") (decimal c.args.line ++ (codes " packet " ++ (shown ++ answers_text leak))) c.in_ok-put_bytes.ensures
    (puts-then head line all (decimal c.args.line) (codes " packet " ++ (shown ++ answers_text leak)) c.in_ok-put_number.ensures
    (puts-then line named all (codes " packet ") (shown ++ answers_text leak) c.in_ok-put_bytes-2.ensures
    (puts-then named key all shown (answers_text leak) c.in_ok-put_key.ensures c.in_ok-put_answers.ensures)))
