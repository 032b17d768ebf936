use Rattle.std.proofs.Common.{◌++◌, codes, decimal}
use Rattle.import_lines.proofs.Tells.{puts-then}
use Rattle.judge_cli.proofs.lines.put_yes.Goals as goal

pub returns : goal.returns
returns c =
    let head = c.put_bytes.new.into.items in
    let commits = c.put_number.new.into.items in
    let between = c.put_bytes-2.new.into.items in
    let writes = c.put_number-2.new.into.items in
    let all = c.put_bytes-3.new.into.items in
    puts-then c.args.into.now.items head all (codes "yes commits ") (decimal c.args.commits ++ (codes " writes " ++ (decimal c.args.writes ++ codes "\n"))) c.in_ok-put_bytes.ensures
    (puts-then head commits all (decimal c.args.commits) (codes " writes " ++ (decimal c.args.writes ++ codes "\n")) c.in_ok-put_number.ensures
    (puts-then commits between all (codes " writes ") (decimal c.args.writes ++ codes "\n") c.in_ok-put_bytes-2.ensures
    (puts-then between writes all (decimal c.args.writes) (codes "\n") c.in_ok-put_number-2.ensures c.in_ok-put_bytes-3.ensures)))
