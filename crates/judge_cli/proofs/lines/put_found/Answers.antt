-- Both parts of a priority are those of its number.
use Rattle.std.proofs.Common.{◌≡◌, ◌++◌, ℕ, codes, decimal, subst}
use Rattle.rule_model.proofs.Ranks.{high_of-rank_of, low_of-rank_of}
use Rattle.import_lines.proofs.Tells.{puts-then}
use Rattle.judge_cli.proofs.lines.put_found.Goals as goal

pub returns : goal.returns
returns c =
    let low = low_of-rank_of c.priority.inside.high c.priority.inside.low c.priority.invariant in
    let high = high_of-rank_of c.priority.inside.high c.priority.inside.low c.priority.invariant in
    let first = decimal c.priority.inside.high in
    let second = decimal c.priority.inside.low in
    let last = codes " " ++ decimal c.args.told in
    let one = c.put_number.new.into.items in
    let two = c.put_bytes.new.into.items in
    let three = c.put_long_number.new.into.items in
    let all = c.put_more.new.into.items in
    rw (← c.priority.view_is, low, high)
    (puts-then c.args.into.now.items one all first (codes ":" ++ (second ++ last)) (subst (λ (n : ℕ). one ≡ c.args.into.now.items ++ decimal n) c.from.ensures c.in_ok-put_number.ensures)
    (puts-then one two all (codes ":") (second ++ last) c.in_ok-put_bytes.ensures
    (puts-then two three all second last c.in_ok-put_long_number.ensures (subst (λ (n : ℕ). all ≡ three ++ (codes " " ++ decimal n)) c.from-2.ensures c.in_ok-put_more.ensures))))
