use Rattle.std.proofs.Common.{◌≡◌, ◌+◌, ◌-◌, ◌∙◌, ap, sym, subst, IfOk, Some, None, if◌then◌else◌}
use Rattle.iptables.specs.Values.{range_list}
use Rattle.iptables.proofs.Pieces.{list-behind, list-last, rest-whole}
use Rattle.iptables.proofs.ports.+put_list.Goals as goal

pub returns-in-None : goal.returns-in-None
returns-in-None t c =
    let all = list-last c.args.most c.args.into.now.items c.args.word.now c.colon_ports.result c.if-most-eq0.false c.in-None.ensures.place c.colon_ports.ensures in
    subst (λ o. IfOk c.put_range.result (λ b. o ≡ if b then Some c.put_range.new.into.items else None)) (sym all) c.put_range.ensures

pub returns-in_ok-is_list-in-Some : goal.returns-in_ok-is_list-in-Some
returns-in_ok-is_list-in-Some t c =
    let put = rw c.if-not-branch.false at c.in_ok-put_range-in-Some.ensures in
    list-behind c.args.most c.in-Some.place c.args.into.now.items c.put_range-in-Some.new.into.items c.args.word.now c.colon_ports-in-Some.result c.if-most-eq0.false c.in-Some.ensures.place c.colon_ports-in-Some.ensures put
    ∙ ap (λ rest. range_list (c.args.most - 1) c.put_range-in-Some.new.into.items rest) (sym (rest-whole c.args.word.now (c.in-Some.place + 1))) ∙ c.in_ok-is_list-in-Some.ensures
