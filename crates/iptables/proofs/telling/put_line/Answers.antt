use Rattle.std.proofs.Common.{◌++◌, ap, ◌∙◌}
use Rattle.iptables.proofs.Puts.{line-put}
use Rattle.iptables.proofs.telling.put_line.Goals as goal

pub returns : goal.returns
returns c =
    line-put c.args.number c.args.words.now _ _ _ _ _ c.in_ok-put_bytes.ensures c.in_ok-put_number.ensures (c.in_ok-put_bytes-2.ensures ∙ ap (λ w. c.put_number.new.into.items ++ w) c.as_bytes.ensures) c.in_ok-put_bytes-3.ensures
