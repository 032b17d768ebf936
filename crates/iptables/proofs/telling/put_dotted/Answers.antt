use Rattle.iptables.proofs.Puts.{dotted-put}
use Rattle.iptables.proofs.telling.put_dotted.Goals as goal

pub returns : goal.returns
returns c =
    dotted-put c.args.address _ _ _ _ _ _ _ _ c.in_ok-put_number.ensures c.in_ok-put_bytes.ensures c.in_ok-put_number-2.ensures c.in_ok-put_bytes-2.ensures c.in_ok-put_number-3.ensures c.in_ok-put_bytes-3.ensures c.in_ok-put_number-4.ensures
