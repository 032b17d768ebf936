use Rattle.std.proofs.Common.{◌∙◌}
use Rattle.iptables.proofs.Puts.{words-put}
use Rattle.iptables.proofs.telling.put_words.Goals as goal

pub returns : goal.returns
returns c =
    words-put c.args.version c.args.permits c.args.tests.now _ _ _ _ _ _ _ _ _ _ _ _ (c.as_bytes.ensures.value ∙ c.action_text.ensures) c.in_ok-put_bytes.ensures
    c.in_ok-put_side.ensures c.in_ok-put_bytes-2.ensures c.in_ok-put_side-2.ensures c.in_ok-put_bytes-3.ensures c.in_ok-put_proto.ensures c.in_ok-put_bytes-4.ensures c.in_ok-put_ports.ensures c.in_ok-put_bytes-5.ensures
    c.in_ok-put_ports-2.ensures
