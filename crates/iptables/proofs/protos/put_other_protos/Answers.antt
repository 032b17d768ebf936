use Rattle.std.proofs.Common.{◌-◌, ◌∙◌, arith}
use Rattle.iptables.proofs.Pieces.{protos-next}
use Rattle.iptables.proofs.protos.put_other_protos.Goals as goal

pub protocols-preserved : goal.protocols-preserved
protocols-preserved c = record {
  put = protos-next c.args.proto c.protocols.left (c.protocols.left - 1) c.protocols.into.items c.put_proto_but.new.into.items (omega arith) c.in_ok-put_proto_but.ensures ∙ c.protocols.invariant.put;
  few = omega arith;
}
