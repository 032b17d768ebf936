use Rattle.std.proofs.Common.{◌≡◌, subst, arith}
use Rattle.any_order.specs.Touched.{key_port}
use Rattle.line_judge.proofs.KeyCubes.{dst_lane, src_lane}
use Rattle.line_judge.proofs.cubes.port_lane.Goals as goal

pub returns-in-Src : goal.returns-in-Src
returns-in-Src c = λ key valid same.
    src_lane key.sport key.dport c.args.port _ _ valid.dport (subst (λ field. key_port field key ≡ c.args.port) c.in-Src.is same) (omega arith) (omega arith)

pub returns-in-Dst : goal.returns-in-Dst
returns-in-Dst c = λ key valid same.
    dst_lane key.sport key.dport c.args.port _ _ valid.dport (omega arith) (subst (λ field. key_port field key ≡ c.args.port) c.in-Dst.is same) (omega arith) (omega arith)
