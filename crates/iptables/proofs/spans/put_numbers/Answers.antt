use Rattle.std.proofs.Common.{◌≡◌, ◌++◌, OnOk, subst, sym}
use Rattle.iptables.specs.Values.{beside, bits_of}
use Rattle.iptables.proofs.spans.put_numbers.Goals as goal

pub returns-in-V6 : goal.returns-in-V6
returns-in-V6 c =
    subst (λ v. OnOk c.put_beside-in-V6.result (c.put_beside-in-V6.new.into.items ≡ c.args.into.now.items ++ beside c.args.side c.args.which (bits_of v) c.args.number)) (sym c.in-V6.is) c.put_beside-in-V6.ensures
