use Rattle.std.proofs.Common.{refl}
use Rattle.driven_device.proofs.Kept.{plain_on}
use Rattle.driven_device.proofs.driven.Driven.into_parts.Goals as goal

pub returns : goal.returns
returns g c =
    let did = c.into_parts-parts.ensures in
    rw (← c.self.view_is) (record {
      parts = did.parts;
      set_bits = did.set_bits;
      plain = λ covers. plain_on c.self.inside.manager (g.D.Writable.view c.self.inside.device) c.self.invariant (did.plain covers);
      device = refl;
    })
