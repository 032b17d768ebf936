use Rattle.std.proofs.Common.{ℕ, List, ap}
use Rattle.tcam_device.specs.State.{State}
use Rattle.write_judge.proofs.watched.Watched.write.Goals as goal

pub returns-in-Src : goal.returns-in-Src
returns-in-Src c =
    rw (c.in-Src.is, ← c.self.view_is)
    (ap (λ (words : List ℕ). let made : State = record { slots = c.self.inside.slots.items; src = words; dst = c.self.inside.tables.dst } in made) c.set.ensures)

pub returns-in-Dst : goal.returns-in-Dst
returns-in-Dst c =
    rw (c.in-Dst.is, ← c.self.view_is)
    (ap (λ (words : List ℕ). let made : State = record { slots = c.self.inside.slots.items; src = c.self.inside.tables.src; dst = words } in made) c.set-in-Dst.ensures)
