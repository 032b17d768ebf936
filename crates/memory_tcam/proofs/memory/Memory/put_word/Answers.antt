use Rattle.std.proofs.Common.{◌<◌, ℕ, List, min, ap, arith}
use Rattle.tcam_device.specs.State.{State}
use Rattle.memory_tcam.specs.Tcam.{RoomyState}
use Rattle.memory_tcam.proofs.memory.Memory.put_word.Goals as goal

pub set-requires : goal.set-requires
set-requires c = let some : 0 < min c.self.inside.src.spare c.self.inside.dst.spare = rw (← c.self.view_is) at c.requires in omega arith

pub set-requires-in-Dst : goal.set-requires-in-Dst
set-requires-in-Dst c = let some : 0 < min c.self.inside.src.spare c.self.inside.dst.spare = rw (← c.self.view_is) at c.requires in omega arith

pub returns-in-Src-clause-state : goal.returns-in-Src-clause-state
returns-in-Src-clause-state c =
    rw (c.in-Src.is, ← c.self.view_is)
    (ap (λ (words : List ℕ). let made : State = record { slots = c.self.inside.slots; src = words; dst = c.self.inside.dst.words } in made) c.set.ensures.words)

pub returns-in-Dst-clause-state : goal.returns-in-Dst-clause-state
returns-in-Dst-clause-state c =
    rw (c.in-Dst.is, ← c.self.view_is)
    (ap (λ (words : List ℕ). let made : State = record { slots = c.self.inside.slots; src = c.self.inside.src.words; dst = words } in made) c.set-in-Dst.ensures.words)

pub returns-in-Src-clause-spare : goal.returns-in-Src-clause-spare
returns-in-Src-clause-spare c =
    let less = c.set.ensures.spare in
    let same = ap (λ (memory : RoomyState). memory.spare) c.self.view_is in
    omega arith

pub returns-in-Dst-clause-spare : goal.returns-in-Dst-clause-spare
returns-in-Dst-clause-spare c =
    let less = c.set-in-Dst.ensures.spare in
    let same = ap (λ (memory : RoomyState). memory.spare) c.self.view_is in
    omega arith
