use Rattle.std.proofs.Common.{◌<◌, ℕ, List, min, ap, arith}
use Rattle.split_device.specs.State.{SplitState}
use Rattle.split_hardware.specs.Shadow.{RoomyMemory, halves}
use Rattle.split_hardware.proofs.memory.Memory.put_word.Goals as goal

pub set-requires : goal.set-requires
set-requires c = let some : 0 < min c.self.inside.src.spare c.self.inside.dst.spare = rw (← c.self.view_is) at c.requires in omega arith

pub set-requires-in-Dst : goal.set-requires-in-Dst
set-requires-in-Dst c = let some : 0 < min c.self.inside.src.spare c.self.inside.dst.spare = rw (← c.self.view_is) at c.requires in omega arith

pub returns-in-Src-clause-state : goal.returns-in-Src-clause-state
returns-in-Src-clause-state c =
    let i = c.self.inside in
    rw (c.in-Src.is, ← c.self.view_is)
    (ap (λ (words : List ℕ). let made : SplitState = record { slots = halves i.slots; results = i.results.items; src = words; dst = i.dst.words } in made) c.set.ensures.words)

pub returns-in-Dst-clause-state : goal.returns-in-Dst-clause-state
returns-in-Dst-clause-state c =
    let i = c.self.inside in
    rw (c.in-Dst.is, ← c.self.view_is)
    (ap (λ (words : List ℕ). let made : SplitState = record { slots = halves i.slots; results = i.results.items; src = i.src.words; dst = words } in made) c.set-in-Dst.ensures.words)

pub returns-in-Src-clause-spare : goal.returns-in-Src-clause-spare
returns-in-Src-clause-spare c =
    let less = c.set.ensures.spare in
    let same = ap (λ (memory : RoomyMemory). memory.spare) c.self.view_is in
    omega arith

pub returns-in-Dst-clause-spare : goal.returns-in-Dst-clause-spare
returns-in-Dst-clause-spare c =
    let less = c.set-in-Dst.ensures.spare in
    let same = ap (λ (memory : RoomyMemory). memory.spare) c.self.view_is in
    omega arith
