use Rattle.std.proofs.Common.{◌<◌, subst}
use Rattle.split_hardware.proofs.Halves.{halves_size}
use Rattle.split_hardware.proofs.Kept.{put_is, put_kept}
use Rattle.split_hardware.proofs.memory.Memory.put.Goals as goal

pub set-requires : goal.set-requires
set-requires c = subst (λ n. c.args.slot < n) (halves_size c.self.inside.slots) (rw (← c.self.view_is) at c.requires)

pub returns-clause-state : goal.returns-clause-state
returns-clause-state c =
    rw (← c.self.view_is) (put_is c.self.inside.slots _ _ _ _ c.args.slot c.entry_of.result c.args.parts.now c.set.ensures c.entry_of.ensures)

pub invariant_of-self : goal.invariant_of-self
invariant_of-self c = put_kept c.self.inside.slots _ _ c.args.slot c.entry_of.result c.set.ensures c.self.invariant
