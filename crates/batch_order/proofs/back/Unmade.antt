-- Words that are made, and then made again as they were, the last one first.
use Rattle.std.proofs.Common.{◌≡◌, List, [], ◌∷◌, refl, ap, ◌∙◌}
use Rattle.tcam_device.specs.declared.Write.{Write}
use Rattle.tcam_device.specs.State.{State, apply, state_after}
use Rattle.commit_writes.specs.Undo.{restoring, restorings}
use Rattle.commit_writes.proofs.Undone.{restored}
use Rattle.batch_order.specs.Undoing.{unmade}

pub unmade_made : (state : State) (writes : List Write) → unmade (state_after state writes) (restorings state writes) ≡ state
unmade_made state [] = refl
unmade_made state (write ∷ writes) = ap (λ (now : State). apply now (restoring state write)) (unmade_made (apply state write) writes) ∙ restored state write
