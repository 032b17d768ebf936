-- A drain that is next is made where no word is in flight.
use Rattle.std.proofs.Common.{◌≡◌, true, false, List, [], ◌∷◌, Option, Some, None, IsSome}
use Rattle.std.specs.Prelude.{IsTrue}
use Rattle.tcam_device.specs.declared.Action.{Action}
use Rattle.tcam_device.specs.declared.Action.TheVariants.{Written, Drained}
use Rattle.batch_order.specs.Managed.{HeldCommit}
use Rattle.batch_order.specs.Steps.{awaits_drain, due_write, is_drain_next, next_of}

no-write : (actions : List Action) → IsTrue (is_drain_next actions) → IsSome (due_write actions) → ⊥
no-write [] next due = let no : false ≡ true = next in cc
no-write (Written write ∷ actions) next due = let no : false ≡ true = next in cc
no-write (Drained ∷ actions) next due = let no : false ≡ true = due in cc

-- and no write is due
pub none-due : (held : Option HeldCommit) → IsTrue (awaits_drain held) → IsSome (next_of held) → ⊥
none-due None awaits due = let no : false ≡ true = awaits in cc
none-due (Some held) awaits due = no-write held.actions awaits due
