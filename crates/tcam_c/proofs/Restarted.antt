-- What a restart from what was told rests on.
use Rattle.std.proofs.Common.{◌≡◌, ℕ, List, [], ◌∷◌, Option, Some, None, refl}
use Rattle.rule_model.specs.declared.Rule.{Rule}
use Rattle.rule_store.specs.declared.Mode.{Mode}
use Rattle.tcam_device.specs.declared.Action.{Action}
use Rattle.commit_writes.specs.Bits.{FieldBits}
use Rattle.batch_order.specs.declared.Placement.{Placement}
use Rattle.batch_order.specs.Managed.{HeldCommit, Managed}
use Rattle.batch_order.proofs.under_way.Stepped.{left_slots}
use Rattle.tcam_c.specs.Driven.{settled, settled_by, settled_of}
use Rattle.tcam_c.specs.Told.{Account}

-- a commit's end leaves the slots
settled_by_slots : (actions : List Action) (held : HeldCommit) (manager : Managed) → (settled_by actions held manager).slots ≡ manager.slots
settled_by_slots [] held manager = left_slots manager held held.way
settled_by_slots (action ∷ actions) held manager = refl

settled_of_slots : (held : Option HeldCommit) (manager : Managed) → (settled_of held manager).slots ≡ manager.slots
settled_of_slots None manager = refl
settled_of_slots (Some held) manager = settled_by_slots held.actions held manager

pub settled_slots : (manager : Managed) → (settled manager).slots ≡ manager.slots
settled_slots manager = settled_of_slots manager.held manager

-- what was told is the same by its parts
pub same_account : (mode : Mode) (placement : Placement) (bits : FieldBits) (slots slots' : ℕ) (rules rules' : List Rule) (events events' : List Action)
    → slots ≡ slots' → rules ≡ rules' → events ≡ events'
    → ◌≡◌ {A = Account} (record { slots = slots; mode = mode; placement = placement; rules = rules; bits = bits; events = events })
    (record { slots = slots'; mode = mode; placement = placement; rules = rules'; bits = bits; events = events' })
same_account mode placement bits slots slots' rules rules' events events' a b c =
    λ i. record { slots = a i; mode = mode; placement = placement; rules = b i; bits = bits; events = c i }
