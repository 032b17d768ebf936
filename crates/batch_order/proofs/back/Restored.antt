-- What takes a plan back restores what its writes replace.
use Rattle.std.proofs.Common.{◌≡◌, ℕ, zero, suc, List, [], ◌∷◌, ◌++◌, length, take, Some, None, refl, ap}
use Rattle.std.specs.Prelude.{slice_get}
use Rattle.rule_model.specs.declared.Field.TheVariants.{Src, Dst}
use Rattle.tcam_device.specs.declared.Write.{Write}
use Rattle.tcam_device.specs.declared.Write.TheVariants.{Slot, Table}
use Rattle.tcam_device.specs.State.{IsInUse, State, apply, state_after}
use Rattle.commit_writes.specs.Undo.{restoring, restorings}

-- one write more
pub restorings-more : (state : State) (writes : List Write) (write : Write) → restorings state (writes ++ write ∷ []) ≡ restorings state writes ++ restoring (state_after state writes) write ∷ []
restorings-more state [] write = refl
restorings-more state (first ∷ writes) write = ap (λ ws. restoring state first ∷ ws) (restorings-more (apply state first) writes write)

pub length-restorings : (state : State) (writes : List Write) → length (restorings state writes) ≡ length writes
length-restorings state [] = refl
length-restorings state (first ∷ writes) = ap suc (length-restorings (apply state first) writes)

-- what restores a write stands at its place
pub restoring_read : (state : State) (writes : List Write) (n : ℕ) (write : Write) → slice_get writes n ≡ Some write
    → slice_get (restorings state writes) n ≡ Some (restoring (state_after state (take n writes)) write)
restoring_read state [] n write read = absurd (let clash : None ≡ Some write = read in cc)
restoring_read state (first ∷ writes) zero write read = let same : first ≡ write = cc in ap (λ w. Some (restoring state w)) same
restoring_read state (first ∷ writes) (suc n) write read = restoring_read (apply state first) writes n write read

-- it is to a slot in use, as the write is
pub restoring_in_use : (size : ℕ) (state : State) (write : Write) → IsInUse size write → IsInUse size (restoring state write)
restoring_in_use size state (Slot at entry) inside = inside
restoring_in_use size state (Table Src port word) inside = tt
restoring_in_use size state (Table Dst port word) inside = tt
