-- The writes among actions.
use Rattle.std.proofs.Common.{◌≡◌, Bool, true, false, List, [], ◌∷◌, ◌++◌, map, take, drop, refl, ◌∙◌, ap}
use Rattle.std.proofs.lemmas.List.{take-append-drop}
use Rattle.tcam_device.specs.declared.Action.{Action}
use Rattle.tcam_device.specs.declared.Action.TheVariants.{Written, Drained}
use Rattle.tcam_device.specs.declared.Write.{Write}
use Rattle.tcam_device.specs.Flight.{writes_in}
use Rattle.tcam_device.specs.Insertion.{table_writes}
use Rattle.commit_writes.specs.Actions.{with_drain}

pub writes_of_map : (writes : List Write) → writes_in (map Written writes) ≡ writes
writes_of_map [] = refl
writes_of_map (write ∷ writes) = ap (λ ws. write ∷ ws) (writes_of_map writes)

pub writes_in-append : (a b : List Action) → writes_in (a ++ b) ≡ writes_in a ++ writes_in b
writes_in-append [] b = refl
writes_in-append (Written write ∷ a) b = ap (λ ws. write ∷ ws) (writes_in-append a b)
writes_in-append (Drained ∷ a) b = writes_in-append a b

-- the writes among a commit's actions
pub writes_of_commit : (drains : Bool) (made : List Write) → writes_in (with_drain drains made) ≡ made
writes_of_commit false made = writes_of_map made
writes_of_commit true made =
    let count = table_writes made in
    writes_in-append (map Written (take count made)) (Drained ∷ map Written (drop count made))
    ∙ ap (λ ws. ws ++ writes_in (map Written (drop count made))) (writes_of_map (take count made))
    ∙ ap (λ ws. take count made ++ ws) (writes_of_map (drop count made)) ∙ take-append-drop count made
