-- A trial that is taken back: its first writes, and those that undo them.
use Rattle.std.proofs.Common.{◌≡◌, ℕ, zero, suc, ◌+◌, ◌-◌, ◌*◌, ◌≤◌, List, [], ◌∷◌, ◌++◌, length, length-append, map, take, Option, Some, None, refl, sym, ap, ◌∙◌, subst, arith}
use Rattle.std.specs.List.{AllByRecursion}
use Rattle.std.proofs.lemmas.List.{length-take-le}
use Rattle.rule_model.specs.declared.words.Entry.{Entry}
use Rattle.rule_model.specs.declared.Field.TheVariants.{Src, Dst}
use Rattle.tcam_device.specs.declared.Write.{Write}
use Rattle.tcam_device.specs.declared.Write.TheVariants.{Slot, Table}
use Rattle.tcam_device.specs.declared.Action.{Action}
use Rattle.tcam_device.specs.declared.Action.TheVariants.{Written, Drained}
use Rattle.tcam_device.specs.State.{State, IsInUse, apply, state_after, on_device}
use Rattle.tcam_device.specs.Flight.{writes_in}
use Rattle.tcam_device.proofs.Kept.{slots-apply}
use Rattle.tcam_device.proofs.Wider.{all_take, apply-padded, padded, slot-padded}
use Rattle.commit_writes.specs.Actions.{back_from, up_to_writes}
use Rattle.commit_writes.specs.Undo.{restoring, undo_writes}
use Rattle.commit_writes.proofs.WritesIn.{writes_of_map, writes_in-append}
use Rattle.commit_writes.proofs.Undone.{length-undo_writes, undo_ends}

-- the writes up to so many of them
pub writes-up_to : (most : ℕ) (actions : List Action) → writes_in (up_to_writes most actions) ≡ take most (writes_in actions)
writes-up_to zero actions = refl
writes-up_to (suc more) [] = refl
writes-up_to (suc more) (Written write ∷ actions) = ap (λ writes. write ∷ writes) (writes-up_to more actions)
writes-up_to (suc more) (Drained ∷ actions) = writes-up_to (suc more) actions

-- both ways
writes-both : (state : State) (front : List Action) → writes_in (back_from state front) ≡ writes_in front ++ undo_writes state (writes_in front)
writes-both state front =
    writes_in-append front (map Written (undo_writes state (writes_in front))) ∙ ap (λ writes. writes_in front ++ writes) (writes_of_map (undo_writes state (writes_in front)))

-- they are twice as many
pub number-both : (most : ℕ) (state : State) (actions : List Action) → most ≤ length (writes_in actions) → length (writes_in (back_from state (up_to_writes most actions))) ≡ 2 * most
number-both most state actions enough =
    let front = up_to_writes most actions in
    let one : length (writes_in front) ≡ most = ap length (writes-up_to most actions) ∙ length-take-le most (writes_in actions) enough in
    let other = length-undo_writes state (writes_in front) in
    let both : length (writes_in (back_from state front)) ≡ length (writes_in front) + length (undo_writes state (writes_in front)) =
    ap length (writes-both state front) ∙ length-append (writes_in front) (undo_writes state (writes_in front)) in
    omega arith

-- and they lead back to where they began
pub ends-both : (state : State) (front : List Action) → state_after state (writes_in (back_from state front)) ≡ state
ends-both state front = ap (state_after state) (writes-both state front) ∙ undo_ends state (writes_in front)

all-append : {A : Type 0} (P : A → Type 0) (a b : List A) → AllByRecursion P a → AllByRecursion P b → AllByRecursion P (a ++ b)
all-append P [] b all others = others
all-append P (x ∷ a) b all others = (all.0, all-append P a b all.1 others)

restoring-in_use : (size : ℕ) (state : State) (write : Write) → IsInUse size write → IsInUse size (restoring state write)
restoring-in_use size state (Slot at entry) inside = inside
restoring-in_use size state (Table Src port word) inside = tt
restoring-in_use size state (Table Dst port word) inside = tt

undo-in_use : (size : ℕ) (state : State) (writes : List Write) → AllByRecursion (IsInUse size) writes → AllByRecursion (IsInUse size) (undo_writes state writes)
undo-in_use size state [] inside = tt
undo-in_use size state (write ∷ writes) inside =
    all-append (IsInUse size) (undo_writes (apply state write) writes) (restoring state write ∷ []) (undo-in_use size (apply state write) writes inside.1) (restoring-in_use size state write inside.0, tt)

front-in_use : (size most : ℕ) (actions : List Action) → AllByRecursion (IsInUse size) (writes_in actions) → AllByRecursion (IsInUse size) (writes_in (up_to_writes most actions))
front-in_use size most actions inside = subst (AllByRecursion (IsInUse size)) (sym (writes-up_to most actions)) (all_take (IsInUse size) most (writes_in actions) inside)

-- each is to a slot in use
pub both-in_use : (size most : ℕ) (state : State) (actions : List Action) → AllByRecursion (IsInUse size) (writes_in actions) → AllByRecursion (IsInUse size) (writes_in (back_from state (up_to_writes most actions)))
both-in_use size most state actions inside =
    let front = writes_in (up_to_writes most actions) in
    let there = front-in_use size most actions inside in
    subst (AllByRecursion (IsInUse size)) (sym (writes-both state (up_to_writes most actions))) (all-append (IsInUse size) front (undo_writes state front) there (undo-in_use size state front there))

-- on a wider device the same writes undo them
restoring-padded : (more : ℕ) (state : State) (write : Write) → restoring (padded more state) write ≡ restoring state write
restoring-padded more state (Slot at entry) = ap (λ (held : Option Entry). Slot at held) (slot-padded state.slots more at)
restoring-padded more state (Table Src port word) = refl
restoring-padded more state (Table Dst port word) = refl

undo-padded : (more : ℕ) (state : State) (writes : List Write) → AllByRecursion (IsInUse (length state.slots)) writes → undo_writes (padded more state) writes ≡ undo_writes state writes
undo-padded more state [] inside = refl
undo-padded more state (write ∷ writes) inside =
    let later : AllByRecursion (IsInUse (length (apply state write).slots)) writes = subst (λ n. AllByRecursion (IsInUse n) writes) (sym (slots-apply state write)) inside.1 in
    ap (λ one. undo_writes one writes ++ restoring (padded more state) write ∷ []) (apply-padded more state write inside.0)
    ∙ ap (λ undo. undo ++ restoring (padded more state) write ∷ []) (undo-padded more (apply state write) writes later)
    ∙ ap (λ back. undo_writes (apply state write) writes ++ back ∷ []) (restoring-padded more state write)

-- so the actions there and back are those of the return that begins at the device
pub back-on_device : (slots size most : ℕ) (state : State) (actions : List Action) → length state.slots ≡ size → AllByRecursion (IsInUse size) (writes_in actions)
    → back_from (on_device slots state) (up_to_writes most actions) ≡ back_from state (up_to_writes most actions)
back-on_device slots size most state actions size_is inside =
    let front = up_to_writes most actions in
    let within : AllByRecursion (IsInUse (length state.slots)) (writes_in front) = subst (λ n. AllByRecursion (IsInUse n) (writes_in front)) (sym size_is) (front-in_use size most actions inside) in
    ap (λ undo. front ++ map Written undo) (undo-padded (slots - length state.slots) state (writes_in front) within)

-- it has no more writes than come before its turn
abbrev pub IsWithin : Option ℕ → ℕ → Type 0
IsWithin None writes = Unit {0}
IsWithin (Some most) writes = writes ≤ most
