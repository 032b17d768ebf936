-- How many parts a plan takes, counted by what puts back what its writes replace.
use Rattle.std.proofs.Common.{◌≡◌, ℕ, zero, suc, ◌+◌, Option, None, Some, List, [], ◌∷◌, take, drop, slice_get, refl, sym, ◌∙◌, ap, ap₂, arith}
use Rattle.rule_model.specs.declared.Field.TheVariants.{Src, Dst}
use Rattle.slot_pool.specs.Arrangement.{Slots}
use Rattle.rule_store.specs.Store.{StoredRules}
use Rattle.tcam_device.specs.declared.Write.{Write}
use Rattle.tcam_device.specs.declared.Write.TheVariants.{Slot, Table}
use Rattle.tcam_device.specs.State.{State, apply, state_after}
use Rattle.tcam_device.specs.Flight.{writes_in}
use Rattle.commit_writes.specs.Undo.{restoring, restorings}
use Rattle.batch_order.specs.ByParts.{longest_parts, paired_number, part_number, parts_number, put_back, stands_at}
use Rattle.batch_order.specs.CarriedOut.{writes_left}
use Rattle.batch_order.specs.Entries.{Entries}
use Rattle.batch_order.specs.Kept.{IsManaged, held_of, held_writes, settled_state, state_of}
use Rattle.batch_order.specs.Noting.{all_undo}
use Rattle.batch_order.specs.Planning.{as_writes}
use Rattle.batch_order.specs.declared.held.Held.{Held}
use Rattle.batch_order.specs.declared.translation.Translation.{Translation}
use Rattle.batch_order.proofs.under_way.Drains.{writes_left_are}
use Rattle.batch_order.proofs.under_way.Left.{forward_actions}
use Rattle.batch_order.proofs.under_way.Unwritten.{IsUnwritten}

put_back_is : (state : State) (write : Write) → put_back (restoring state write) ≡ stands_at state write
put_back_is state (Slot at entry) = refl
put_back_is state (Table Src port word) = refl
put_back_is state (Table Dst port word) = refl

-- by what would put back what they replace
pub paired_restorings : (state : State) (writes : List Write) → paired_number writes (restorings state writes) ≡ parts_number state writes
paired_restorings state [] = refl
paired_restorings state (write ∷ writes) =
    ap₂ (λ a b. a + b) (ap (λ held. part_number held write) (put_back_is state write)) (paired_restorings (apply state write) writes)

-- with one write more
one_more : (writes undo : List Write) (n : ℕ) (write before : Write) → slice_get writes n ≡ Some write → slice_get undo n ≡ Some before
    → paired_number (take (suc n) writes) (take (suc n) undo) ≡ paired_number (take n writes) (take n undo) + part_number (put_back before) write
one_more [] undo n write before one two = absurd (let wrong : None ≡ Some write = one in cc)
one_more (w ∷ writes) [] n write before one two = absurd (let wrong : None ≡ Some before = two in cc)
one_more (w ∷ writes) (u ∷ undo) zero write before one two =
    let a : w ≡ write = cc in
    let b : u ≡ before = cc in
    let c : part_number (put_back u) w ≡ part_number (put_back before) write = ap₂ (λ x y. part_number (put_back x) y) b a in
    let d : paired_number (take 1 (w ∷ writes)) (take 1 (u ∷ undo)) ≡ part_number (put_back u) w + 0 = refl in
    omega arith
one_more (w ∷ writes) (u ∷ undo) (suc n) write before one two =
    let rest = one_more writes undo n write before one two in
    let here : paired_number (take (suc (suc n)) (w ∷ writes)) (take (suc (suc n)) (u ∷ undo)) ≡ part_number (put_back u) w + paired_number (take (suc n) writes) (take (suc n) undo) = refl in
    let front : paired_number (take (suc n) (w ∷ writes)) (take (suc n) (u ∷ undo)) ≡ part_number (put_back u) w + paired_number (take n writes) (take n undo) = refl in
    omega arith

pub paired_more : (writes undo : List Write) (n : ℕ) (write before : Write) → slice_get writes n ≡ Some write → slice_get undo n ≡ Some before
    → paired_number (take (n + 1) writes) (take (n + 1) undo) ≡ paired_number (take n writes) (take n undo) + part_number (put_back before) write
paired_more writes undo n write before one two = let e : n + 1 ≡ suc n = omega arith in rw e (one_more writes undo n write before one two)

-- what is left of a plan of which no write was made is all of it
pub left_whole : (translation : Option Translation) (rules : StoredRules) (kept : Entries) (slots : Slots) (held : Held) → IsUnwritten held
    → writes_left (Some (held_of translation slots rules.rules kept.entries held)) ≡ held_writes kept.entries held
left_whole translation rules kept slots held is =
    let writes = held_writes kept.entries held in
    ap writes_in (forward_actions translation rules kept slots held is.forward)
    ∙ (writes_left_are held.awaits (drop held.made writes) ∙ ap (λ n. drop n writes) is.none)

-- Its parts are those that are counted.
pub parts_counted : (translation : Option Translation) (rules : StoredRules) (kept : Entries) (slots : Slots) (held : Held) → IsManaged translation rules kept slots (Some held) → IsUnwritten held
    → paired_number (held_writes kept.entries held) (as_writes kept.entries held.rewrites.items (all_undo held.undo))
    ≡ parts_number (state_of translation kept.entries slots (Some held)) (writes_left (Some (held_of translation slots rules.rules kept.entries held)))
parts_counted translation rules kept slots held managed is =
    let writes = held_writes kept.entries held in
    let begun = settled_state translation kept.entries slots in
    let undo : as_writes kept.entries held.rewrites.items (all_undo held.undo) ≡ restorings begun writes = (managed.carried.way_back is.prepared).undo_is in
    let left : writes_left (Some (held_of translation slots rules.rules kept.entries held)) ≡ writes = left_whole translation rules kept slots held is in
    let state : state_of translation kept.entries slots (Some held) ≡ begun = ap (λ n. state_after begun (take n writes)) is.none in
    ap (paired_number writes) undo ∙ (paired_restorings begun writes ∙ ap₂ parts_number (sym state) (sym left))

-- and so are those of its longest insertion
pub longest_counted : (translation : Option Translation) (rules : StoredRules) (kept : Entries) (slots : Slots) (held : Held) → IsManaged translation rules kept slots (Some held) → IsUnwritten held
    → held.most_parts ≡ longest_parts (state_of translation kept.entries slots (Some held)) (writes_left (Some (held_of translation slots rules.rules kept.entries held)))
longest_counted translation rules kept slots held managed is =
    let begun = settled_state translation kept.entries slots in
    let left : writes_left (Some (held_of translation slots rules.rules kept.entries held)) ≡ held_writes kept.entries held = left_whole translation rules kept slots held is in
    let state : state_of translation kept.entries slots (Some held) ≡ begun = ap (λ n. state_after begun (take n (held_writes kept.entries held))) is.none in
    managed.carried.longest is.prepared ∙ ap₂ longest_parts (sym state) (sym left)
