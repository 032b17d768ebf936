-- A commit under way of which no write was made.
use Rattle.std.proofs.Common.{◌≡◌, ℕ, ◌≤◌, Bool, true, false, List, Option, Some, None, length, take, refl, ap, ◌∙◌, arith}
use Rattle.std.specs.Prelude.{◌&&◌, is_none, nat_eq}
use Rattle.std.proofs.lemmas.Bool.{and_parts, eqb-true}
use Rattle.std.proofs.lemmas.List.{length-take-le}
use Rattle.slot_pool.specs.Arrangement.{Slots}
use Rattle.rule_store.specs.Store.{StoredRules}
use Rattle.tcam_device.specs.declared.Write.{Write}
use Rattle.commit_writes.proofs.Undone.{length-undo_writes}
use Rattle.batch_order.specs.declared.held.Held.{Held}
use Rattle.batch_order.specs.declared.translation.Translation.{Translation}
use Rattle.batch_order.specs.Entries.{Entries}
use Rattle.batch_order.specs.Kept.{IsManaged, held_of, held_writes, settled_state, undo_left, way_of}
use Rattle.batch_order.specs.Steps.{is_unwritten, on_unmade}
use Rattle.batch_order.proofs.under_way.Carried.{held_size}

none_is : (turned : Option ℕ) → is_none turned ≡ true → turned ≡ None
none_is None is = refl
none_is (Some undone) is = absurd (cc)

by_way : (prepared : Bool) (turned : Option ℕ) (undo : List Write) (made : ℕ) → length undo ≡ made
    → (prepared && on_unmade (way_of turned undo)) ≡ ((prepared && is_none turned) && nat_eq made 0)
by_way true None undo made size = ap (λ n. nat_eq n 0) size
by_way true (Some undone) undo made size = refl
by_way false turned undo made size = refl

-- As callers see it, it is one that was prepared, goes forward, and has no write made.
pub unwritten_is : (translation : Option Translation) (rules : StoredRules) (kept : Entries) (slots : Slots) (held : Held) → IsManaged translation rules kept slots (Some held)
    → is_unwritten (Some (held_of translation slots rules.rules kept.entries held)) ≡ ((held.prepared && is_none held.turned) && nat_eq held.made 0)
unwritten_is translation rules kept slots held managed =
    let writes = held_writes kept.entries held in
    let within : held.made ≤ length writes = (let size = held_size kept.entries held in let made = managed.carried.made in omega arith) in
    by_way held.prepared held.turned (undo_left translation slots kept.entries held) held.made
    (length-undo_writes (settled_state translation kept.entries slots) (take held.made writes) ∙ length-take-le held.made writes within)

pub record IsUnwritten (held : Held) : Type 0 where
  pub prepared : held.prepared ≡ true
  pub forward : held.turned ≡ None
  pub none : held.made ≡ 0

pub unwritten_parts : (held : Held) → ((held.prepared && is_none held.turned) && nat_eq held.made 0) ≡ true → IsUnwritten held
unwritten_parts held is =
    let front = and_parts (held.prepared && is_none held.turned) (nat_eq held.made 0) is in
    let first = and_parts held.prepared (is_none held.turned) front.0 in
    record { prepared = first.0; forward = none_is held.turned first.1; none = eqb-true held.made 0 front.1 }
