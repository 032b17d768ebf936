-- Which way a commit goes, on or back, as its manager keeps it.
use Rattle.std.proofs.Common.{◌≡◌, ℕ, Bool, true, false, List, [], ◌∷◌, map, Option, Some, None, refl, ap, sym}
use Rattle.std.specs.Prelude.{is_some}
use Rattle.tcam_device.specs.declared.Write.{Write}
use Rattle.tcam_device.specs.declared.Action.TheVariants.{Written}
use Rattle.tcam_device.specs.State.{State}
use Rattle.commit_writes.specs.declared.Done.{Done}
use Rattle.commit_writes.specs.Undo.{restoring}
use Rattle.commit_writes.proofs.WritesIn.{writes_of_commit}
use Rattle.batch_order.specs.declared.Step.TheVariants as step
use Rattle.batch_order.specs.Kept.{course_of, way_of}
use Rattle.batch_order.specs.Managed.{HeldCommit, Managed, Way}
use Rattle.batch_order.specs.Managed.Way.{On, Back}
use Rattle.batch_order.specs.Steps.{end_answer, is_back, left_by, way_by}
use Rattle.batch_order.specs.Turning.{has_drain, undo_in}

-- how many undo writes there were once it was turned round
abbrev pub undone_by : Way → Option ℕ
undone_by (On undo) = None
undone_by (Back undone) = Some undone

pub same_undone : (state : State) (write : Write) (one : Way) → undone_by (way_by state write one) ≡ undone_by one
same_undone state write (On undo) = refl
same_undone state write (Back undone) = refl

pub undone_back : (one : Way) (undone : ℕ) → undone_by one ≡ Some undone → one ≡ Back undone
undone_back (On undo) undone is = absurd (let clash : None ≡ Some undone = is in cc)
undone_back (Back all) undone is = let same : all ≡ undone = cc in ap Back same

pub back_undone : (one : Way) → is_back one ≡ is_some (undone_by one)
back_undone (On undo) = refl
back_undone (Back undone) = refl

-- what ends with `Reverted` was turned round,
pub ends_turned : (one : Way) (counts : Done) (undone : ℕ) → step.Reverted undone ≡ end_answer one counts → one ≡ Back undone
ends_turned (On undo) counts undone is = absurd (cc)
ends_turned (Back all) counts undone is = let same : undone ≡ all = cc in ap Back (sym same)

-- and what ends with its numbers wasn't
pub ends_forward : (one : Way) (counts numbers : Done) → step.Finished numbers ≡ end_answer one counts → (is_back one ≡ false) × (numbers ≡ counts)
ends_forward (On undo) counts numbers is = (refl, let same : numbers ≡ counts = cc in same)
ends_forward (Back undone) counts numbers is = absurd (cc)

pub ended_forward : (old : Managed) (held : HeldCommit) (one : Way) → is_back one ≡ false
    → (end_answer one held.counts ≡ step.Finished held.counts) × (left_by old held one ≡ record old { rules = held.rules; bits = held.bits; held = None })
ended_forward old held (On undo) is = (refl, refl)
ended_forward old held (Back undone) is = absurd (let clash : true ≡ false = is in cc)

-- as it is kept
pub turned_way : (turned : Option ℕ) (undo : List Write) → is_back (way_of turned undo) ≡ is_some turned
turned_way None undo = refl
turned_way (Some undone) undo = refl

pub forward_way : (turned : Option ℕ) (undo : List Write) → is_back (way_of turned undo) ≡ false → turned ≡ None
forward_way None undo is = refl
forward_way (Some undone) undo is = absurd (let clash : true ≡ false = is in cc)

pub back_way : (turned : Option ℕ) (undo : List Write) → is_back (way_of turned undo) ≡ true → (undone : ℕ) × (turned ≡ Some undone)
back_way None undo is = absurd (let clash : false ≡ true = is in cc)
back_way (Some undone) undo is = (undone, refl)

pub way_more : (turned : Option ℕ) (state : State) (write : Write) (undo : List Write) → way_of turned (restoring state write ∷ undo) ≡ way_by state write (way_of turned undo)
way_more None state write undo = refl
way_more (Some undone) state write undo = refl

-- the undo writes that it keeps, or has to make
pub undo_kept : (turned : Option ℕ) (awaits : Bool) (writes undo : List Write) → undo_in (course_of turned awaits writes undo) (way_of turned undo) ≡ undo
undo_kept None awaits writes undo = refl
undo_kept (Some undone) awaits writes undo = writes_of_commit awaits undo

-- writes alone have no drain
pub written_alone : (writes : List Write) → has_drain (map Written writes) ≡ false
written_alone [] = refl
written_alone (write ∷ writes) = written_alone writes
