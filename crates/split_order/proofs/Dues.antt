-- The parts of a write as they come due are its parts, and each is told right.
use Rattle.std.proofs.Common.{◌≡◌, ℕ, zero, suc, ◌<◌, Bool, true, false, Option, None, Some, List, [], ◌∷◌, length, map, drop, take, slice_get, refl, sym, ◌∙◌, ap, subst, arith}
use Rattle.std.specs.Prelude.{is_some, if◌then◌else◌}
use Rattle.slot_order.specs.Order.{slot}
use Rattle.slot_order.proofs.Writes.{slot_same}
use Rattle.rule_model.specs.declared.Field.TheVariants.{Src, Dst}
use Rattle.rule_model.specs.declared.words.Word.{Word}
use Rattle.rule_model.specs.declared.words.Entry.{Entry}
use Rattle.rule_model.specs.Entry.{same_match}
use Rattle.tcam_device.specs.declared.Write.{Write}
use Rattle.tcam_device.specs.declared.Write.TheVariants as whole
use Rattle.tcam_device.specs.State.{State, IsInUse, on_device}
use Rattle.tcam_device.proofs.Wider.{slot-padded}
use Rattle.commit_writes.specs.Undo.{restoring}
use Rattle.split_device.specs.declared.SplitWrite.{SplitWrite}
use Rattle.split_device.specs.declared.SplitWrite.TheVariants.{Slot, Result, Table}
use Rattle.split_device.specs.State.{SplitState, IsSplitInUse, result_at, whole_entry, undivided, split_apply, split_after}
use Rattle.split_device.proofs.Whole.{whole_slot}
use Rattle.split_writes.specs.Parts.{put_parts, parts_over, write_parts}
use Rattle.split_writes.proofs.Through.{empty_parts}
use Rattle.split_order.specs.declared.due.DuePart.{DuePart}
use Rattle.split_order.specs.Due.{due_parts, last_due, over_dues, put_dues, standing_by}
use Rattle.split_order.specs.Since.{StandsIn}

-- what stands in a write's slot
abbrev pub standing_in : State → Write → Option Entry
standing_in state write = standing_by (Some (restoring state write))

-- they are the write's parts
over_are : (held : Option Entry) (at : ℕ) (entry : Entry) → map (λ (d : DuePart). d.part) (over_dues held at entry) ≡ parts_over held at entry
over_are None at entry = refl
over_are (Some standing) at entry = by (same_match entry standing)
  where
    by : (same : Bool) → map (λ (d : DuePart). d.part) (if same then last_due (Result at entry.tag entry.result) true ∷ [] else record { part = Slot at None; stands = false; last = false } ∷ put_dues at entry)
        ≡ (if same then Result at entry.tag entry.result ∷ [] else Slot at None ∷ put_parts at entry)
    by true = refl
    by false = refl

pub dues_are : (state : State) (write : Write) → map (λ (d : DuePart). d.part) (due_parts (standing_in state write) write) ≡ write_parts state write
dues_are state (whole.Slot at None) = refl
dues_are state (whole.Slot at (Some entry)) = over_are (slot state.slots at) at entry
dues_are state (whole.Table Src port word) = refl
dues_are state (whole.Table Dst port word) = refl

-- each is told to be the last exactly where it is
abbrev AreLasts : List DuePart → Type 0
AreLasts [] = Unit {0}
AreLasts (due ∷ []) = due.last ≡ true
AreLasts (due ∷ next ∷ dues) = (due.last ≡ false) × AreLasts (next ∷ dues)

lasts_over : (held : Option Entry) (at : ℕ) (entry : Entry) → AreLasts (over_dues held at entry)
lasts_over None at entry = (refl, refl)
lasts_over (Some standing) at entry = by (same_match entry standing)
  where
    by : (same : Bool) → AreLasts (if same then last_due (Result at entry.tag entry.result) true ∷ [] else record { part = Slot at None; stands = false; last = false } ∷ put_dues at entry)
    by true = refl
    by false = (refl, (refl, refl))

lasts_of : (standing : Option Entry) (write : Write) → AreLasts (due_parts standing write)
lasts_of standing (whole.Slot at None) = refl
lasts_of standing (whole.Slot at (Some entry)) = lasts_over standing at entry
lasts_of standing (whole.Table field port word) = refl

-- the part behind so many others
pub record IsPlace (parts : List SplitWrite) (made : ℕ) (due : DuePart) : Type 0 where
  pub here : drop made parts ≡ due.part ∷ drop (suc made) parts
  pub last : due.last ≡ true → drop (suc made) parts ≡ []
  pub more : due.last ≡ false → suc made < length parts

place_of : (dues : List DuePart) (made : ℕ) (due : DuePart) → AreLasts dues → slice_get dues made ≡ Some due → IsPlace (map (λ (d : DuePart). d.part) dues) made due
place_of [] made due lasts get = absurd (let wrong : None ≡ Some due = get in cc)
place_of (one ∷ []) zero due lasts get =
    let is : one ≡ due = cc in
    record {
      here = ap (λ (d : DuePart). d.part ∷ []) is;
      last = λ yes. refl;
      more = λ no. absurd (let wrong : true ≡ false = sym lasts ∙ (ap (λ (d : DuePart). d.last) is ∙ no) in cc);
    }
place_of (one ∷ []) (suc made) due lasts get = absurd (let wrong : None ≡ Some due = get in cc)
place_of (one ∷ next ∷ dues) zero due lasts get =
    let is : one ≡ due = cc in
    record {
      here = ap (λ (d : DuePart). d.part ∷ map (λ (e : DuePart). e.part) (next ∷ dues)) is;
      last = λ yes. absurd (let wrong : false ≡ true = sym lasts.0 ∙ (ap (λ (d : DuePart). d.last) is ∙ yes) in cc);
      more = λ no. omega arith;
    }
place_of (one ∷ next ∷ dues) (suc made) due lasts get =
    let rest = place_of (next ∷ dues) made due lasts.1 get in
    record { here = rest.here; last = rest.last; more = λ no. (let below = rest.more no in omega arith) }

pub due_place : (state : State) (write : Write) (made : ℕ) (due : DuePart) → slice_get (due_parts (standing_in state write) write) made ≡ Some due → IsPlace (write_parts state write) made due
due_place state write made due get =
    subst (λ parts. IsPlace parts made due) (dues_are state write) (place_of (due_parts (standing_in state write) write) made due (lasts_of (standing_in state write) write) get)

-- there is one behind fewer than there are
due_there : (dues : List DuePart) (made : ℕ) → made < length (map (λ (d : DuePart). d.part) dues) → slice_get dues made ≡ None → ⊥
due_there [] made below none = omega arith
due_there (one ∷ dues) zero below none = let wrong : Some one ≡ None = none in cc
due_there (one ∷ dues) (suc made) below none = due_there dues made (omega arith) none

pub due_is : (state : State) (write : Write) (made : ℕ) → made < length (write_parts state write) → slice_get (due_parts (standing_in state write) write) made ≡ None → ⊥
due_is state write made below none =
    due_there (due_parts (standing_in state write) write) made (subst (λ parts. made < length parts) (sym (dues_are state write)) below) none

some_over : (held : Option Entry) (at : ℕ) (entry : Entry) → 0 < length (parts_over held at entry)
some_over None at entry = omega arith
some_over (Some standing) at entry = by (same_match entry standing)
  where
    by : (same : Bool) → 0 < length (if same then Result at entry.tag entry.result ∷ [] else Slot at None ∷ put_parts at entry)
    by true = omega arith
    by false = omega arith

pub some_parts : (state : State) (write : Write) → 0 < length (write_parts state write)
some_parts state (whole.Slot at None) = omega arith
some_parts state (whole.Slot at (Some entry)) = some_over (slot state.slots at) at entry
some_parts state (whole.Table field port word) = omega arith

-- a part's slot is its write's
use_put : (slots at : ℕ) (entry : Entry) (made : ℕ) (due : DuePart) → at < slots → slice_get (put_dues at entry) made ≡ Some due → IsSplitInUse slots due.part
use_put slots at entry zero due inside is = subst (λ (d : DuePart). IsSplitInUse slots d.part) (let one : record { part = Result at entry.tag entry.result; stands = false; last = false } ≡ due = cc in one) inside
use_put slots at entry (suc zero) due inside is = subst (λ (d : DuePart). IsSplitInUse slots d.part) (let one : last_due (Slot at (Some (entry.value, entry.mask))) false ≡ due = cc in one) inside
use_put slots at entry (suc (suc n)) due inside is = absurd (let wrong : None ≡ Some due = is in cc)

use_over : (slots : ℕ) (held : Option Entry) (at : ℕ) (entry : Entry) (made : ℕ) (due : DuePart) → at < slots → slice_get (over_dues held at entry) made ≡ Some due → IsSplitInUse slots due.part
use_over slots None at entry made due inside get = use_put slots at entry made due inside get
use_over slots (Some standing) at entry made due inside get = by (same_match entry standing) made get
  where
    by : (same : Bool) (n : ℕ)
        → slice_get (if same then last_due (Result at entry.tag entry.result) true ∷ [] else record { part = Slot at None; stands = false; last = false } ∷ put_dues at entry) n ≡ Some due → IsSplitInUse slots due.part
    by true zero is = subst (λ (d : DuePart). IsSplitInUse slots d.part) (let one : last_due (Result at entry.tag entry.result) true ≡ due = cc in one) inside
    by true (suc n) is = absurd (let wrong : None ≡ Some due = is in cc)
    by false zero is = subst (λ (d : DuePart). IsSplitInUse slots d.part) (let one : record { part = Slot at None; stands = false; last = false } ≡ due = cc in one) inside
    by false (suc n) is = use_put slots at entry n due inside is

pub due_in_use : (slots : ℕ) (state : State) (write : Write) (made : ℕ) (due : DuePart) → IsInUse slots write → slice_get (due_parts (standing_in state write) write) made ≡ Some due → IsSplitInUse slots due.part
due_in_use slots state (whole.Slot at None) zero due inside get = subst (λ (d : DuePart). IsSplitInUse slots d.part) (let one : last_due (Slot at None) false ≡ due = cc in one) inside
due_in_use slots state (whole.Slot at None) (suc made) due inside get = absurd (let wrong : None ≡ Some due = get in cc)
due_in_use slots state (whole.Slot at (Some entry)) made due inside get = use_over slots (slot state.slots at) at entry made due inside get
due_in_use slots state (whole.Table field port word) zero due inside get = subst (λ (d : DuePart). IsSplitInUse slots d.part) (let one : last_due (Table field port word) false ≡ due = cc in one) tt
due_in_use slots state (whole.Table field port word) (suc made) due inside get = absurd (let wrong : None ≡ Some due = get in cc)

-- whether a slot holds an entry is told by its undivided entry
stands_as : (before : SplitState) (at : ℕ) (standing : Entry) → slot (undivided before).slots at ≡ Some standing → true ≡ is_some (slot before.slots at)
stands_as before at standing is = here (slot before.slots at) (sym (whole_slot before.slots before.results at) ∙ is)
  where
    here : (held : Option (Word × Word)) → whole_entry held (result_at before.results at) ≡ Some standing → true ≡ is_some held
    here None e = absurd (let wrong : None ≡ Some standing = e in cc)
    here (Some parts) e = refl

-- and it is told right of each result word that is due
put_right : (state : SplitState) (at : ℕ) (entry : Entry) (made : ℕ) (due : DuePart) → slot state.slots at ≡ None → slice_get (put_dues at entry) made ≡ Some due
    → StandsIn (split_after state (take made (put_parts at entry))) due.part due.stands
put_right state at entry zero due empty get =
    subst (λ (d : DuePart). StandsIn state d.part d.stands) (let one : record { part = Result at entry.tag entry.result; stands = false; last = false } ≡ due = cc in one) (ap is_some (sym empty))
put_right state at entry (suc zero) due empty get =
    let is : last_due (Slot at (Some (entry.value, entry.mask))) false ≡ due = cc in
    subst (λ (d : DuePart). StandsIn (split_after state (take 1 (put_parts at entry))) d.part d.stands) is tt
put_right state at entry (suc (suc made)) due empty get = absurd (let wrong : None ≡ Some due = get in cc)

over_right : (before : SplitState) (held : Option Entry) (at : ℕ) (entry : Entry) (made : ℕ) (due : DuePart) → slot (undivided before).slots at ≡ held → at < length before.slots
    → slice_get (over_dues held at entry) made ≡ Some due → StandsIn (split_after before (take made (parts_over held at entry))) due.part due.stands
over_right before None at entry made due is inside get = put_right before at entry made due (empty_parts before at is) get
over_right before (Some standing) at entry made due is inside get = by (same_match entry standing) made get
  where
    by : (same : Bool) (n : ℕ)
        → slice_get (if same then last_due (Result at entry.tag entry.result) true ∷ [] else record { part = Slot at None; stands = false; last = false } ∷ put_dues at entry) n ≡ Some due
        → StandsIn (split_after before (take n (if same then Result at entry.tag entry.result ∷ [] else Slot at None ∷ put_parts at entry))) due.part due.stands
    by true zero e = subst (λ (d : DuePart). StandsIn before d.part d.stands) (let one : last_due (Result at entry.tag entry.result) true ≡ due = cc in one) (stands_as before at standing is)
    by true (suc n) e = absurd (let wrong : None ≡ Some due = e in cc)
    by false zero e = subst (λ (d : DuePart). StandsIn before d.part d.stands) (let one : record { part = Slot at None; stands = false; last = false } ≡ due = cc in one) tt
    by false (suc n) e = put_right (split_apply before (Slot at None)) at entry n due (slot_same before.slots at None inside) e

pub due_right : (slots : ℕ) (before : SplitState) (state : State) (write : Write) (made : ℕ) (due : DuePart) → undivided before ≡ on_device slots state → IsInUse (length before.slots) write
    → slice_get (due_parts (standing_in state write) write) made ≡ Some due → StandsIn (split_after before (take made (write_parts state write))) due.part due.stands
due_right slots before state (whole.Slot at None) zero due same inside get = subst (λ (d : DuePart). StandsIn before d.part d.stands) (let one : last_due (Slot at None) false ≡ due = cc in one) tt
due_right slots before state (whole.Slot at None) (suc made) due same inside get = absurd (let wrong : None ≡ Some due = get in cc)
due_right slots before state (whole.Slot at (Some entry)) made due same inside get =
    over_right before (slot state.slots at) at entry made due (ap (λ (s : State). slot s.slots at) same ∙ slot-padded state.slots _ at) inside get
due_right slots before state (whole.Table field port word) zero due same inside get = subst (λ (d : DuePart). StandsIn before d.part d.stands) (let one : last_due (Table field port word) false ≡ due = cc in one) tt
due_right slots before state (whole.Table field port word) (suc made) due same inside get = absurd (let wrong : None ≡ Some due = get in cc)

-- a wider device has the same parts
pub parts_same : (slots : ℕ) (wide : State) (state : State) (write : Write) → wide ≡ on_device slots state → write_parts state write ≡ write_parts wide write
parts_same slots wide state (whole.Slot at None) same = refl
parts_same slots wide state (whole.Slot at (Some entry)) same = ap (λ held. parts_over held at entry) (sym (ap (λ (s : State). slot s.slots at) same ∙ slot-padded state.slots _ at))
parts_same slots wide state (whole.Table field port word) same = refl
