-- What carries one table's part of a commit out.
use Rattle.std.proofs.Common.{◌≡◌, ℕ, suc, ◌+◌, ◌≤◌, List, [], ◌∷◌, ◌++◌, length, refl, sym, ap, ◌∙◌, append-nil, arith}
use Rattle.batch_order.specs.CarriedOut.{IsTried, finished}
use Rattle.batch_order.proofs.under_way.Tried.{IsCount}
use Rattle.split_device.specs.declared.SplitWrite.{SplitWrite}
use Rattle.split_device.specs.declared.SplitAction.{SplitAction}
use Rattle.split_device.specs.declared.SplitAction.TheVariants.{Written, Drained}
use Rattle.split_device.specs.Flight.{Flight, written}
use Rattle.split_order.specs.Left.{left_of}
use Rattle.split_order.specs.Managed.{SplitManaged, at_rest}
use Rattle.split_order.specs.Steps.{IsPartNext}
use Rattle.split_order.proofs.Carrying.{Goes, has_finished}
use Rattle.router.specs.Run.{drains_in}
use Rattle.router.specs.Carried.{IsCarriedTo, IsCutAt, IsStuckAt, LeavesDevice}

-- the drains so far and those that are left
pub count_wrote : (drains total : ℕ) (part : SplitWrite) (left rest : List SplitAction) → drains + drains_in left ≡ total → left ≡ Written part ∷ rest → drains + drains_in rest ≡ total
count_wrote drains total part left rest count is = ap (λ (some : List SplitAction). drains + drains_in some) (sym is) ∙ count

pub count_drained : (drains total : ℕ) (left rest : List SplitAction) → drains + drains_in left ≡ total → left ≡ Drained ∷ rest → drains + 1 + drains_in rest ≡ total
count_drained drains total left rest count is =
    let here : drains_in left ≡ suc (drains_in rest) = ap drains_in is in
    omega arith

-- a drain more is one of those that there are
pub drain_fits : (drains total : ℕ) (left rest : List SplitAction) → drains + drains_in left ≡ total → left ≡ Drained ∷ rest → drains + 1 ≤ total
drain_fits drains total left rest count is = let more = count_drained drains total left rest count is in omega arith

-- the parts so far and those that are left
pub parts_wrote : (parts total : ℕ) (part : SplitWrite) (left rest : List SplitAction) → parts + length (written left) ≡ total → left ≡ Written part ∷ rest → parts + 1 + length (written rest) ≡ total
parts_wrote parts total part left rest count is =
    let here : length (written left) ≡ suc (length (written rest)) = ap (λ (some : List SplitAction). length (written some)) is in
    omega arith

pub parts_drained : (parts total : ℕ) (left rest : List SplitAction) → parts + length (written left) ≡ total → left ≡ Drained ∷ rest → parts + length (written rest) ≡ total
parts_drained parts total left rest count is = ap (λ (some : List SplitAction). parts + length (written some)) (sym is) ∙ count

-- a part more is one of those that there are
pub part_fits : (parts total : ℕ) (part : SplitWrite) (left rest : List SplitAction) → parts + length (written left) ≡ total → left ≡ Written part ∷ rest → parts + 1 ≤ total
part_fits parts total part left rest count is = let more = parts_wrote parts total part left rest count is in omega arith

-- all was made
pub all_carried : (slots : ℕ) (old now new : SplitManaged) (events events' : List SplitAction) (failures faults faults' drains : ℕ) → Goes slots old now events events' 4 failures faults faults'
    → left_of slots now ≡ [] → new ≡ at_rest (finished now.whole) now.events → drains + drains_in (left_of slots now) ≡ drains_in (left_of slots old) → IsCarriedTo slots old drains new events events'
all_carried slots old now new events events' failures faults faults' drains goes none is count = record {
  new_is = (has_finished slots old now new goes.made now.counts goes.has_made none refl is).new_is;
  count = (let nothing : drains_in (left_of slots now) ≡ 0 = ap drains_in none in omega arith);
  grown = goes.events_are ∙ ap (λ (some : List SplitAction). events ++ some) (sym (goes.has_made.left_is ∙ (ap (λ (some : List SplitAction). goes.made ++ some) none ∙ append-nil goes.made)));
}

-- a part failed
pub is_stuck : (slots : ℕ) (old now : SplitManaged) (events events' : List SplitAction) (tries failures faults faults' : ℕ) → Goes slots old now events events' tries failures faults faults'
    → IsPartNext (left_of slots now) → IsStuckAt slots old now events events'
is_stuck slots old now events events' tries failures faults faults' goes due = record { made = goes.made; has_made = goes.has_made; due = due; grown = goes.events_are }

-- a line of what was made last was refused
pub is_cut : (slots : ℕ) (old now : SplitManaged) (events events' : List SplitAction) (tries failures faults faults' : ℕ) → Goes slots old now events events' tries failures faults faults'
    → IsCutAt slots old now events events'
is_cut slots old now events events' tries failures faults faults' goes = record { made = goes.made; has_made = goes.has_made; grown = goes.events_are }

-- what its device is left as
pub tried_none : (number faults faults' : ℕ) (Stuck : Type 0) → IsCount 4 number 0 faults faults' → (Stuck → ⊥) → IsTried 4 number Stuck faults faults'
tried_none number faults faults' Stuck count not_stuck =
    let most = count.most in
    record {
      later = count.later;
      most = λ so. omega arith;
      most_stuck = omega arith;
      failed = λ stuck. absurd (not_stuck stuck);
    }

pub tried_four : (number faults faults' : ℕ) (Stuck : Type 0) → IsCount 4 number 4 faults faults' → Stuck → IsTried 4 number Stuck faults faults'
tried_four number faults faults' Stuck count stuck =
    let most = count.most in
    record {
      later = count.later;
      most = λ so. absurd (so stuck);
      most_stuck = omega arith;
      failed = λ yes. count.least;
    }

pub leaves_carried : {D : Type 0} (device_slots : D → ℕ) (events : D → List SplitAction) (flight : D → Flight) (faults : D → ℕ) (before after : D) (slots : ℕ) (old now : SplitManaged) (Stuck : Type 0)
    → Goes slots old now (events before) (events after) 4 0 (faults before) (faults after) → device_slots after ≡ device_slots before → flight after ≡ flight before → (Stuck → ⊥)
    → LeavesDevice device_slots events flight faults before after Stuck
leaves_carried device_slots events flight faults before after slots old now Stuck goes same still not_stuck = record {
  slot_count = same;
  flight_is = still;
  made = goes.made;
  grown = goes.events_are;
  cause = tried_none (length (written goes.made)) (faults before) (faults after) Stuck goes.counted not_stuck;
}

pub leaves_stuck : {D : Type 0} (device_slots : D → ℕ) (events : D → List SplitAction) (flight : D → Flight) (faults : D → ℕ) (before after : D) (slots : ℕ) (old now : SplitManaged) (Stuck : Type 0)
    → Goes slots old now (events before) (events after) 4 4 (faults before) (faults after) → device_slots after ≡ device_slots before → flight after ≡ flight before → Stuck
    → LeavesDevice device_slots events flight faults before after Stuck
leaves_stuck device_slots events flight faults before after slots old now Stuck goes same still stuck = record {
  slot_count = same;
  flight_is = still;
  made = goes.made;
  grown = goes.events_are;
  cause = tried_four (length (written goes.made)) (faults before) (faults after) Stuck goes.counted stuck;
}
