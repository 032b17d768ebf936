-- Where the last member of a chain goes: a free slot of its own gap, beyond it.
use Rattle.std.proofs.Common.{◌≡◌, ℕ, ◌+◌, ◌-◌, ◌<◌, ◌≤◌, ◌⊎◌, Option, None, Some, List, [], ◌∷◌, length, inl, inr, arith, refl, sym, subst}
use Rattle.std.specs.Option.{unwrap_or}
use Rattle.slot_order.specs.Order.{slot}
use Rattle.slot_moves.specs.Moves.{Downwards, Upwards, IsMoveChain}
use Rattle.slot_pool.specs.Arrangement.{Slots, nearest_free}
use Rattle.slot_pool.proofs.Scan.{IsFree, nearest_free_is}
use Rattle.placement.specs.Placement.{Above, Aiming, next_slot, step_down, step_up, wished_by, share_of_held, landing_in, landing_down, landing_up, last_of, StopsBelow, StopsAbove, IsDownChain as PlansDown, IsUpChain as PlansUp}
use Rattle.placement.proofs.Planner.{starts_below, starts_above}

-- the last member of a chain stands on this side of the free slot
pub down_end : (above : Above) (slots : Slots) (free from : ℕ) (rest : List ℕ) → PlansDown above slots free (from ∷ rest) → last_of from rest < free
down_end above slots free from [] chain = chain.0
down_end above slots free from (next ∷ rest) chain = down_end above slots free next rest chain.2

pub up_end : (above : Above) (slots : Slots) (free from : ℕ) (rest : List ℕ) → PlansUp above slots free (from ∷ rest) → free < last_of from rest
up_end above slots free from [] chain = chain.0
up_end above slots free from (next ∷ rest) chain = up_end above slots free next rest chain.2

-- the same slots are a chain to any slot beyond the last member that nothing stops it before
pub down_to : (over : ℕ → ℕ → Type 0) (tag : ℕ → ℕ) (above : Above) (slots : Slots) (free to from : ℕ) (rest : List ℕ) → IsMoveChain Downwards over tag slots free from rest
    → PlansDown above slots free (from ∷ rest) → last_of from rest < to → StopsBelow to (step_down above slots (last_of from rest)) → PlansDown above slots to (from ∷ rest)
down_to over tag above slots free to from [] rises chain less stops = (less, stops)
down_to over tag above slots free to from (next ∷ rest) rises chain less stops =
    let later = down_to over tag above slots free to next rest rises.1 chain.2 less stops in
    let a = starts_below above slots to next rest later in let b = rises.0.2 in (omega arith, chain.1, later)

pub up_to : (over : ℕ → ℕ → Type 0) (tag : ℕ → ℕ) (above : Above) (slots : Slots) (free to from : ℕ) (rest : List ℕ) → IsMoveChain Upwards over tag slots free from rest
    → PlansUp above slots free (from ∷ rest) → to < last_of from rest → StopsAbove to (step_up above slots (last_of from rest)) → PlansUp above slots to (from ∷ rest)
up_to over tag above slots free to from [] falls chain less stops = (less, stops)
up_to over tag above slots free to from (next ∷ rest) falls chain less stops =
    let later = up_to over tag above slots free to next rest falls.1 chain.2 less stops in
    let a = starts_above above slots to next rest later in let b = falls.0.2 in (omega arith, chain.1, later)

-- a slot is free, and lies in a gap or is this one
abbrev Lands : Slots → ℕ → ℕ → ℕ → ℕ → Type 0
Lands slots start end free to = IsFree slots to × ((to ≡ free) ⊎ ((start ≤ to) × (to < end)))

lands_in : (slots : Slots) (start end free : ℕ) (wish : Option ℕ) → IsFree slots free → Lands slots start end free (landing_in slots start end free wish)
lands_in slots start end free None empty = (empty, inl refl)
lands_in slots start end free (Some wish) empty = go (nearest_free slots start end wish) refl
  where
    go : (found : Option ℕ) → nearest_free slots start end wish ≡ found → Lands slots start end free (unwrap_or found free)
    go None e = (empty, inl refl)
    go (Some at) e = let n = nearest_free_is slots start end wish at e in (n.free, inr (n.low, n.high))

-- before the first lower entry, or behind the last upper one
stops_before : (size to : ℕ) (lower : Option ℕ) → to < unwrap_or lower size → StopsBelow to lower
stops_before size to None less = tt
stops_before size to (Some lower) less = omega arith

stops_behind : (to : ℕ) (upper : Option ℕ) → next_slot upper ≤ to → StopsAbove to upper
stops_behind to None less = tt
stops_behind to (Some upper) less = omega arith

-- where a chain's last member goes is free, and the chain goes there
pub record LandsDown (above : Above) (slots : Slots) (from : ℕ) (rest : List ℕ) (to : ℕ) : Type 0 where
  pub empty : IsFree slots to
  pub chain : PlansDown above slots to (from ∷ rest)

pub record LandsUp (above : Above) (slots : Slots) (from : ℕ) (rest : List ℕ) (to : ℕ) : Type 0 where
  pub empty : IsFree slots to
  pub chain : PlansUp above slots to (from ∷ rest)

pub lands_down : (over : ℕ → ℕ → Type 0) (tag : ℕ → ℕ) (above : Above) (priority : ℕ → ℕ) (aiming : Aiming) (slots : Slots) (free from : ℕ) (rest : List ℕ) → IsFree slots free
    → IsMoveChain Downwards over tag slots free from rest → PlansDown above slots free (from ∷ rest) → LandsDown above slots from rest (landing_down above priority aiming slots free (last_of from rest))
lands_down over tag above priority aiming slots free from rest empty rises chain = go lands.1
  where
    last : ℕ
    last = last_of from rest

    end : ℕ
    end = unwrap_or (step_down above slots last) (length slots)

    to : ℕ
    to = landing_down above priority aiming slots free last

    lands : Lands slots (last + 1) end free to
    lands = lands_in slots (last + 1) end free (wished_by aiming.aim (share_of_held priority aiming.coming slots (slot slots last)) (end - 1)) empty

    go : (to ≡ free) ⊎ ((last + 1 ≤ to) × (to < end)) → LandsDown above slots from rest to
    go (inl same) = record { empty = lands.0; chain = subst (λ n. PlansDown above slots n (from ∷ rest)) (sym same) chain }
    go (inr within) = record {
      empty = lands.0;
      chain = down_to over tag above slots free to from rest rises chain (let l = within.0 in omega arith) (stops_before (length slots) to (step_down above slots last) within.1);
    }

pub lands_up : (over : ℕ → ℕ → Type 0) (tag : ℕ → ℕ) (above : Above) (priority : ℕ → ℕ) (aiming : Aiming) (slots : Slots) (free from : ℕ) (rest : List ℕ) → IsFree slots free
    → IsMoveChain Upwards over tag slots free from rest → PlansUp above slots free (from ∷ rest) → LandsUp above slots from rest (landing_up above priority aiming slots free (last_of from rest))
lands_up over tag above priority aiming slots free from rest empty falls chain = go lands.1
  where
    last : ℕ
    last = last_of from rest

    start : ℕ
    start = next_slot (step_up above slots last)

    to : ℕ
    to = landing_up above priority aiming slots free last

    lands : Lands slots start last free to
    lands = lands_in slots start last free (wished_by aiming.aim (share_of_held priority aiming.coming slots (slot slots last)) start) empty

    go : (to ≡ free) ⊎ ((start ≤ to) × (to < last)) → LandsUp above slots from rest to
    go (inl same) = record { empty = lands.0; chain = subst (λ n. PlansUp above slots n (from ∷ rest)) (sym same) chain }
    go (inr within) = record {
      empty = lands.0;
      chain = up_to over tag above slots free to from rest falls chain within.1 (stops_behind to (step_up above slots last) within.0);
    }

-- it is one of the slots whatever the chain
pub landing_free : (slots : Slots) (start end free : ℕ) (wish : Option ℕ) → IsFree slots free → IsFree slots (landing_in slots start end free wish)
landing_free slots start end free wish empty = (lands_in slots start end free wish empty).0
