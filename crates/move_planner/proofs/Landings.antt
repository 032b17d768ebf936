-- Where the last member of a chain goes, as it was computed.
use Rattle.std.proofs.Common.{◌≡◌, ℕ, zero, suc, ◌+◌, ◌*◌, ◌<◌, ◌≤◌, Bool, true, false, Option, None, Some, List, [], ◌∷◌, length, count_by, inl, inr, lit≤, arith, refl, sym, ◌∙◌, subst, ap}
use Rattle.std.specs.Prelude.{cond, is_none, slice_index_or}
use Rattle.std.proofs.lemmas.List.Sums.{sum_by-cons}
use Rattle.std.proofs.Math.Nat.{div-le_of_le-mul, mul-le-mul_right}
use Rattle.slot_moves.specs.Cuts.{holds}
use Rattle.slot_moves.specs.Moves.{Downwards, Upwards}
use Rattle.slot_pool.specs.Arrangement.{Slots}
use Rattle.slot_pool.proofs.Scan.{next_free_is, last_free_is}
use Rattle.placement.specs.Insertion.{free_slots}
use Rattle.placement.specs.Live.{LivePieces, is_above, rank_in}
use Rattle.placement.specs.Placement.{Aiming, rank_slot, last_of, landing_down, landing_up}
use Rattle.placement.specs.Ready.{CanShift, IsReady}
use Rattle.placement.proofs.Planner.{Related}
use Rattle.placement.proofs.Landing.{LandsDown, LandsUp, lands_down, lands_up, down_end, up_end}
use Rattle.placement.proofs.Readied.{can_shift}
use Rattle.move_planner.specs.declared.chains.Chain.{Chain}
use Rattle.move_planner.specs.Boundary.{one}
use Rattle.move_planner.specs.Steps.{DownWay, UpWay, IsWay, Landed}
use Rattle.move_planner.proofs.Turned.{chain_down, chain_up, low_at, high_at}

pub one_small : (so : Bool) → one so ≤ 1
one_small true = lit≤ tt
one_small false = lit≤ tt

-- the last of some slots stands at the last place
pub last_at : (from : ℕ) (rest : List ℕ) (none k : ℕ) → k ≡ length rest → slice_index_or (from ∷ rest) k none ≡ last_of from rest
last_at from [] none zero is = refl
last_at from [] none (suc k) is = absurd (omega arith)
last_at from (next ∷ rest) none zero is = absurd (omega arith)
last_at from (next ∷ rest) none (suc k) is = last_at next rest none k (omega arith)

-- of so many entries each one's share begins inside the slots
pub rank_inside : (slots before all : ℕ) → before < all → rank_slot slots before all ≤ slots
rank_inside slots before all less =
    let share : 2 * before + 1 ≤ 2 * all = omega arith in
    div-le_of_le-mul (2 * all) (mul-le-mul_right slots share)

-- no more slots hold entries of some kind than are taken
abbrev one_here : (ℕ → Bool) → Option ℕ → ℕ
one_here test held = cond (holds test held) 1 0

abbrev one_free : Option ℕ → ℕ
one_free held = cond (is_none held) 1 0

pub some_taken : (test : ℕ → Bool) (slots : Slots) → count_by (λ (held : Option ℕ). holds test held) slots + free_slots slots ≤ length slots
some_taken test [] = omega arith
some_taken test (None ∷ slots) =
    let rest = some_taken test slots in
    let same : count_by (λ (held : Option ℕ). holds test held) (None ∷ slots) ≡ 0 + count_by (λ (held : Option ℕ). holds test held) slots = sum_by-cons (one_here test) None slots in
    let more : free_slots (None ∷ slots) ≡ 1 + free_slots slots = sum_by-cons one_free None slots in
    omega arith
some_taken test (Some id ∷ slots) =
    let rest = some_taken test slots in
    let small = one_small (test id) in
    let more : count_by (λ (held : Option ℕ). holds test held) (Some id ∷ slots) ≡ one (test id) + count_by (λ (held : Option ℕ). holds test held) slots = sum_by-cons (one_here test) (Some id) slots in
    let same : free_slots (Some id ∷ slots) ≡ 0 + free_slots slots = sum_by-cons one_free (Some id) slots in
    omega arith

pub rank_same : (a b before others all every : ℕ) → a ≡ b → before ≡ others → all ≡ every → rank_slot a before all ≡ rank_slot b others every
rank_same a b before others all every x y z =
    ap (λ n. rank_slot n before all) x ∙ (ap (λ n. rank_slot b n all) y ∙ ap (rank_slot b others) z)

module _ (index : LivePieces) (aiming : Aiming) (id : ℕ) (slots : Slots) (chain landed : Chain) (ready : IsReady index id slots)
    (is : Landed (is_above index.live) (rank_in index.live) aiming slots chain landed) where
  -- where the way's last member goes
  pub down_free : (w : DownWay (is_above index.live) slots id chain) → landed.free ≡ landing_down (is_above index.live) (rank_in index.live) aiming slots chain.free (last_of w.lower w.down.rest)
  down_free w = is.down w.lower w.down.rest w.down.members (down_end (is_above index.live) slots chain.free w.lower w.down.rest w.down.follows)

  pub up_free : (w : UpWay (is_above index.live) slots id chain) → landed.free ≡ landing_up (is_above index.live) (rank_in index.live) aiming slots chain.free (last_of w.upper w.up.rest)
  up_free w = is.up w.upper w.up.rest w.up.members (up_end (is_above index.live) slots chain.free w.upper w.up.rest w.up.follows)

  -- it goes to a free slot, and its chain to that
  pub down_lands : (w : DownWay (is_above index.live) slots id chain) → LandsDown (is_above index.live) slots w.lower w.down.rest landed.free
  down_lands w =
      let h = low_at index id slots w.lower ready w.low in
      let c = chain_down index id slots w.lower chain.free w.down.rest ready h.lower h.stands w.down.follows in
      let f = (next_free_is slots w.lower chain.free w.down.to).1 in
      subst (LandsDown (is_above index.live) slots w.lower w.down.rest) (sym (down_free w))
      (lands_down (Related (is_above index.live)) (rank_in index.live) (is_above index.live) (rank_in index.live) aiming slots chain.free w.lower w.down.rest f c.chain w.down.follows)

  pub up_lands : (w : UpWay (is_above index.live) slots id chain) → LandsUp (is_above index.live) slots w.upper w.up.rest landed.free
  up_lands w =
      let h = high_at index id slots w.upper ready w.high in
      let c = chain_up index id slots w.upper chain.free w.up.rest ready h.upper h.stands w.up.follows in
      let f = (last_free_is slots w.upper chain.free w.up.to).1 in
      subst (LandsUp (is_above index.live) slots w.upper w.up.rest) (sym (up_free w))
      (lands_up (Related (is_above index.live)) (rank_in index.live) (is_above index.live) (rank_in index.live) aiming slots chain.free w.upper w.up.rest f c.chain w.up.follows)

  -- so it can move
  pub landed_shifts : IsWay (is_above index.live) slots id chain → CanShift slots landed.free landed.members.items
  landed_shifts (inl w) =
      let h = low_at index id slots w.lower ready w.low in
      let l = down_lands w in
      let d = chain_down index id slots w.lower landed.free w.down.rest ready h.lower h.stands l.chain in
      subst (CanShift slots landed.free) (sym (ap (λ m. m.items) is.same ∙ w.down.members))
      (can_shift Downwards (Related (is_above index.live)) (rank_in index.live) slots landed.free w.lower w.down.rest d.chain l.empty.inside l.empty.free)
  landed_shifts (inr w) =
      let h = high_at index id slots w.upper ready w.high in
      let l = up_lands w in
      let d = chain_up index id slots w.upper landed.free w.up.rest ready h.upper h.stands l.chain in
      subst (CanShift slots landed.free) (sym (ap (λ m. m.items) is.same ∙ w.up.members))
      (can_shift Upwards (Related (is_above index.live)) (rank_in index.live) slots landed.free w.upper w.up.rest d.chain l.empty.inside l.empty.free)
