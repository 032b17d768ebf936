-- One free slot alone: it is the nearest to every wish.
use Rattle.std.proofs.Common.{◌≡◌, ℕ, ◌+◌, ◌≤◌, true, ◌&&◌, Option, None, Some, length, inl, inr, arith, refl, ap}
use Rattle.std.specs.Prelude.{nat_lt, nat_le, is_none}
use Rattle.std.proofs.lemmas.Bool.{cases_lt, both_ways, and_from, lt-ltb, le-leb}
use Rattle.slot_pool.specs.Arrangement.{Slots, is_free, is_free_within, nearest_free, IsFirstFree}
use Rattle.slot_pool.proofs.Scan.{nearest_free_is}
use Rattle.move_planner.proofs.Ways.{nearest_some}

pub single : (slots : Slots) (start end only wish : ℕ) → end ≤ length slots → IsFirstFree slots start end (Some only) → IsFirstFree slots (only + 1) end None → nearest_free slots start end wish ≡ Some only
single slots start end only wish inside first later = go (nearest_free slots start end wish) refl
  where
    go : (found : Option ℕ) → nearest_free slots start end wish ≡ found → found ≡ Some only
    go None e = absurd (let low = first.0 in let high = first.1 in
        nearest_some wish (λ at. is_free_within slots start end at) 0 (length slots) only (omega arith) (omega arith)
        (and_from (nat_le start only && nat_lt only end) (is_free slots only) (and_from (nat_le start only) (nat_lt only end) (le-leb start only first.0) (lt-ltb only end first.1)) first.2) e)
    go (Some at) e =
        let n = nearest_free_is slots start end wish at e in
        let free : is_free slots at ≡ true = ap is_none n.free.free in
        elim (cases_lt at only) [
          | inl before ↦ absurd (both_ways _ (first.3 at n.low before) free)
          | inr not ↦ elim (cases_lt only at) [
            | inl behind ↦ absurd (both_ways _ (later at (omega arith) n.high) free)
            | inr same ↦ ap Some (let k : at ≡ only = omega arith in k)
          ]
        ]
