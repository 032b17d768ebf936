-- The least slot of each id is its home, and in empty slots no id has one.
use Rattle.std.proofs.Common.{◌≡◌, ◌≢◌, ℕ, false, Option, None, Some, length, replicate, arith, inl, inr, refl, sym, ◌∙◌, subst, ap}
use Rattle.std.specs.Prelude.{◌==◌}
use Rattle.std.proofs.lemmas.Bool.{cases_lt, false_from_ne_true, eqb-true, eq-eqb}
use Rattle.std.proofs.lemmas.List.{get_or-replicate, get_or_past, length-replicate}
use Rattle.slot_order.specs.Order.{slot}
use Rattle.slot_order.proofs.Writes.{slot_inside}
use Rattle.slot_pool.specs.Arrangement.{Slots, passes, home_of}
use Rattle.slot_pool.specs.Homes.{IsFirstOf, AreHomes}
use Rattle.slot_pool.proofs.Searches.{home_found, home_none}

-- a slot that holds no id, or another
misses : (id : ℕ) (held : Option ℕ) → held ≢ Some id → passes (λ x. x == id) held ≡ false
misses id None other = refl
misses id (Some x) other = false_from_ne_true (x == id) (λ e. other (ap Some (eqb-true x id e)))

-- the least slot of all is the home
pub home_first : (slots : Slots) (id : ℕ) (found : Option ℕ) → IsFirstOf slots 0 id found → home_of slots id ≡ found
home_first slots id None none = home_none slots id (λ k inside. misses id (slot slots k) (none k (omega arith)))
home_first slots id (Some at) is =
    home_found slots id at (slot_inside slots at id is.1) (ap (passes (λ x. x == id)) is.1 ∙ eq-eqb id id refl) (λ k before. misses id (slot slots k) (is.2 k (omega arith) before))

none_some : (id : ℕ) → None ≢ Some id
none_some id e = absurd (cc)

-- nothing stands in empty slots
pub empty : (n at : ℕ) → slot {E = ℕ} (replicate n None) at ≡ None
empty n at = elim (cases_lt at n) [
  | inl inside ↦ get_or-replicate n at None None inside
  | inr past ↦ get_or_past (replicate n None) at None (let l : length (replicate {A = Option ℕ} n None) ≡ n = length-replicate n None in omega arith)
]

pub homes_none : (n : ℕ) → AreHomes (replicate n None) (replicate n None)
homes_none n = record {
  size = refl;
  first = λ id inside. subst (IsFirstOf (replicate n None) 0 id) (sym (empty n id)) (λ k low e. none_some id (sym (empty n k) ∙ e));
}
