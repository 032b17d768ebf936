-- The lowest bit of the mask of a comparison with 0 is the first lane that is 0.
use Rattle.std.proofs.Common.{◌≡◌, ℕ, ◌+◌, ◌<◌, ◌≤◌, List, length, get_or, eqb, cond, not, true, false, arith, sym, ap, ◌∙◌, take_all, zero-add}
use lib.Count.{count_trailing_zeros}
use lib.Lanes.{mask_l, chunk}
use mathlib.Core.List.{map}
use Rattle.std.specs.List.{prefix_len}
use Rattle.std.proofs.lemmas.Simd.{first_set_mask_l, run_in_chunk_le, run_in_chunk_fails, run_in_chunk_stops}

-- what a count of the lanes before the first 0 says
pub record IsFirstZero (a : List ℕ) (r : ℕ) : Type 0 where
  pub bound : r ≤ 8
  pub before : (k : ℕ) → k < r → eqb (get_or a k 0) 0 ≡ false
  pub at : r < 8 → eqb (get_or a r 0) 0 ≡ true

pub first_zero_is : (a : List ℕ) (r : ℕ) → length a ≡ 8
    → r ≡ cond (eqb (mask_l (map (λ x. eqb x 0) a)) 0) 8 (count_trailing_zeros 64 (mask_l (map (λ x. eqb x 0) a))) → IsFirstZero a r
first_zero_is a r len is =
    let p = λ (x : ℕ). eqb x 0 in
    let whole : chunk 0 8 a ≡ a = take_all 8 a (omega arith) in
    let counted : r ≡ prefix_len (λ x. not (p x)) (chunk 0 8 a) = is ∙ (first_set_mask_l p a 8 len (omega arith) ∙ ap (prefix_len (λ x. not (p x))) (sym whole)) in
    record {
      bound = run_in_chunk_le p a 0 8 r 0 (omega arith) counted;
      before = λ k l. run_in_chunk_fails p a 0 8 r 0 (omega arith) counted k (omega arith) (omega arith);
      at = λ l. let s : eqb (get_or a (0 + r) 0) 0 ≡ true = run_in_chunk_stops p a 0 8 r 0 (omega arith) counted l in simp zero-add at s;
    }
