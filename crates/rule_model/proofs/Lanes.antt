-- The lanes of an address are matched exactly where the address is.
use Rattle.std.proofs.Common.{◌≡◌, ℕ, ◌/◌, ◌%◌, ◌^◌, ◌<◌, Bool, true, ◌==◌, ◌&&◌, sym, ◌∙◌, ap, subst, arith, bit_and, bit_xor, eqb-true, eq-eqb}
use Rattle.std.proofs.lemmas.Bool.{and_parts, and_from}
use Rattle.std.proofs.lemmas.Bool.Decides.{same_from_decides}
use Rattle.std.proofs.lemmas.Nat.{and_le_r, xor_mod, and_mod}
use Rattle.rule_model.proofs.WordBits.{differing, lane_differs}

-- the lanes of a number of 128 bits, all of which are 0 where it is
abbrev zero_lanes : ℕ → Bool → Bool
zero_lanes n rest =
    (n / 2 ^ 96 % 2 ^ 32 == 0) && ((n / 2 ^ 64 % 2 ^ 32 == 0) && ((n / 2 ^ 32 % 2 ^ 32 == 0) && ((n % 2 ^ 32 == 0) && rest)))

together : (n : ℕ) → n < 2 ^ 128 → n / 2 ^ 96 % 2 ^ 32 ≡ 0 → n / 2 ^ 64 % 2 ^ 32 ≡ 0 → n / 2 ^ 32 % 2 ^ 32 ≡ 0 → n % 2 ^ 32 ≡ 0 → n ≡ 0
together n l a b c d = omega arith

zero_lanes-is : (n : ℕ) (rest : Bool) → n < 2 ^ 128 → zero_lanes n rest ≡ ((n == 0) && rest)
zero_lanes-is n rest fits = same_from_decides (zero_lanes n rest) ((n == 0) && rest)
    (gives, from)
    (and_parts (n == 0) rest, λ p. and_from (n == 0) rest p.0 p.1)
  where
    gives : zero_lanes n rest ≡ true → ((n == 0) ≡ true) × (rest ≡ true)
    gives e =
        let p = and_parts _ _ e in
        let q = and_parts _ _ p.1 in
        let r = and_parts _ _ q.1 in
        let t = and_parts _ _ r.1 in
        (eq-eqb n 0 (together n fits (eqb-true _ 0 p.0) (eqb-true _ 0 q.0) (eqb-true _ 0 r.0) (eqb-true _ 0 t.0)), t.1)

    from : ((n == 0) ≡ true) × (rest ≡ true) → zero_lanes n rest ≡ true
    from (zero, more) =
        let e = eqb-true n 0 zero in
        subst (λ m. zero_lanes m rest ≡ true) (sym e) more

-- the four lanes of an address before what follows them
abbrev pub address_test : ℕ → ℕ → ℕ → Bool → Bool
address_test word value mask rest =
    (differing (word / 2 ^ 96 % 2 ^ 32) (value / 2 ^ 96 % 2 ^ 32) (mask / 2 ^ 96 % 2 ^ 32) == 0)
    && ((differing (word / 2 ^ 64 % 2 ^ 32) (value / 2 ^ 64 % 2 ^ 32) (mask / 2 ^ 64 % 2 ^ 32) == 0)
    && ((differing (word / 2 ^ 32 % 2 ^ 32) (value / 2 ^ 32 % 2 ^ 32) (mask / 2 ^ 32 % 2 ^ 32) == 0)
    && ((differing (word % 2 ^ 32) (value % 2 ^ 32) (mask % 2 ^ 32) == 0) && rest)))

lowest_differs : (w word value mask : ℕ) → differing (word % 2 ^ w) (value % 2 ^ w) (mask % 2 ^ w) ≡ differing word value mask % 2 ^ w
lowest_differs w word value mask =
    ap (λ n. bit_and n (mask % 2 ^ w)) (sym (xor_mod word value w)) ∙ sym (and_mod (bit_xor word value) mask w)

four : (a b c d w x y z : ℕ) (rest : Bool) → a ≡ w → b ≡ x → c ≡ y → d ≡ z
    → ((a == 0) && ((b == 0) && ((c == 0) && ((d == 0) && rest)))) ≡ ((w == 0) && ((x == 0) && ((y == 0) && ((z == 0) && rest))))
four a b c d w x y z rest e f g h = cc

pub address_test-is : (word value mask : ℕ) (rest : Bool) → mask < 2 ^ 128 → address_test word value mask rest ≡ ((differing word value mask == 0) && rest)
address_test-is word value mask rest fits =
    let n = differing word value mask in
    four _ _ _ _ (n / 2 ^ 96 % 2 ^ 32) (n / 2 ^ 64 % 2 ^ 32) (n / 2 ^ 32 % 2 ^ 32) (n % 2 ^ 32) rest
    (lane_differs 96 32 word value mask) (lane_differs 64 32 word value mask) (lane_differs 32 32 word value mask) (lowest_differs 32 word value mask)
    ∙ zero_lanes-is n rest (omega (arith, and_le_r (bit_xor word value) mask))
