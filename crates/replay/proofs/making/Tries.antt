-- Tries of writes, one after the other.
use Rattle.std.proofs.Common.{◌≡◌, ℕ, ◌+◌, arith}
use Rattle.std.proofs.lemmas.Int.{clamps}
use Rattle.batch_order.specs.CarriedOut.{IsTried}

-- no write is tried
pub tried-none : (Stuck : Type 0) (before now : ℕ) → (Stuck → ⊥) → now ≡ before → IsTried 4 0 Stuck before now
tried-none Stuck before now never same = record {
  later = omega (arith, same);
  most = λ _. omega (arith, same);
  most_stuck = omega (arith, same);
  failed = λ stuck. absurd (never stuck);
}

-- first some that came to their end, and then some more
pub tried-then : (first second : ℕ) (A B : Type 0) (before mid now : ℕ) → (A → ⊥) → IsTried 4 first A before mid → IsTried 4 second B mid now → IsTried 4 (first + second) B before now
tried-then first second A B before mid now went was is =
    let early = was.later in
    let low = was.most went in
    record {
      later = (let late = is.later in omega arith);
      most = λ ends. (let high = is.most ends in omega arith);
      most_stuck = (let high = is.most_stuck in omega arith);
      failed = λ stuck. (let rose = is.failed stuck in omega (arith, clamps));
    }

-- another failure that comes exactly where that one does
pub tried-as : (A B : Type 0) (made before now : ℕ) → (B → A) → (A → B) → IsTried 4 made A before now → IsTried 4 made B before now
tried-as A B made before now back forth is = record {
  later = is.later;
  most = λ other. is.most (λ a. other (forth a));
  most_stuck = is.most_stuck;
  failed = λ b. is.failed (back b);
}
