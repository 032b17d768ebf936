-- One pair more, beside others that were linked before.
use Rattle.std.proofs.Common.{◌≡◌, ℕ, inl, inr, ◌⊎◌}
use Rattle.std.specs.Prelude.{◌↔◌}
use Rattle.order_chains.specs.Pairs.{Pair, Pairs, IsLinked}
use Rattle.order_chains.proofs.Seen.{linked_pairs}
use Rattle.overlap_index.specs.Linked.{HaveMore}

pub linked_more : (old mid new : Pairs) (Before After : ℕ → ℕ → Type 0) (pair : Pair) → HaveMore old mid Before → IsLinked mid.places new.places pair
    → ((upper lower : ℕ) → After upper lower ↔ (Before upper lower ⊎ ((upper, lower) ≡ pair))) → HaveMore old new After
linked_more old mid new Before After pair more is after upper lower = (
  λ c. elim ((linked_pairs mid.places new.places pair (upper, lower) is).0 c) [
    | inl m ↦ elim ((more upper lower).0 m) [ inl o ↦ inl o | inr b ↦ inr ((after upper lower).1 (inl b)) ]
    | inr e ↦ inr ((after upper lower).1 (inr e))
  ],
  λ c. (linked_pairs mid.places new.places pair (upper, lower) is).1 (elim c [
    | inl o ↦ inl ((more upper lower).1 (inl o))
    | inr a ↦ elim ((after upper lower).0 a) [ inl b ↦ inl ((more upper lower).1 (inr b)) | inr e ↦ inr e ]
  ]),
)
