-- Tables that are found right serve live ranges.
use Rattle.std.proofs.Common.{◌≡◌, ℕ, ◌<◌, ◌^◌, Bool, true, false, IsTrue, IsFalse, Some, List, subst}
use Rattle.std.specs.Prelude.{◌↔◌, slice_index}
use Rattle.std.proofs.lemmas.Bool.{both_ways}
use Rattle.rule_model.specs.PortRange.{PortRange}
use Rattle.range_bits.specs.LiveRanges.{LiveRanges, range_at}
use Rattle.tcam_device.specs.State.{State}
use Rattle.tcam_device.specs.Order.{IsTranslated}
use Rattle.commit_writes.specs.Bits.{FieldBits}
use Rattle.commit_writes.specs.InFlight.{HasBits}
use Rattle.commit_writes.specs.Serving.{AreTranslated}

-- one table serves the live ranges of its field
abbrev pub IsServed : LiveRanges → List ℕ → Type 0
IsServed live table = (bit : ℕ) (range : PortRange) → range_at live bit ≡ Some range → IsTranslated table bit range

pub served_is : (live now : LiveRanges) (table held : List ℕ) (found : Bool) → now ≡ live → held ≡ table
    → IsTrue found ↔ ((port : ℕ) → port < 2 ^ 16 → HasBits now port (slice_index held port)) → IsTrue found ↔ IsServed live table
served_is live now table held found live_is table_is are =
    let there : IsTrue found ↔ ((port : ℕ) → port < 2 ^ 16 → HasBits live port (slice_index table port)) =
    subst (λ l. IsTrue found ↔ ((port : ℕ) → port < 2 ^ 16 → HasBits l port (slice_index table port))) live_is
    (subst (λ t. IsTrue found ↔ ((port : ℕ) → port < 2 ^ 16 → HasBits now port (slice_index t port))) table_is are) in (
      λ true_is bit range held port fits. there.0 true_is port fits bit range held,
      λ right. there.1 (λ port fits bit range held. right bit range held port fits),
    )

-- both serve where each does
pub both_served : (state : State) (during : FieldBits) (src dst : Bool) → IsTrue src ↔ IsServed during.src state.src → IsTrue src → IsTrue dst ↔ IsServed during.dst state.dst → IsTrue dst ↔ AreTranslated state during
both_served state during src dst first true_is second = (
  λ right. record { src = first.0 true_is; dst = second.0 right },
  λ right. second.1 right.dst,
)

pub first_unserved : (state : State) (during : FieldBits) (src : Bool) → IsTrue src ↔ IsServed during.src state.src → IsFalse src → IsTrue false ↔ AreTranslated state during
first_unserved state during src first false_is = (
  λ bad. absurd (let wrong : false ≡ true = bad in cc),
  λ right. absurd (both_ways src false_is (first.1 right.src)),
)
