-- A yes says of a text that each write of it is hitless, and what look-ups of two events see.
use Rattle.std.proofs.Common.{ℕ, List}
use Rattle.trace_check.specs.declared.places.Place.TheVariants.{AtEnd}
use Rattle.trace_check.specs.Answers.{Yes, IsTraceAnswer, IsOrderlyText}
use Rattle.trace_check.proofs.AnyMode.{orderly_hitless}
use Rattle.trace_check.proofs.Yes.{yes_is_orderly}
use Rattle.trace_lookups.proofs.LookUps.{orderly_serve_look_ups}
use Rattle.trace_verify.specs.Verify.{IsHitlessText}

pub yes-hitless : (text : List ℕ) (commits writes : ℕ) → IsTraceAnswer text (Yes commits writes) → IsHitlessText text commits writes
yes-hitless text commits writes told =
    let orderly : IsOrderlyText text commits writes = yes_is_orderly text commits writes told in (
      orderly,
      orderly_hitless orderly.lines orderly.within orderly.trace orderly.orderly,
      orderly_serve_look_ups orderly.lines orderly.within (AtEnd, orderly.trace) orderly.orderly,
    )
