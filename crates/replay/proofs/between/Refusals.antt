-- What the rejection of an idle manager tells of the verdict.
use Rattle.std.proofs.Common.{◌≡◌, ◌≢◌, ℕ, true, false, inl, inr, Result, Ok, Err, ap}
use Rattle.rule_store.specs.Verdict.{Verdict, Accepted, Unsound, OutOfBits, OutOfSlots}
use Rattle.readback.specs.declared.Rejection.{Rejection}
use Rattle.readback.specs.declared.Rejection.TheVariants as rejection
use Rattle.readback.specs.Judged.{judgement}
use Rattle.batch_order.specs.declared.Refusal.TheVariants as refusal
use Rattle.batch_order.specs.Managed.{Answers}
use Rattle.report_lines.specs.Told.{verdict_told}

-- it tells the verdict
pub told-verdict : (verdict : Verdict) (reason : Rejection) → Answers (judgement verdict) (Err (refusal.Rejected reason)) → verdict_told reason ≡ verdict
told-verdict Accepted reason (inl taken) = absurd (let none : false ≡ true = taken in cc)
told-verdict Accepted reason (inr same) = absurd (cc)
told-verdict (Unsound fault) reason same = let is : reason ≡ rejection.Unsound fault = cc in ap verdict_told is
told-verdict (OutOfBits field needed free) reason same = let is : reason ≡ rejection.Bits field needed free = cc in ap verdict_told is
told-verdict (OutOfSlots needed free) reason same = let is : reason ≡ rejection.Slots needed free = cc in ap verdict_told is

-- which is against the batch
pub told-refused : (reason : Rejection) → verdict_told reason ≢ Accepted
told-refused (rejection.Unsound fault) = λ accepted. cc
told-refused (rejection.Bits field needed free) = λ accepted. cc
told-refused (rejection.Slots needed free) = λ accepted. cc

-- an idle manager isn't busy
pub never-busy : (judged : Result (Unit {0}) Rejection) (left : ℕ) → Answers judged (Err (refusal.Busy left)) → ⊥
never-busy (Ok done) left (inl taken) = let none : false ≡ true = taken in cc
never-busy (Ok done) left (inr same) = cc
never-busy (Err reason) left same = cc
