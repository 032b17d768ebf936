-- What comes of the plans of both tables.
use Rattle.std.proofs.Common.{◌≡◌, inl, inr, ℕ, true, false, Ok, Err, List, [], ◌++◌, refl, sym, ap, ap₂, ◌∙◌}
use Rattle.rule_store.specs.declared.Command.{Command}
use Rattle.rule_store.specs.declared.Mode.{Mode}
use Rattle.rule_store.specs.Verdict.{Verdict, Accepted, Unsound, OutOfBits, OutOfSlots}
use Rattle.readback.specs.declared.Rejection.{Rejection}
use Rattle.readback.specs.declared.Rejection.TheVariants as rejection
use Rattle.readback.specs.Judged.{judgement}
use Rattle.batch_order.specs.declared.Refusal.{Refusal}
use Rattle.batch_order.specs.declared.Refusal.TheVariants as refusal
use Rattle.batch_order.specs.CarriedOut.{finished}
use Rattle.batch_order.specs.Managed.{Managed}
use Rattle.split_device.specs.declared.SplitAction.{SplitAction}
use Rattle.split_writes.specs.declared.SplitDone.{SplitDone}
use Rattle.split_order.specs.CarriedOut.{finished_split}
use Rattle.split_order.specs.Left.{left_of}
use Rattle.split_order.specs.Managed.{SplitManaged, at_rest}
use Rattle.split_order.specs.Prepared.{AnswersSplit, HoldsSplit}
use Rattle.report_lines.specs.Told.{verdict_told}
use Rattle.router.specs.declared.Side.TheVariants as side
use Rattle.router.specs.Run.{Setting, after_part}
use Rattle.router.specs.Routing.{Routing, managed_table}
use Rattle.router.specs.Taken.{IsNotBusy, IsUnplannedBy, list_verdict, route_verdict, unplanned_by}

-- a batch that is taken is accepted
pub split_accepted : (verdict : Verdict) (counts : SplitDone) → AnswersSplit (judgement verdict) (Ok counts) → verdict ≡ Accepted
split_accepted Accepted counts taken = refl
split_accepted (Unsound fault) counts taken = absurd (cc)
split_accepted (OutOfBits field needed free) counts taken = absurd (cc)
split_accepted (OutOfSlots needed free) counts taken = absurd (cc)

-- memory is wanting only of one that is
split_memory : (verdict : Verdict) → AnswersSplit (judgement verdict) (Err refusal.Memory) → verdict ≡ Accepted
split_memory Accepted taken = refl
split_memory (Unsound fault) taken = absurd (cc)
split_memory (OutOfBits field needed free) taken = absurd (cc)
split_memory (OutOfSlots needed free) taken = absurd (cc)

-- a rejection tells the verdict
split_told : (verdict : Verdict) (reason : Rejection) → AnswersSplit (judgement verdict) (Err (refusal.Rejected reason)) → verdict ≡ verdict_told reason
split_told Accepted reason (inl taken) = absurd (let none : false ≡ true = taken in cc)
split_told Accepted reason (inr same) = absurd (cc)
split_told (Unsound fault) reason same = let is : reason ≡ rejection.Unsound fault = cc in sym (ap verdict_told is)
split_told (OutOfBits field needed free) reason same = let is : reason ≡ rejection.Bits field needed free = cc in sym (ap verdict_told is)
split_told (OutOfSlots needed free) reason same = let is : reason ≡ rejection.Slots needed free = cc in sym (ap verdict_told is)

-- a manager with no commit under way isn't busy
pub split_never_busy : (verdict : Verdict) (left : ℕ) → AnswersSplit (judgement verdict) (Err (refusal.Busy left)) → ⊥
split_never_busy Accepted left (inl taken) = let none : false ≡ true = taken in cc
split_never_busy Accepted left (inr same) = cc
split_never_busy (Unsound fault) left same = cc
split_never_busy (OutOfBits field needed free) left same = cc
split_never_busy (OutOfSlots needed free) left same = cc

pub not_busy : (verdict : Verdict) (why : Refusal) → AnswersSplit (judgement verdict) (Err why) → IsNotBusy why
not_busy verdict (refusal.Busy left) answers = split_never_busy verdict left answers
not_busy verdict refusal.Memory answers = tt
not_busy verdict (refusal.Rejected reason) answers = tt

-- why a commit isn't planned
pub list_unplanned : (router : Routing) (why : Refusal) → AnswersSplit (judgement (list_verdict router)) (Err why) → IsUnplannedBy router (unplanned_by side.List why)
list_unplanned router (refusal.Busy left) answers = absurd (split_never_busy (list_verdict router) left answers)
list_unplanned router refusal.Memory answers = split_memory (list_verdict router) answers
list_unplanned router (refusal.Rejected reason) answers = split_told (list_verdict router) reason answers

pub route_unplanned : (router : Routing) (why : Refusal) → list_verdict router ≡ Accepted → AnswersSplit (judgement (route_verdict router)) (Err why) → IsUnplannedBy router (unplanned_by side.Routes why)
route_unplanned router (refusal.Busy left) accepted answers = accepted
route_unplanned router refusal.Memory accepted answers = accepted
route_unplanned router (refusal.Rejected reason) accepted answers = (accepted, split_told (route_verdict router) reason answers)

-- where a table stands after its part
pub table_after : (slots : ℕ) (old : SplitManaged) (batch : List Command) (counts : SplitDone) (now : SplitManaged) (setting : Setting) → setting.mode ≡ old.whole.mode
    → HoldsSplit old batch counts now → managed_table (finished_split slots now) [] ≡ after_part setting (managed_table old batch) (left_of slots now)
table_after slots old batch counts now setting same holds =
    ap₂ (λ (whole : Managed) (events : List SplitAction). managed_table (at_rest (finished whole) (events ++ left_of slots now)) []) holds.whole.1.new_is holds.events
    ∙ ap (λ (mode : Mode). after_part (record setting { mode = mode }) (managed_table old batch) (left_of slots now)) (sym same)
