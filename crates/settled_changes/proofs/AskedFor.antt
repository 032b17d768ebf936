-- What is asked for: as strict commands, and how it is judged.
use Rattle.std.proofs.Common.{◌≡◌, ℕ, Option, Some, None, List, [], ◌∷◌, ◌++◌, map, refl, sym, ap, ◌∙◌}
use Rattle.rule_model.specs.declared.Rule.{Rule}
use Rattle.rule_store.specs.declared.BatchFault.{BatchFault}
use Rattle.rule_store.specs.declared.Command.{Command}
use Rattle.rule_store.specs.declared.Mode.{Mode}
use Rattle.rule_store.specs.Batch.{IsSound}
use Rattle.rule_store.specs.Verdict.{Accepted, Unsound, Verdict, room_verdict, verdict, verdict_by}
use Rattle.settled_changes.specs.declared.Request.{Request}
use Rattle.settled_changes.specs.declared.Request.TheVariants.{Strict}
use Rattle.settled_changes.specs.declared.SettleFault.TheVariants.{Unsound as Unsettled}
use Rattle.settled_changes.specs.declared.requested.Requested.{Requested}
use Rattle.settled_changes.specs.declared.requested.Requested.TheVariants.{Nothing, Changes, Whole}
use Rattle.settled_changes.specs.Requests.{asked_set, requests_fault}
use Rattle.settled_changes.specs.Settled.{settled}
use Rattle.settled_changes.specs.Requested.{AcceptedLeadsWhereAsked, IsAsked, IsWhyNone, TakesAsked, settled_batch, settled_verdict, strict_form}
use Rattle.settled_changes.proofs.At.{asked-set}
use Rattle.settled_changes.proofs.Leads.{leads}
use Rattle.settled_changes.proofs.Forgiving.{whole-set}

-- strict commands as requests ask for the same
pub forms-strict : (batch : List Command) → map strict_form (map Strict batch) ≡ batch
forms-strict [] = refl
forms-strict (command ∷ batch) = ap (λ forms. command ∷ forms) (forms-strict batch)

pub forms-append : (a b : List Request) → map strict_form (a ++ b) ≡ map strict_form a ++ map strict_form b
forms-append [] b = refl
forms-append (request ∷ a) b = ap (λ forms. strict_form request ∷ forms) (forms-append a b)

-- something is asked for, or nothing
pub none-asked : (asked : Requested) → (IsAsked asked → ⊥) → asked ≡ Nothing
none-asked Nothing none = refl
none-asked (Changes requests) none = absurd (none tt)
none-asked (Whole requests) none = absurd (none tt)

-- where the set takes it, the verdict on it is that on its settled batch,
pub verdict-taken : (slots : ℕ) (mode : Mode) (rules : List Rule) (batch : List Command) (asked : Requested) → TakesAsked rules asked → IsSound rules (settled_batch rules batch asked)
    → settled_verdict slots mode rules batch asked ≡ verdict slots mode rules (settled_batch rules batch asked)
verdict-taken slots mode rules batch Nothing taken sound = refl
verdict-taken slots mode rules batch (Changes requests) taken sound =
    ap (λ fault. verdict_by fault (room_verdict slots mode rules (settled_batch rules batch (Changes requests)))) (taken ∙ sym sound)
verdict-taken slots mode rules batch (Whole requests) taken sound =
    ap (λ fault. verdict_by fault (room_verdict slots mode rules (settled_batch rules batch (Whole requests)))) (taken ∙ sym sound)

-- and what the set doesn't take is refused for its fault
pub verdict-fault : (slots : ℕ) (mode : Mode) (rules : List Rule) (batch : List Command) (asked : Requested) (fault : BatchFault) → IsWhyNone rules asked (Unsettled fault)
    → settled_verdict slots mode rules batch asked ≡ Unsound fault
verdict-fault slots mode rules batch Nothing fault why = absurd why
verdict-fault slots mode rules batch (Changes requests) fault why =
    ap (λ found. verdict_by found (room_verdict slots mode rules (settled_batch rules batch (Changes requests)))) why
verdict-fault slots mode rules batch (Whole requests) fault why =
    ap (λ found. verdict_by found (room_verdict slots mode rules (settled_batch rules batch (Whole requests)))) why

-- the set takes what is accepted
taken_of : (fault : Option BatchFault) (room : Verdict) → verdict_by fault room ≡ Accepted → fault ≡ None
taken_of None room accepted = refl
taken_of (Some fault) room accepted = absurd (let clash : Unsound fault ≡ Accepted = accepted in cc)

-- and it leads where it is asked to
pub accepted-leads : AcceptedLeadsWhereAsked
accepted-leads slots mode rules batch Nothing is_set accepted = refl
accepted-leads slots mode rules batch (Changes requests) is_set accepted =
    (leads rules requests is_set (taken_of (requests_fault rules requests) (room_verdict slots mode rules (settled rules requests)) accepted)).1
accepted-leads slots mode rules batch (Whole requests) is_set accepted =
    (whole-set rules (asked_set [] requests) is_set (asked-set [] requests tt)).1
