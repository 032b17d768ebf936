-- The batch in hand, with forgiving changes among it or none, and how it is judged and planned.
use Rattle.std.specs.Prelude.{◌≡◌, ℕ, ◌⊎◌, Result, Err, Option, Some, None, List, [], ◌∷◌, ◌++◌, length, map}
use Rattle.rule_model.specs.declared.Rule.{Rule}
use Rattle.rule_store.specs.declared.Command.{Command}
use Rattle.rule_store.specs.Batch.{IsSound, set_after}
use Rattle.settled_changes.specs.declared.Request.{Request}
use Rattle.settled_changes.specs.declared.Request.TheVariants as request
use Rattle.settled_changes.specs.declared.SettleFault.{SettleFault}
use Rattle.settled_changes.specs.declared.SettleFault.TheVariants as settling
use Rattle.settled_changes.specs.Requests.{AreTaken, asked_set}
use Rattle.settled_changes.specs.Settled.{IsWhyNoSet, IsWhyUnsettled, settled, whole_requests}
use Rattle.readback.specs.declared.Rejection.TheVariants as rejection
use Rattle.batch_order.specs.Managed.{HeldCommit}
use Rattle.batch_order.specs.declared.Refusal.{Refusal}
use Rattle.batch_order.specs.declared.Refusal.TheVariants as refusal
use Rattle.tcam_c.specs.Tables.{IsServingTable, PreparesTable, rules_of_table}
use Rattle.tcam_c.specs.declared.in_hand.PendingBatch.{PendingBatch}
use Rattle.tcam_c.specs.declared.in_hand.PendingBatch.TheVariants.{Strict, Asked}
use Rattle.tcam_c.specs.declared.plain.TcamNumbers.{TcamNumbers}
use Rattle.tcam_c.specs.declared.table.Table.{Table}
use Rattle.tcam_c.specs.declared.table.Table.TheVariants.{Whole, Split}

-- how many changes a batch has
abbrev pub changes_in : PendingBatch → ℕ
changes_in (Strict batch) = length batch
changes_in (Asked requests) = length requests

-- its changes as requests
abbrev pub requests_in : PendingBatch → List Request
requests_in (Strict batch) = map request.Strict batch
requests_in (Asked requests) = requests

-- A strict command joins it, and a forgiving change does: from the first of these on they are requests, each in its place.
abbrev pub command_joined : PendingBatch → Command → PendingBatch
command_joined (Strict batch) command = Strict (batch ++ command ∷ [])
command_joined (Asked requests) command = Asked (requests ++ request.Strict command ∷ [])

abbrev pub request_joined : PendingBatch → Request → PendingBatch
request_joined batch asked = Asked (requests_in batch ++ asked ∷ [])

-- the commit under way
abbrev pub held_of_table : Table → Option HeldCommit
held_of_table (Whole driven) = driven.manager.held
held_of_table (Split manager) = manager.whole.held

-- Changes come to this batch, which the set takes, and which leads to this one. It is judged and planned as any other.
pub record PreparesTo (batch : List Command) (aim : List Rule) (judged : Result TcamNumbers Refusal) (before after : Table) : Type 0 where
  pub sound : IsSound (rules_of_table before) batch
  pub leads : set_after (rules_of_table before) batch ≡ aim
  pub prepares : PreparesTable batch judged before after

-- Changes come to no batch, and it is told why. Nothing changes, and each key is answered as before.
abbrev pub refusal_of_settling : SettleFault → Refusal
refusal_of_settling (settling.Unsound fault) = refusal.Rejected (rejection.Unsound fault)
refusal_of_settling settling.Memory = refusal.Memory

pub record ComesToNone (fault : SettleFault) (judged : Result TcamNumbers Refusal) (before after : Table) : Type 0 where
  pub told : judged ≡ Err (refusal_of_settling fault)
  pub same : after ≡ before
  pub serves : IsServingTable before

-- Requests are settled over the set: they come to a batch that leads where they say, one after the other, or to none.
abbrev pub PreparesSettled : List Request → Result TcamNumbers Refusal → Table → Table → Type 0
PreparesSettled requests judged before after =
    (AreTaken (rules_of_table before) requests
    × PreparesTo (settled (rules_of_table before) requests) (asked_set (rules_of_table before) requests) judged before after)
    ⊎ ((fault : SettleFault) × IsWhyUnsettled (rules_of_table before) requests fault × ComesToNone fault judged before after)

-- While a commit is under way they are refused as any batch is, whatever they are.
abbrev pub PreparesAsked : Option HeldCommit → List Request → Result TcamNumbers Refusal → Table → Table → Type 0
PreparesAsked (Some held) requests judged before after = PreparesTable [] judged before after
PreparesAsked None requests judged before after = PreparesSettled requests judged before after

-- The batch in hand is judged and planned: strict commands alone as they are, and others as they are settled.
abbrev pub PreparesInHand : PendingBatch → Result TcamNumbers Refusal → Table → Table → Type 0
PreparesInHand (Strict batch) judged before after = PreparesTable batch judged before after
PreparesInHand (Asked requests) judged before after = PreparesAsked (held_of_table before) requests judged before after

-- What changes make of no rules at all is the whole new set, and the batch that leads to exactly its rules is judged and planned.
abbrev pub PreparesWholeSet : List Request → Result TcamNumbers Refusal → Table → Table → Type 0
PreparesWholeSet requests judged before after =
    (AreTaken [] requests
    × PreparesTo (settled (rules_of_table before) (whole_requests (rules_of_table before) (asked_set [] requests))) (asked_set [] requests) judged before after)
    ⊎ ((fault : SettleFault) × IsWhyNoSet requests fault × ComesToNone fault judged before after)

abbrev pub PreparesAll : Option HeldCommit → List Request → Result TcamNumbers Refusal → Table → Table → Type 0
PreparesAll (Some held) requests judged before after = PreparesTable [] judged before after
PreparesAll None requests judged before after = PreparesWholeSet requests judged before after
