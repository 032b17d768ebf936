-- The batch in hand, and what it comes to.
use Rattle.std.proofs.Common.{◌≡◌, true, false, Option, Some, None, Result, Err, List, [], inl, inr}
use Rattle.std.specs.Option.{is_some}
use Rattle.rule_store.specs.declared.Command.{Command}
use Rattle.rule_store.specs.Batch.{IsSound, set_after}
use Rattle.settled_changes.specs.declared.Request.{Request}
use Rattle.settled_changes.specs.declared.SettleFault.{SettleFault}
use Rattle.settled_changes.specs.Requests.{AreTaken, asked_set}
use Rattle.settled_changes.specs.Settled.{IsWhyNoSet, IsWhyUnsettled, settled, whole_requests}
use Rattle.batch_order.specs.Managed.{HeldCommit}
use Rattle.batch_order.specs.declared.Refusal.{Refusal}
use Rattle.tcam_c.specs.InHand.{PreparesAll, PreparesAsked, refusal_of_settling}
use Rattle.tcam_c.specs.Tables.{IsServingTable, PreparesTable, rules_of_table}
use Rattle.tcam_c.specs.declared.plain.TcamNumbers.{TcamNumbers}
use Rattle.tcam_c.specs.declared.table.Table.{Table}

module _ (judged : Result TcamNumbers Refusal) (before after : Table) where
  -- a batch is refused while a commit is under way,
  pub busy_asked : (held : Option HeldCommit) (requests : List Request) → is_some held ≡ true → PreparesTable [] judged before after → PreparesAsked held requests judged before after
  busy_asked (Some held) requests busy prepares = prepares
  busy_asked None requests busy prepares = cc

  pub busy_all : (held : Option HeldCommit) (requests : List Request) → is_some held ≡ true → PreparesTable [] judged before after → PreparesAll held requests judged before after
  busy_all (Some held) requests busy prepares = prepares
  busy_all None requests busy prepares = cc

  -- and else what the requests come to is judged and planned,
  pub settled_asked : (held : Option HeldCommit) (requests : List Request) (batch : List Command) → is_some held ≡ false
      → AreTaken (rules_of_table before) requests → batch ≡ settled (rules_of_table before) requests → IsSound (rules_of_table before) batch
      → set_after (rules_of_table before) batch ≡ asked_set (rules_of_table before) requests
      → PreparesTable batch judged before after → PreparesAsked held requests judged before after
  settled_asked (Some held) requests batch idle taken is sound leads prepares = cc
  settled_asked None requests batch idle taken is sound leads prepares =
      inl (taken, rw (← is) record { sound = sound; leads = leads; prepares = prepares })

  pub settled_all : (held : Option HeldCommit) (requests : List Request) (batch : List Command) → is_some held ≡ false
      → AreTaken [] requests → batch ≡ settled (rules_of_table before) (whole_requests (rules_of_table before) (asked_set [] requests))
      → IsSound (rules_of_table before) batch → set_after (rules_of_table before) batch ≡ asked_set [] requests
      → PreparesTable batch judged before after → PreparesAll held requests judged before after
  settled_all (Some held) requests batch idle taken is sound leads prepares = cc
  settled_all None requests batch idle taken is sound leads prepares =
      inl (taken, rw (← is) record { sound = sound; leads = leads; prepares = prepares })

  -- or it is told why they come to no batch
  pub none_asked : (held : Option HeldCommit) (requests : List Request) (fault : SettleFault) → is_some held ≡ false
      → IsWhyUnsettled (rules_of_table before) requests fault → judged ≡ Err (refusal_of_settling fault) → after ≡ before → IsServingTable before
      → PreparesAsked held requests judged before after
  none_asked (Some held) requests fault idle why told same serves = cc
  none_asked None requests fault idle why told same serves = inr (fault, why, record { told = told; same = same; serves = serves })

  pub none_all : (held : Option HeldCommit) (requests : List Request) (fault : SettleFault) → is_some held ≡ false
      → IsWhyNoSet requests fault → judged ≡ Err (refusal_of_settling fault) → after ≡ before → IsServingTable before
      → PreparesAll held requests judged before after
  none_all (Some held) requests fault idle why told same serves = cc
  none_all None requests fault idle why told same serves = inr (fault, why, record { told = told; same = same; serves = serves })
