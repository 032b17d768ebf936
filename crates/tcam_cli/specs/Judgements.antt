-- What comes of the commits of a script, by the rule lists alone.
use Rattle.std.specs.Prelude.{Bool, true, false, List, [], ◌∷◌, drop}
use Rattle.rule_model.specs.declared.Rule.{Rule}
use Rattle.rule_store.specs.declared.Command.{Command as Change}
use Rattle.rule_store.specs.Batch.{set_after}
use Rattle.rule_store.specs.Verdict.{Verdict, Accepted, Unsound, OutOfBits, OutOfSlots}
use Rattle.settled_changes.specs.declared.requested.Requested.{Requested}
use Rattle.settled_changes.specs.declared.requested.Requested.TheVariants.{Nothing, Whole}
use Rattle.settled_changes.specs.Requested.{asked_behind, asked_with, batch_behind, batch_with, settled_batch, settled_verdict}
use Rattle.replay.specs.declared.Act.{Act}
use Rattle.replay.specs.declared.Act.TheVariants.{Command, Ask, All, Probe, Packet, Commit, Trial, Crash}
use Rattle.replay.specs.Early.{commit_verdict}
use Rattle.replay.specs.Effects.{Setting}

-- A commit is refused, and the set stays; or it leads to this set; or it is a trial that is taken back: it leads to a new set,
-- and to the old one again.
pub data Judgement : Type 0 where
  Declined : Judgement
  LedTo : (new : List Rule) → Judgement
  LedBack : (new old : List Rule) → Judgement

-- whether the next trial that is accepted is taken back: each in their order, and none past the last
abbrev pub is_back : List Bool → Bool
is_back [] = false
is_back (back ∷ backs) = back

-- a commit by its verdict, and those behind it, where it is made and where it isn't
abbrev pub judged_as : Verdict → List Judgement → List Judgement → List Judgement
judged_as Accepted made still = made
judged_as (Unsound fault) made still = Declined ∷ still
judged_as (OutOfBits field needed free) made still = Declined ∷ still
judged_as (OutOfSlots needed free) made still = Declined ∷ still

-- What comes of each commit of some acts, by which accepted trials are taken back: from a set of rules, where a batch is pending
-- and this is asked for beside it. A commit settles what is pending, and one that goes in two parts is judged by its rest.
abbrev pub judgements : Setting → List Bool → List Rule → List Change → Requested → List Act → List Judgement
judgements setting backs rules batch asked [] = []
judgements setting backs rules batch asked (Command change ∷ acts) = judgements setting backs rules (batch_with batch asked change) (asked_with asked change) acts
judgements setting backs rules batch asked (Ask request ∷ acts) = judgements setting backs rules (batch_behind batch asked) (asked_behind batch asked request) acts
judgements setting backs rules batch asked (All ∷ acts) = judgements setting backs rules [] (Whole []) acts
judgements setting backs rules batch asked (Probe key ∷ acts) = judgements setting backs rules batch asked acts
judgements setting backs rules batch asked (Packet key ∷ acts) = judgements setting backs rules batch asked acts
judgements setting backs rules batch asked (Commit ∷ acts) =
    let new = set_after rules (settled_batch rules batch asked) in
    judged_as (commit_verdict setting rules batch asked) (LedTo new ∷ judgements setting backs new [] Nothing acts) (judgements setting backs rules [] Nothing acts)
judgements setting backs rules batch asked (Trial most ∷ acts) =
    let new = set_after rules (settled_batch rules batch asked) in
    judged_as (settled_verdict setting.slots setting.mode rules batch asked) (elim (is_back backs) [
      | true ↦ LedBack new rules ∷ judgements setting (drop 1 backs) rules [] Nothing acts
      | false ↦ LedTo new ∷ judgements setting (drop 1 backs) new [] Nothing acts
    ]) (judgements setting backs rules [] Nothing acts)
judgements setting backs rules batch asked (Crash after ∷ acts) =
    let new = set_after rules (settled_batch rules batch asked) in
    judged_as (settled_verdict setting.slots setting.mode rules batch asked) (LedTo new ∷ judgements setting backs new [] Nothing acts) (judgements setting backs rules [] Nothing acts)

-- whether one of the commits is refused
abbrev pub any_declined : List Judgement → Bool
any_declined [] = false
any_declined (Declined ∷ behind) = true
any_declined (LedTo new ∷ behind) = any_declined behind
any_declined (LedBack new old ∷ behind) = any_declined behind
