-- What a manager answers to a batch, and what it holds where it takes it.
use Rattle.std.specs.Prelude.{◌≡◌, ℕ, ◌≤◌, ◌⊎◌, false, Result, Ok, Err, IsOk, Option, Some, None, List, length}
use Rattle.rule_model.specs.declared.IpVersion.{IpVersion}
use Rattle.rule_store.specs.declared.Command.{Command}
use Rattle.rule_store.specs.Batch.{set_after}
use Rattle.rule_store.specs.Verdict.{verdict}
use Rattle.commit_writes.specs.declared.Done.{Done}
use Rattle.commit_writes.specs.Bits.{bits_with}
use Rattle.readback.specs.declared.Rejection.{Rejection}
use Rattle.readback.specs.Judged.{judgement}
use Rattle.batch_order.specs.declared.Refusal.{Refusal}
use Rattle.batch_order.specs.declared.Refusal.TheVariants as refusal
use Rattle.batch_order.specs.Managed.{HeldCommit, Holds}
use Rattle.split_device.specs.Flight.{written}
use Rattle.split_writes.specs.declared.SplitDone.{SplitDone}
use Rattle.split_writes.specs.Insertion.{longest_split_insertion, split_insertions, table_parts, IsGreatestSplitSpan}
use Rattle.split_writes.specs.Segment.{IsOfRoutes, IsSplitSegment}
use Rattle.split_writes.specs.UnderWay.{IsUnderWay}
use Rattle.split_order.specs.Managed.{SplitManaged}
use Rattle.split_order.specs.Left.{left_of, since_of, state_on}

-- by the judgement an accepted batch may want memory, and nothing else
abbrev pub AnswersSplit : Result (Unit {0}) Rejection → Result SplitDone Refusal → Type 0
AnswersSplit (Ok done) result = IsOk result ⊎ (result ≡ Err refusal.Memory)
AnswersSplit (Err rejection) result = result ≡ Err (refusal.Rejected rejection)

-- busy where a commit is under way, with the parts that are left on a device of so many slots, and else by the verdict
abbrev pub JudgesSplit : ℕ → SplitManaged → Option HeldCommit → List Command → Result SplitDone Refusal → Type 0
JudgesSplit slots manager (Some held) batch result = result ≡ Err (refusal.Busy (length (written (left_of slots manager))))
JudgesSplit slots manager None batch result =
    AnswersSplit (judgement (verdict manager.whole.slots manager.whole.mode manager.whole.rules batch)) result

-- A batch is taken: on a device with the slots in use or more what is left is a segment by parts, of routes uncrossed, with so
-- many parts, so many words of the tables among them, so many parts of its longest insertion, and this greatest crossing span
-- of one. It is under way from there on: each look-up, of one event or three, gets the old or the new answer.
pub record HoldsOn (slots : ℕ) (old : SplitManaged) (batch : List Command) (counts : SplitDone) (new : SplitManaged) : Type 0 where
  pub segment : IsSplitSegment old.whole.mode old.whole.bits old.whole.rules batch (state_on slots old) (since_of old) (left_of slots new)
  pub routes : (version : IpVersion) → IsOfRoutes version old.whole.rules batch (state_on slots old) (left_of slots new)
  pub writes : counts.writes ≡ length (written (left_of slots new))
  pub words : counts.words ≡ table_parts (written (left_of slots new))
  pub most : counts.most ≡ longest_split_insertion (state_on slots old) (written (left_of slots new))
  pub span : IsGreatestSplitSpan (split_insertions (state_on slots old) (written (left_of slots new))) counts.span
  pub under_way : IsUnderWay old.whole.rules (set_after old.whole.rules batch) old.whole.bits
      (bits_with old.whole.mode old.whole.rules batch old.whole.bits) (state_on slots old) (since_of old) (left_of slots new)

pub record HoldsSplit (old : SplitManaged) (batch : List Command) (counts : SplitDone) (new : SplitManaged) : Type 0 where
  pub on : (slots : ℕ) → old.whole.slots ≤ slots → HoldsOn slots old batch counts new
  pub events : new.events ≡ old.events
  pub made : new.made ≡ 0
  pub begun : new.begun ≡ false
  pub counts_are : new.counts ≡ counts
  -- the planner holds the undivided writes, with their numbers
  pub whole : (done : Done) × Holds old.whole batch done new.whole
