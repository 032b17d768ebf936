-- What an accepted commit makes of a device whose results stand beside the slots.
use Rattle.std.specs.Prelude.{◌≡◌, ℕ, List, take, ◌++◌}
use Rattle.std.specs.List.{AllByRecursion, AllZip}
use Rattle.rule_model.specs.declared.Rule.{Rule}
use Rattle.rule_model.specs.RuleSet.{BoundsChains}
use Rattle.rule_model.specs.declared.IpVersion.{IpVersion}
use Rattle.rule_model.specs.declared.IpVersion.TheVariants.{V4, V6}
use Rattle.rule_store.specs.declared.Mode.{Mode}
use Rattle.rule_store.specs.declared.Command.{Command}
use Rattle.rule_store.specs.Batch.{additions, set_after}
use Rattle.tcam_device.specs.declared.Write.{Write}
use Rattle.tcam_device.specs.State.{Shows, state_after}
use Rattle.tcam_device.specs.Hitless.{ShowsOldOrNew}
use Rattle.tcam_device.specs.Insertion.{insertions}
use Rattle.commit_writes.specs.Actions.{commit_actions}
use Rattle.commit_writes.specs.Bits.{FieldBits}
use Rattle.commit_writes.specs.Commit.{IsSegment}
use Rattle.commit_writes.specs.Routes.{IsRoute}
use Rattle.split_device.specs.declared.SplitWrite.{SplitWrite}
use Rattle.split_device.specs.State.{SplitState, undivided, split_after}
use Rattle.split_device.specs.declared.SplitAction.{SplitAction}
use Rattle.split_device.specs.Flight.{written}
use Rattle.split_device.specs.Drains.{SinceDrain, AreTimely}
use Rattle.split_writes.specs.Parts.{made_of}
use Rattle.split_writes.specs.Insertion.{split_insertions, TakesThreeEach, IsWithinSplitBound, IsSplitUncrossed}

-- on the way from one set to another: the old set before, and after each write an undivided look-up of any key gets the
-- old or the new answer
pub record KeepsSplitOldOrNew (old new : List Rule) (state : SplitState) (writes : List SplitWrite) : Type 0 where
  pub before : Shows (undivided state) old
  pub during : (n : ℕ) → ShowsOldOrNew (undivided (split_after state (take n writes))) old new

-- A hitless update by parts: and after the last of them the device shows the new set.
pub record IsSplitHitless (old new : List Rule) (state : SplitState) (writes : List SplitWrite) : Type 0 where
  pub on_the_way : KeepsSplitOldOrNew old new state writes
  pub after : Shows (undivided (split_after state writes)) new

-- What an accepted commit makes: the parts of a segment of undivided writes, which lead where these lead, hitless after
-- each part, each part in its time; each insertion takes three parts for each entry that it puts, but one, and is within the
-- bound.
pub record IsSplitSegment (mode : Mode) (bits : FieldBits) (rules : List Rule) (batch : List Command) (state : SplitState) (since : SinceDrain) (made : List SplitAction) : Type 0 where
  pub writes : List Write
  pub undivided_segment : IsSegment mode bits rules batch (undivided state) writes
  pub made_is : made ≡ made_of state since (commit_actions mode bits rules batch writes)
  pub leads : undivided (split_after state (written made)) ≡ state_after (undivided state) writes
  pub hitless : IsSplitHitless rules (set_after rules batch) state (written made)
  pub timely : AreTimely state since made
  pub exact : AllZip TakesThreeEach (insertions (undivided state) writes) (split_insertions state (written made))
  pub bound : (chain : ℕ) → BoundsChains (rules ++ additions batch) chain → IsWithinSplitBound chain (split_insertions state (written made))

-- how many writes an insertion of a route takes at most: 2 and 3 for each shorter prefix that it may have
abbrev pub most_by_parts : IpVersion → ℕ
most_by_parts V4 = 98
most_by_parts V6 = 386

-- of routes no insertion crosses others, and none takes more writes than that
abbrev pub IsOfRoutes : IpVersion → List Rule → List Command → SplitState → List SplitAction → Type 0
IsOfRoutes version rules batch state made =
    AllByRecursion (IsRoute version) rules → AllByRecursion (IsRoute version) (additions batch)
    → IsSplitUncrossed (most_by_parts version) (split_insertions state (written made))
