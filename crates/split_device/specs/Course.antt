-- Commits one after the other, and which of their sets the look-ups are answered by that are read meanwhile.
use Rattle.std.specs.Prelude.{◌≡◌, List, [], ◌∷◌, Contains}
use Rattle.std.specs.List.{AllByRecursion}
use Rattle.rule_model.specs.declared.Rule.{Rule}
use Rattle.rule_model.specs.Key.{IsKey}
use Rattle.split_device.specs.State.{SplitState, split_lookup}
use Rattle.split_device.specs.Flight.{Event, Pipeline, Answered, after_events, reads}
use Rattle.split_device.specs.Drains.{SinceDrain, MayAllHappen, since_events}
use Rattle.split_device.specs.Hitless.{HoldsOfStates, ShowsEither, IsOldOrNew}

-- A commit: the old set, the new one, and what happens to the device from its beginning to the next one's.
pub record Commit : Type 0 where
  pub old : List Rule
  pub new : List Rule
  pub events : List Event

-- the state shows each key the answer of the old set of one of these commits, or that of its new one
abbrev pub ShowsOneOf : List Commit → SplitState → Type 0
ShowsOneOf commits state = (commit : Commit) × Contains commits commit × ShowsEither commit.old commit.new state

-- Commits one after the other: each event may happen when it does, and before and after it the state shows each key the old
-- or the new answer of its commit.
abbrev pub ComeInTurn : Pipeline → SinceDrain → List Commit → Type 0
ComeInTurn line since [] = Unit {0}
ComeInTurn line since (commit ∷ commits) =
    MayAllHappen line since commit.events × HoldsOfStates (ShowsEither commit.old commit.new) line commit.events
    × ComeInTurn (after_events line commit.events) (since_events since commit.events) commits

-- The look-up is one of a moment, and old or new by a commit of that moment, one of these: an undivided look-up of its key
-- would have answered so then, and the state showed the commit's old or new answers.
pub record IsByACommit (commits : List Commit) (read : Answered) : Type 0 where
  pub moment : SplitState
  pub member : Contains read.moments moment
  pub answers : split_lookup moment read.key ≡ read.answer
  pub commit : Commit
  pub known : Contains commits commit
  pub shows : ShowsEither commit.old commit.new moment
  pub old_or_new : IsKey read.key → IsOldOrNew commit.old commit.new read

-- Each look-up that is read in the course of some commits is so by the one that it is read in or one before it, the last first:
-- never by one that comes later.
abbrev pub AreReadByCommits : List Commit → Pipeline → List Commit → Type 0
AreReadByCommits past line [] = Unit {0}
AreReadByCommits past line (commit ∷ commits) =
    AllByRecursion (IsByACommit (commit ∷ past)) (reads line commit.events)
    × AreReadByCommits (commit ∷ past) (after_events line commit.events) commits
