-- What holds of every device whose results stand beside its slots.
use Rattle.std.specs.Prelude.{◌≡◌, IsFalse, List}
use Rattle.std.specs.List.{AllByRecursion}
use Rattle.rule_model.specs.declared.Key.{Key}
use Rattle.tcam_device.specs.State.{lookup}
use Rattle.split_device.specs.declared.SplitWrite.{SplitWrite}
use Rattle.split_device.specs.State.{SplitState, undivided, split_lookup, split_apply}
use Rattle.split_device.specs.Flight.{Event, Pipeline, happens, after_events, reads, read_looks, IsOfAMoment, flight_of, flight_after, oldest_read, first_answer}
use Rattle.split_device.specs.Drains.{SinceDrain, MayAllHappen, is_drain_due, since_events, since_write}
use Rattle.split_device.specs.Waiting.{AreWaiting}
use Rattle.split_device.specs.Hitless.{HoldsOfMoments}
use Rattle.split_device.specs.Course.{Commit, ShowsOneOf, ComeInTurn, AreReadByCommits}

-- Whatever stands between: where each write stands in its time, each drain where nothing is in flight and each search is of a
-- current word, each read is of a moment between its search and its read. The look-ups that wait then are as those that waited
-- before, so it goes on with more events, over any number of commits.
abbrev pub ReadsAreOfAMoment : Type 0
ReadsAreOfAMoment =
    (line : Pipeline) (since : SinceDrain) (events : List Event) → AreWaiting line.state since line.looks → MayAllHappen line since events
    → AllByRecursion IsOfAMoment (reads line events)
    × AreWaiting (after_events line events).state (since_events since events) (after_events line events).looks

-- In the course of commits one after the other each read is of a moment between its search and its read, and old or new by the
-- commit of that moment: one between the commit that it is searched in and the one that it is read in. The moments of
-- look-ups that wait at the beginning are of some commits before: of none where no look-up waits then.
abbrev pub ReadsAreByCommits : Type 0
ReadsAreByCommits =
    (past : List Commit) (line : Pipeline) (since : SinceDrain) (commits : List Commit)
    → AreWaiting line.state since line.looks → HoldsOfMoments (ShowsOneOf past) line.looks → ComeInTurn line since commits
    → AreReadByCommits past line commits

-- What a device has in flight is what its pipeline has, after each event, and its read answers as the pipeline's.
abbrev pub DevicesArePipelines : Type 0
DevicesArePipelines =
    (line : Pipeline) (event : Event) → (flight_of (happens line event) ≡ flight_after line.state (flight_of line) event)
    × (oldest_read line.state (flight_of line).found ≡ first_answer (read_looks line.state line.looks))

-- An undivided look-up answers as one of a device that keeps a slot and its result word in one.
abbrev pub AnswersAsUndivided : Type 0
AnswersAsUndivided = (state : SplitState) (key : Key) → split_lookup state key ≡ lookup (undivided state) key

-- A write that is made twice, one right after the other, leaves what it leaves once.
abbrev pub TwiceAsOnce : Type 0
TwiceAsOnce = (state : SplitState) (write : SplitWrite) → split_apply (split_apply state write) write ≡ split_apply state write

-- A write that stands in its time stands in it a second time too, right after the first, and what is due behind both is due
-- behind one.
abbrev pub TwiceInTime : Type 0
TwiceInTime =
    (state : SplitState) (since : SinceDrain) (write : SplitWrite) → IsFalse (is_drain_due state since write)
    → IsFalse (is_drain_due (split_apply state write) (since_write since write) write)
    × ((later : SplitWrite) → is_drain_due (split_apply (split_apply state write) write) (since_write (since_write since write) write) later
    ≡ is_drain_due (split_apply state write) (since_write since write) later)
