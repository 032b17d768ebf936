-- Each look-up that is read in the course of some commits is old or new by the commit of one of its moments.
use Rattle.std.proofs.Common.{List, [], ◌∷◌, inl, inr, sym, ◌∙◌}
use Rattle.std.specs.List.{AllByRecursion}
use Rattle.slot_order.proofs.Lists.{contains_head, contains_tail}
use Rattle.split_device.specs.State.{SplitState}
use Rattle.split_device.specs.Flight.{Event, Look, Pipeline, Answered, after_events, reads, happens}
use Rattle.split_device.specs.Drains.{since_events}
use Rattle.split_device.specs.Hitless.{HoldsOfStates, HoldsOfMoments, IsOfSuchAMoment, ShowsEither}
use Rattle.split_device.specs.Course.{Commit, ShowsOneOf, IsByACommit}
use Rattle.split_device.specs.Laws.{ReadsAreByCommits}
use Rattle.split_device.proofs.Lookups.{each_of_such_a_moment, moments_after}
use Rattle.split_device.proofs.Moments.{all_waiting}
use Rattle.split_device.proofs.Whole.{split_lookup-is}

-- what shows one of some commits shows one of more
more_shown : (commit : Commit) (past : List Commit) (moments : List SplitState) → AllByRecursion (ShowsOneOf past) moments → AllByRecursion (ShowsOneOf (commit ∷ past)) moments
more_shown commit past [] all = tt
more_shown commit past (moment ∷ moments) all =
    ((all.0.0, contains_tail commit all.0.0 past all.0.1, all.0.2), more_shown commit past moments all.1)

more_looks : (commit : Commit) (past : List Commit) (looks : List Look) → HoldsOfMoments (ShowsOneOf past) looks → HoldsOfMoments (ShowsOneOf (commit ∷ past)) looks
more_looks commit past [] all = tt
more_looks commit past (look ∷ looks) all = (more_shown commit past look.moments all.0, more_looks commit past looks all.1)

-- and the states of a commit show it
states_shown : (commit : Commit) (past : List Commit) (line : Pipeline) (events : List Event) → HoldsOfStates (ShowsEither commit.old commit.new) line events
    → HoldsOfStates (ShowsOneOf (commit ∷ past)) line events
states_shown commit past line [] now = (commit, contains_head commit past, now)
states_shown commit past line (event ∷ events) states = ((commit, contains_head commit past, states.0), states_shown commit past (happens line event) events states.1)

-- a look-up of a moment that shows a commit is old or new by it
by_commits : (commits : List Commit) (some : List Answered) → AllByRecursion (IsOfSuchAMoment (ShowsOneOf commits)) some → AllByRecursion (IsByACommit commits) some
by_commits commits [] all = tt
by_commits commits (read ∷ some) all = (
  record {
    moment = all.0.moment;
    member = all.0.member;
    answers = all.0.answers;
    commit = all.0.holds.0;
    known = all.0.holds.1;
    shows = all.0.holds.2;
    old_or_new = λ key. elim (all.0.holds.2 read.key key) [
      | inl is ↦ inl (sym all.0.answers ∙ (split_lookup-is all.0.moment read.key ∙ is))
      | inr is ↦ inr (sym all.0.answers ∙ (split_lookup-is all.0.moment read.key ∙ is))
    ];
  },
  by_commits commits some all.1,
)

pub reads_are_by_commits : ReadsAreByCommits
reads_are_by_commits past line since [] waiting moments turn = tt
reads_are_by_commits past line since (commit ∷ commits) waiting moments turn =
    let looks = more_looks commit past line.looks moments in
    let states = states_shown commit past line commit.events turn.1 in (
      by_commits (commit ∷ past) (reads line commit.events)
          (each_of_such_a_moment (ShowsOneOf (commit ∷ past)) line since commit.events waiting looks turn.0 states),
      reads_are_by_commits (commit ∷ past) (after_events line commit.events) (since_events since commit.events) commits
          (all_waiting line since commit.events waiting turn.0) (moments_after (ShowsOneOf (commit ∷ past)) line commit.events looks states) turn.2,
    )
