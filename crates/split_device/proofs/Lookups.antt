-- Look-ups of three events, where a fact holds of every state: each answers as one of its moments, at which the fact holds.
use Rattle.std.proofs.Common.{List, [], ◌∷◌, map, drop, inl, inr, sym, ◌∙◌}
use Rattle.std.specs.List.{AllByRecursion}
use Rattle.slot_order.proofs.Lists.{all_append, AllByRecursion-member}
use Rattle.rule_model.specs.declared.Key.{Key}
use Rattle.rule_model.specs.declared.Rule.{Rule}
use Rattle.rule_model.specs.Key.{IsKey}
use Rattle.rule_model.specs.declared.words.Word.{Word}
use Rattle.split_device.specs.State.{SplitState, split_apply}
use Rattle.split_device.specs.declared.SplitAction.TheVariants.{Written, Drained}
use Rattle.split_device.specs.Flight.{Event, Makes, Translates, Searches, Reads, Look, Pipeline, with_moment, begun_looks, happens, after_events, Answered, read_looks, reads, IsOfAMoment}
use Rattle.split_device.specs.Drains.{SinceDrain, MayAllHappen}
use Rattle.split_device.specs.Waiting.{AreWaiting}
use Rattle.split_device.specs.Hitless.{HoldsOfStates, HoldsOfMoments, IsOfSuchAMoment, ShowsEither, IsOldOrNew}
use Rattle.split_device.proofs.Moments.{each_of_a_moment}
use Rattle.split_device.proofs.Whole.{split_lookup-is}

states_head : (Fact : SplitState → Type 0) (line : Pipeline) (events : List Event) → HoldsOfStates Fact line events → Fact line.state
states_head Fact line [] all = all
states_head Fact line (event ∷ events) all = all.0

more_moments : (Fact : SplitState → Type 0) (state : SplitState) (looks : List Look) → Fact state → HoldsOfMoments Fact looks → HoldsOfMoments Fact (map (with_moment state) looks)
more_moments Fact state [] now all = tt
more_moments Fact state (look ∷ looks) now all = (all_append Fact look.moments (state ∷ []) all.0 (now, tt), more_moments Fact state looks now all.1)

begun_moments : (Fact : SplitState → Type 0) (state : SplitState) (words : List (Key × Word)) → Fact state → HoldsOfMoments Fact (begun_looks state words)
begun_moments Fact state [] now = tt
begun_moments Fact state (oldest ∷ words) now = ((now, tt), tt)

rest_moments : (Fact : SplitState → Type 0) (looks : List Look) → HoldsOfMoments Fact looks → HoldsOfMoments Fact (drop 1 looks)
rest_moments Fact [] all = tt
rest_moments Fact (look ∷ looks) all = all.1

read_moments : (Fact : SplitState → Type 0) (state : SplitState) (looks : List Look) → HoldsOfMoments Fact looks → AllByRecursion (λ read. AllByRecursion Fact read.moments) (read_looks state looks)
read_moments Fact state [] all = tt
read_moments Fact state (look ∷ looks) all = (all.0, tt)

-- an event keeps the fact at the moments of those that wait
event_moments : (Fact : SplitState → Type 0) (line : Pipeline) (event : Event) → HoldsOfMoments Fact line.looks → Fact line.state → Fact (happens line event).state
    → HoldsOfMoments Fact (happens line event).looks
event_moments Fact line (Makes (Written write)) all now then = more_moments Fact (split_apply line.state write) line.looks then all
event_moments Fact line (Makes Drained) all now then = all
event_moments Fact line (Translates key) all now then = all
event_moments Fact line Searches all now then =
    all_append (λ look. AllByRecursion Fact look.moments) line.looks (begun_looks line.state line.words) all (begun_moments Fact line.state line.words now)
event_moments Fact line Reads all now then = rest_moments Fact line.looks all

pub moments_after : (Fact : SplitState → Type 0) (line : Pipeline) (events : List Event) → HoldsOfMoments Fact line.looks → HoldsOfStates Fact line events
    → HoldsOfMoments Fact (after_events line events).looks
moments_after Fact line [] all states = all
moments_after Fact line (event ∷ events) all states =
    moments_after Fact (happens line event) events (event_moments Fact line event all states.0 (states_head Fact (happens line event) events states.1)) states.1

-- the fact holds at each moment of each look-up that is read
all_moments : (Fact : SplitState → Type 0) (line : Pipeline) (events : List Event) → HoldsOfMoments Fact line.looks → HoldsOfStates Fact line events
    → AllByRecursion (λ read. AllByRecursion Fact read.moments) (reads line events)
all_moments Fact line [] all states = tt
all_moments Fact line (Reads ∷ events) all states =
    all_append (λ read. AllByRecursion Fact read.moments) (read_looks line.state line.looks) (reads (happens line Reads) events)
    (read_moments Fact line.state line.looks all) (all_moments Fact (happens line Reads) events (rest_moments Fact line.looks all) states.1)
all_moments Fact line (Makes made ∷ events) all states =
    all_moments Fact (happens line (Makes made)) events
    (event_moments Fact line (Makes made) all states.0 (states_head Fact (happens line (Makes made)) events states.1)) states.1
all_moments Fact line (Translates key ∷ events) all states = all_moments Fact (happens line (Translates key)) events all states.1
all_moments Fact line (Searches ∷ events) all states =
    all_moments Fact (happens line Searches) events
    (event_moments Fact line Searches all states.0 (states_head Fact (happens line Searches) events states.1)) states.1

together : (Fact : SplitState → Type 0) (some : List Answered) → AllByRecursion IsOfAMoment some → AllByRecursion (λ read. AllByRecursion Fact read.moments) some → AllByRecursion (IsOfSuchAMoment Fact) some
together Fact [] answered all = tt
together Fact (read ∷ some) answered all = (
  record {
    moment = answered.0.0;
    member = answered.0.1;
    holds = AllByRecursion-member Fact read.moments answered.0.0 all.0 answered.0.1;
    answers = answered.0.2;
  },
  together Fact some answered.1 all.1,
)

-- Where a fact holds of every state, each look-up is one of a moment at which it holds.
pub each_of_such_a_moment : (Fact : SplitState → Type 0) (line : Pipeline) (since : SinceDrain) (events : List Event)
    → AreWaiting line.state since line.looks → HoldsOfMoments Fact line.looks → MayAllHappen line since events → HoldsOfStates Fact line events
    → AllByRecursion (IsOfSuchAMoment Fact) (reads line events)
each_of_such_a_moment Fact line since events waiting moments may states =
    together Fact (reads line events) (each_of_a_moment line since events waiting may) (all_moments Fact line events moments states)

-- so where every state shows an old or a new set, each gets the old or the new answer
pub old_or_new : (old new : List Rule) (some : List Answered) → AllByRecursion (IsOfSuchAMoment (ShowsEither old new)) some
    → AllByRecursion (λ read. IsKey read.key) some → AllByRecursion (IsOldOrNew old new) some
old_or_new old new [] all keys = tt
old_or_new old new (read ∷ some) all keys = (
  elim (all.0.holds read.key keys.0) [
    | inl is ↦ inl (sym all.0.answers ∙ (split_lookup-is all.0.moment read.key ∙ is))
    | inr is ↦ inr (sym all.0.answers ∙ (split_lookup-is all.0.moment read.key ∙ is))
  ],
  old_or_new old new some all.1 keys.1,
)
