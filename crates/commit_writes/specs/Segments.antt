-- What packets see of a commit whose look-ups are two events, and of one that is taken back.
use Rattle.std.specs.Prelude.{◌≡◌, ℕ, ◌++◌, None, List, [], ◌∷◌, length, Contains}
use Rattle.std.specs.List.{AllByRecursion}
use Rattle.rule_model.specs.declared.Rule.{Rule}
use Rattle.rule_model.specs.Rule.{HasConditions}
use Rattle.rule_model.specs.RuleSet.{IsRuleSet}
use Rattle.rule_store.specs.declared.Mode.{Mode}
use Rattle.rule_store.specs.declared.Command.{Command}
use Rattle.rule_store.specs.Batch.{ChangesRules, batch_fault, set_after}
use Rattle.tcam_device.specs.declared.Write.{Write}
use Rattle.tcam_device.specs.State.{State, IsState, state_after, on_device}
use Rattle.tcam_device.specs.declared.Action.{Action}
use Rattle.tcam_device.specs.declared.Action.TheVariants.{Written, Drained}
use Rattle.tcam_device.specs.Flight.{Event, Flight, Pipeline, MayGo, actions_in, writes_in, searches}
use Rattle.tcam_device.specs.Hitless.{KeepsOldOrNew}
use Rattle.tcam_device.specs.Order.{IsOrdered}
use Rattle.commit_writes.specs.Bits.{FieldBits, bits_with, bits_left}
use Rattle.commit_writes.specs.Serving.{AreBitsOf, HaveFreeBits}
use Rattle.commit_writes.specs.Shape.{set_pieces}
use Rattle.commit_writes.specs.Commit.{IsSegment}
use Rattle.commit_writes.specs.InFlight.{AreCurrent, LeadsTo, IsLookUp, IsOldOrNew, after_events}
use Rattle.commit_writes.specs.Actions.{commit_actions, IsReturn}

-- Between commits: the device has the pieces of the set in order, and its tables serve the live ranges, which are the
-- set's.
pub record IsAtRest (mode : Mode) (bits : FieldBits) (rules : List Rule) (state : State) : Type 0 where
  pub is_set : IsRuleSet rules
  pub right : AllByRecursion HasConditions rules
  pub is_state : IsState (length state.slots) state
  pub bits_are : AreBitsOf mode bits rules state
  pub ordered : IsOrdered state (Contains (set_pieces mode bits rules))

-- a commit may begin then, of a sound batch whose new ranges fit the free bits
pub record MayBegin (mode : Mode) (bits : FieldBits) (rules : List Rule) (batch : List Command) (state : State) : Type 0 where
  pub at_rest : IsAtRest mode bits rules state
  pub changes : AllByRecursion ChangesRules batch
  pub sound : batch_fault rules batch ≡ None
  pub few : HaveFreeBits mode rules batch

-- these actions are the first of others
abbrev pub IsFrontOf : List Action → List Action → Type 0
IsFrontOf front actions = (back : List Action) × (actions ≡ front ++ back)

-- the ranges that are live behind the first actions of a commit: those before it, and from its drain on those meanwhile
abbrev pub live_behind : FieldBits → FieldBits → List Action → FieldBits
live_behind before meanwhile [] = before
live_behind before meanwhile (Written write ∷ actions) = live_behind before meanwhile actions
live_behind before meanwhile (Drained ∷ actions) = meanwhile

-- The writes and the drain of a commit, all of them or the first, serve the live ranges before it, and from the drain on
-- those that are live meanwhile. Behind all of them these are served also where nothing is drained.
abbrev pub CommitsServe : Type 0
CommitsServe =
    (mode : Mode) (bits : FieldBits) (rules : List Rule) (batch : List Command) (state : State) (made : List Write)
    → MayBegin mode bits rules batch state → IsSegment mode bits rules batch state made
    → ((front : List Action) → IsFrontOf front (commit_actions mode bits rules batch made)
    → LeadsTo bits state front (live_behind bits (bits_with mode rules batch bits) front))
    × LeadsTo bits state (commit_actions mode bits rules batch made) (bits_with mode rules batch bits)

-- Those of a return serve the ranges before the commit in the end, so that it may begin anew.
abbrev pub ReturnsServe : Type 0
ReturnsServe =
    (mode : Mode) (bits : FieldBits) (rules : List Rule) (batch : List Command) (state : State) (actions : List Action)
    → MayBegin mode bits rules batch state → IsReturn mode bits rules batch state actions → LeadsTo bits state actions bits

-- After the last write of a commit the next one may begin, with the bits that are left. For these the words that are in
-- flight then are current, whatever was translated and searched meanwhile.
abbrev pub CommitsComeToRest : Type 0
CommitsComeToRest =
    (mode : Mode) (bits : FieldBits) (rules : List Rule) (batch : List Command) (line : Pipeline) (made : List Write)
    → MayBegin mode bits rules batch line.state → IsSegment mode bits rules batch line.state made
    → IsAtRest mode (bits_left (set_after rules batch) (bits_with mode rules batch bits)) (set_after rules batch) (state_after line.state made)
    × ((flight : Flight) → AreCurrent (bits_with mode rules batch bits) flight
    → AreCurrent (bits_left (set_after rules batch) (bits_with mode rules batch bits)) flight)
    × ((events : List Event) → actions_in events ≡ commit_actions mode bits rules batch made → AreCurrent bits line.flight → MayGo line events
    → ((after_events line events).state ≡ state_after line.state made)
    × AreCurrent (bits_left (set_after rules batch) (bits_with mode rules batch bits)) (after_events line events).flight)

-- On a device with more slots a set is at rest too.
abbrev pub RestsOnWiderDevices : Type 0
RestsOnWiderDevices =
    (mode : Mode) (bits : FieldBits) (rules : List Rule) (state : State) (device_slots : ℕ)
    → IsAtRest mode bits rules state → IsAtRest mode bits rules (on_device device_slots state)

-- A commit as packets see it whose look-ups are two events: while its writes and its drain are made in their order, all of
-- them or the first, each search answers what an undivided look-up of its key would answer in the state at that moment, and
-- that is the old or the new set's answer. Translations and searches stand anywhere between.
abbrev pub SeesOldOrNew : Type 0
SeesOldOrNew =
    (mode : Mode) (bits : FieldBits) (rules : List Rule) (batch : List Command) (line : Pipeline) (made : List Write) (events : List Event)
    → MayBegin mode bits rules batch line.state → IsSegment mode bits rules batch line.state made
    → IsFrontOf (actions_in events) (commit_actions mode bits rules batch made) → AreCurrent bits line.flight → MayGo line events
    → AllByRecursion IsLookUp (searches line events) × AllByRecursion (IsOldOrNew rules (set_after rules batch)) (searches line events)

-- The same while a commit is taken back.
abbrev pub SeesOldOrNewBack : Type 0
SeesOldOrNewBack =
    (mode : Mode) (bits : FieldBits) (rules : List Rule) (batch : List Command) (line : Pipeline) (actions : List Action) (events : List Event)
    → MayBegin mode bits rules batch line.state → IsReturn mode bits rules batch line.state actions
    → IsFrontOf (actions_in events) actions → AreCurrent bits line.flight → MayGo line events
    → AllByRecursion IsLookUp (searches line events) × AllByRecursion (IsOldOrNew rules (set_after rules batch)) (searches line events)

-- Look-ups that are undivided see no other answer either while a commit is taken back, and the old set's in the end.
abbrev pub ReturnsAreHitless : Type 0
ReturnsAreHitless =
    (mode : Mode) (bits : FieldBits) (rules : List Rule) (batch : List Command) (state : State) (actions : List Action)
    → IsReturn mode bits rules batch state actions
    → KeepsOldOrNew rules (set_after rules batch) state (writes_in actions) × (state_after state (writes_in actions) ≡ state)
