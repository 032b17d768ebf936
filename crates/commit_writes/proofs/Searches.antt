-- Each search answers what an undivided look-up of its key would answer at that moment, and the words in flight stay current.
use Rattle.std.proofs.Common.{◌≡◌, List, [], ◌∷◌, refl, sym, subst}
use Rattle.slot_order.proofs.Lists.{all_append}
use Rattle.tcam_device.specs.State.{State, state_after}
use Rattle.commit_writes.specs.Bits.{FieldBits}
use Rattle.tcam_device.specs.declared.Action.{Action}
use Rattle.tcam_device.specs.declared.Action.TheVariants.{Written, Drained}
use Rattle.tcam_device.specs.Flight.{Event, Acted, Translated, Searched, Pipeline, actions_in, writes_in, searched_by, happens}
use Rattle.commit_writes.specs.InFlight.{AreCurrent, ServesLive, ServingTo, IsLookUp, AnswerAsLookUps, StayCurrent, after_events}
use Rattle.commit_writes.proofs.Current.{searched_answers, are_current_part, are_current_less, are_current_more}

-- the device serves the ranges now
pub serves_now : (bits last : FieldBits) (state : State) (actions : List Action) → ServingTo bits state actions last → ServesLive bits state
serves_now bits last state [] serving = serving.0
serves_now bits last state (Written write ∷ actions) serving = serving.0
serves_now bits last state (Drained ∷ actions) serving = serving.0

pub answer_as_look_ups : AnswerAsLookUps
answer_as_look_ups bits last line [] serving current may = tt
answer_as_look_ups bits last line (Acted (Written write) ∷ events) serving current may =
    let next = serving.1 in
    answer_as_look_ups next.0 last _ events next.2 (are_current_part next.0 bits line.flight next.1 current) may.1
answer_as_look_ups bits last line (Acted Drained ∷ events) serving current may =
    let next = serving.1 in
    answer_as_look_ups next.0 last line events next.1 (subst (AreCurrent next.0) (sym may.0) tt) may.1
answer_as_look_ups bits last line (Translated key ∷ events) serving current may =
    answer_as_look_ups bits last _ events serving (are_current_more bits line.state key line.flight (serves_now bits last line.state (actions_in events) serving) may.0.0 current) may.1
answer_as_look_ups bits last line (Searched ∷ events) serving current may =
    let serves = serves_now bits last line.state (actions_in events) serving in
    all_append IsLookUp (searched_by line.state line.flight) _ (searched_answers bits line.state line.flight serves current)
    (answer_as_look_ups bits last _ events serving (are_current_less bits line.flight current) may.1)

pub stay_current : StayCurrent
stay_current bits last line [] serving current may = are_current_part last bits line.flight serving.1 current
stay_current bits last line (Acted (Written write) ∷ events) serving current may =
    let next = serving.1 in
    stay_current next.0 last _ events next.2 (are_current_part next.0 bits line.flight next.1 current) may.1
stay_current bits last line (Acted Drained ∷ events) serving current may =
    let next = serving.1 in
    stay_current next.0 last line events next.1 (subst (AreCurrent next.0) (sym may.0) tt) may.1
stay_current bits last line (Translated key ∷ events) serving current may =
    stay_current bits last _ events serving (are_current_more bits line.state key line.flight (serves_now bits last line.state (actions_in events) serving) may.0.0 current) may.1
stay_current bits last line (Searched ∷ events) serving current may =
    stay_current bits last _ events serving (are_current_less bits line.flight current) may.1

-- what some events leave in the slots and tables is what their writes leave
pub state_after-events : (line : Pipeline) (events : List Event) → (after_events line events).state ≡ state_after line.state (writes_in (actions_in events))
state_after-events line [] = refl
state_after-events line (Acted (Written write) ∷ events) = state_after-events (happens line (Acted (Written write))) events
state_after-events line (Acted Drained ∷ events) = state_after-events line events
state_after-events line (Translated key ∷ events) = state_after-events (happens line (Translated key)) events
state_after-events line (Searched ∷ events) = state_after-events (happens line Searched) events
