-- What follows of a manager from what its calls say of it, and what they leave.
use Rattle.std.proofs.Common.{◌≡◌, ℕ, ◌≤◌, List, [], ◌++◌, length, Option, Some, None, refl, sym, ap, subst, ◌∙◌, append-nil, arith}
use Rattle.tcam_device.specs.declared.Action.{Action}
use Rattle.tcam_device.specs.Flight.{writes_in}
use Rattle.tcam_device.specs.View.{DeviceView, HasMade}
use Rattle.rule_store.specs.declared.Command.{Command}
use Rattle.commit_writes.specs.declared.Done.{Done}
use Rattle.commit_writes.proofs.WritesIn.{writes_in-append}
use Rattle.batch_order.specs.declared.Step.{Step}
use Rattle.batch_order.specs.Managed.{Managed, HeldCommit, Holds, room_both_ways}
use Rattle.batch_order.specs.Steps.{Steps, actions_of}
use Rattle.batch_order.specs.CarriedOut.{GoesForward, HasRoomBothWays, HasRoomLeft, actions_left, finished_of}
use Rattle.batch_order.specs.Laws.{CarryingEnds, CarryingTakesRules, StepLeaves, StepsLeave, TurnsLeave, WaysBackGoBack}
use Rattle.batch_order.proofs.back.Aborted.{enough_left, keeps_on}
use Rattle.batch_order.proofs.back.Passed.{goes_back}
use Rattle.batch_order.proofs.under_way.Stepped.{both_after, forward_after, room_after, same_slots}

pub ways_back_go_back : WaysBackGoBack
ways_back_go_back begun manager way = goes_back begun manager way

pub steps_leave : StepsLeave
steps_leave old words made new spare spare' steps used = record {
  slots = same_slots old words old.held made new steps;
  forward = λ forward. forward_after old words old.held made new refl steps forward;
  room = λ room. room_after old words old.held made new spare spare' refl steps room used;
  both_ways = λ room. both_after old words old.held made new spare spare' refl steps room used;
}

-- a step over a device
pub step_leaves : (old new : Managed) (words : ℕ) (made : Step) (before after : DeviceView) → Steps old words old.held made new → HasMade (actions_of made) before after
    → StepLeaves old new before.spare after.spare
step_leaves old new words made before after steps did = steps_leave old words made new before.spare after.spare steps did.spare

pub turns_leave : TurnsLeave
turns_leave old new result did =
    let kept = keeps_on old new result did in
    record { state = kept.state; slots = kept.slots; room = kept.room; both_ways = kept.both }

-- more room is room
more_left : (held : Option HeldCommit) (spare spare' : ℕ) → spare ≤ spare' → HasRoomLeft held spare → HasRoomLeft held spare'
more_left None spare spare' least room = tt
more_left (Some one) spare spare' least room = let enough : length one.actions ≤ spare = room in let needed : length one.actions ≤ spare' = omega arith in needed

more_both : (held : Option HeldCommit) (spare spare' : ℕ) → spare ≤ spare' → HasRoomBothWays held spare → HasRoomBothWays held spare'
more_both None spare spare' least room = tt
more_both (Some one) spare spare' least room =
    let enough : room_both_ways one ≤ spare = room in let needed : room_both_ways one ≤ spare' = omega arith in needed

-- and who has room both ways has it one way
pub one_way : (held : Option HeldCommit) (spare : ℕ) → HasRoomBothWays held spare → HasRoomLeft held spare
one_way None spare room = tt
one_way (Some one) spare room =
    let less = enough_left one in let enough : room_both_ways one ≤ spare = room in let needed : length one.actions ≤ spare = omega arith in needed

-- where nothing was done, and no room went
pub same_leaves : (old new : Managed) (spare spare' : ℕ) → new ≡ old → spare ≤ spare' → StepLeaves old new spare spare'
same_leaves old new spare spare' same least = record {
  slots = ap (λ (m : Managed). m.slots) same;
  forward = λ forward. subst (λ (m : Managed). GoesForward m.held) (sym same) forward;
  room = λ room. subst (λ (m : Managed). HasRoomLeft m.held spare') (sym same) (more_left old.held spare spare' least room);
  both_ways = λ room. subst (λ (m : Managed). HasRoomBothWays m.held spare') (sym same) (more_both old.held spare spare' least room);
}

-- one call after the other
pub leaves_more : (old now new : Managed) (first second third : ℕ) → StepLeaves old now first second → StepLeaves now new second third
    → StepLeaves old new first third
leaves_more old now new first second third before after = record {
  slots = after.slots ∙ before.slots;
  forward = λ forward. after.forward (before.forward forward);
  room = λ room. after.room (before.room room);
  both_ways = λ room. after.both_ways (before.both_ways room);
}

-- a commit that was taken goes forward, with its room both ways
pub taking_leaves : (old new : Managed) (batch : List Command) (counts : Done) (spare spare' : ℕ) → Holds old batch counts new → HasRoomBothWays new.held spare'
    → StepLeaves old new spare spare'
taking_leaves old new batch counts spare spare' ready reserved = record {
  slots = ap (λ (m : Managed). m.slots) ready.new_is;
  forward = λ was. subst (λ (m : Managed). GoesForward m.held) (sym ready.new_is) refl;
  room = λ was. one_way new.held spare' reserved;
  both_ways = λ was. reserved;
}

pub carrying_takes_rules : CarryingTakesRules
carrying_takes_rules was old new batch counts holds done =
    ap (λ (m : Managed). m.rules) done ∙ ap (λ (m : Managed). (finished_of m.held m).rules) holds.new_is

pub carrying_ends : CarryingEnds
carrying_ends old new before after carried none =
    let left : actions_left new ≡ [] = ap actions_left none in
    let events : after.events ≡ before.events ++ actions_left old =
    sym (append-nil after.events) ∙ ap (λ (xs : List Action). after.events ++ xs) (sym left) ∙ carried.events in
    let size : length (actions_left new) ≡ 0 = ap length left in
    let spent = carried.spare in
    record {
      events = events;
      journal = ap writes_in events ∙ writes_in-append before.events (actions_left old);
      spare = omega arith;
    }
