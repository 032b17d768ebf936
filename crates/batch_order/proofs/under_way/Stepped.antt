-- What a step did, case by case, and what it leaves of slots, state and room.
use Rattle.std.proofs.Common.{◌≡◌, ℕ, zero, suc, ◌+◌, ◌≤◌, List, [], ◌∷◌, length, Option, Some, None, refl, sym, ap, subst, ◌∙◌, arith}
use Rattle.tcam_device.specs.declared.Write.{Write}
use Rattle.tcam_device.specs.declared.Action.{Action}
use Rattle.tcam_device.specs.declared.Action.TheVariants.{Written, Drained}
use Rattle.tcam_device.specs.State.{State, apply}
use Rattle.tcam_device.specs.Insertion.{is_table_write}
use Rattle.batch_order.specs.declared.Step.{Step}
use Rattle.batch_order.specs.declared.Step.TheVariants as step
use Rattle.batch_order.specs.Managed.{Managed, HeldCommit, Way, room_by_way, room_both_ways}
use Rattle.batch_order.specs.Managed.Way.{On, Back}
use Rattle.batch_order.specs.Steps.{Steps, StepsOn, actions_of, current_by, due_write, end_answer, is_back, left_by, next_of, way_by}
use Rattle.batch_order.specs.CarriedOut.{GoesForward, HasRoomBothWays, HasRoomLeft}

-- the manager with a commit under way after a write,
abbrev pub written_on : Managed → HeldCommit → Write → List Action → Managed
written_on old held write actions =
    record old {
      state = apply old.state write;
      held = Some (record held { actions = actions; way = way_by old.state write held.way; current = current_by old.bits held.current (is_table_write write) });
    }

-- and after its drain
abbrev pub drained_on : Managed → HeldCommit → List Action → Managed
drained_on old held actions = record old { held = Some (record held { actions = actions; current = held.during }) }

-- a step of a commit under way
pub data HasStepped (old : Managed) (words : ℕ) (held : HeldCommit) (made : Step) (new : Managed) : Type 0 where
  End : held.actions ≡ [] → made ≡ end_answer held.way held.counts → new ≡ left_by old held held.way → HasStepped old words held made new
  Wrote : (write : Write) → (actions : List Action) → held.actions ≡ Written write ∷ actions → made ≡ step.Wrote write → new ≡ written_on old held write actions → HasStepped old words held made new
  Drain : (actions : List Action) → held.actions ≡ Drained ∷ actions → made ≡ step.Drained → new ≡ drained_on old held actions → HasStepped old words held made new
  Wait : (actions : List Action) → (more : ℕ) → held.actions ≡ Drained ∷ actions → words ≡ suc more → made ≡ step.Waiting (suc more) → new ≡ old → HasStepped old words held made new

pub stepped : (old : Managed) (words : ℕ) (held : HeldCommit) (made : Step) (new : Managed) → Steps old words (Some held) made new → HasStepped old words held made new
stepped old words held made new steps = go words refl held.actions refl steps
  where
    go : (flying : ℕ) → words ≡ flying → (actions : List Action) → held.actions ≡ actions → StepsOn old held flying actions made new → HasStepped old words held made new
    go flying same [] is did = End is did.0 did.1
    go flying same (Written write ∷ actions) is did = Wrote write actions is did.0 did.1
    go zero same (Drained ∷ actions) is did = Drain actions is did.0 did.1
    go (suc more) same (Drained ∷ actions) is did = Wait actions more is same did.0 did.1

-- what its end leaves
pub left_slots : (old : Managed) (held : HeldCommit) (one : Way) → (left_by old held one).slots ≡ old.slots
left_slots old held (On undo) = refl
left_slots old held (Back undone) = refl

pub left_state : (old : Managed) (held : HeldCommit) (one : Way) → (left_by old held one).state ≡ old.state
left_state old held (On undo) = refl
left_state old held (Back undone) = refl

pub left_held : (old : Managed) (held : HeldCommit) (one : Way) → (left_by old held one).held ≡ None
left_held old held (On undo) = refl
left_held old held (Back undone) = refl

pub no_actions : (one : Way) (held : HeldCommit) → actions_of (end_answer one held.counts) ≡ []
no_actions (On undo) held = refl
no_actions (Back undone) held = refl

-- no step changes how many slots are in use
pub same_slots : (old : Managed) (words : ℕ) (held : Option HeldCommit) (made : Step) (new : Managed) → Steps old words held made new → new.slots ≡ old.slots
same_slots old words None made new steps = ap (λ (m : Managed). m.slots) steps.1
same_slots old words (Some held) made new steps = go (stepped old words held made new steps)
  where
    go : HasStepped old words held made new → new.slots ≡ old.slots
    go (End actions did is) = ap (λ (m : Managed). m.slots) is ∙ left_slots old held held.way
    go (Wrote write actions rest did is) = ap (λ (m : Managed). m.slots) is
    go (Drain actions rest did is) = ap (λ (m : Managed). m.slots) is
    go (Wait actions more rest flying did is) = ap (λ (m : Managed). m.slots) is

-- a step that makes the next write leaves its state
pub made_state : (old : Managed) (words : ℕ) (held : Option HeldCommit) (made : Step) (new : Managed) (write : Write) → Steps old words held made new → next_of held ≡ Some write → new.state ≡ apply old.state write
made_state old words None made new write steps next = absurd (cc)
made_state old words (Some held) made new write steps next = go (stepped old words held made new steps)
  where
    go : HasStepped old words held made new → new.state ≡ apply old.state write
    go (End actions did is) = let clash : None ≡ Some write = sym (ap due_write actions) ∙ next in absurd (cc)
    go (Wrote one actions rest did is) =
        let read : Some one ≡ Some write = sym (ap due_write rest) ∙ next in
        let same : one ≡ write = cc in
        ap (λ (m : Managed). m.state) is ∙ ap (apply old.state) same
    go (Drain actions rest did is) = let clash : None ≡ Some write = sym (ap due_write rest) ∙ next in absurd (cc)
    go (Wait actions more rest flying did is) = let clash : None ≡ Some write = sym (ap due_write rest) ∙ next in absurd (cc)

-- the room that a step uses isn't needed any more
pub room_after : (old : Managed) (words : ℕ) (held : Option HeldCommit) (made : Step) (new : Managed) (spare spare' : ℕ) → old.held ≡ held → Steps old words held made new → HasRoomLeft held spare
    → spare' + length (actions_of made) ≡ spare → HasRoomLeft new.held spare'
room_after old words None made new spare spare' under steps room used =
    subst (λ (h : Option HeldCommit). HasRoomLeft h spare') (sym (ap (λ (m : Managed). m.held) steps.1 ∙ under)) tt
room_after old words (Some held) made new spare spare' under steps room used = go (stepped old words held made new steps)
  where
    go : HasStepped old words held made new → HasRoomLeft new.held spare'
    go (End actions did is) = subst (λ (h : Option HeldCommit). HasRoomLeft h spare') (sym (ap (λ (m : Managed). m.held) is ∙ left_held old held held.way)) tt
    go (Wrote write actions rest did is) =
        let one : length (actions_of made) ≡ 1 = ap (λ s. length (actions_of s)) did in
        let before : length held.actions ≡ suc (length actions) = ap length rest in
        let enough : length actions ≤ spare' = omega arith in
        subst (λ (m : Managed). HasRoomLeft m.held spare') (sym is) enough
    go (Drain actions rest did is) =
        let one : length (actions_of made) ≡ 1 = ap (λ s. length (actions_of s)) did in
        let before : length held.actions ≡ suc (length actions) = ap length rest in
        let enough : length actions ≤ spare' = omega arith in
        subst (λ (m : Managed). HasRoomLeft m.held spare') (sym is) enough
    go (Wait actions more rest flying did is) =
        let none : length (actions_of made) ≡ 0 = ap (λ s. length (actions_of s)) did in
        let same : new.held ≡ Some held = ap (λ (m : Managed). m.held) is ∙ under in
        let enough : length held.actions ≤ spare' = omega arith in
        subst (λ (h : Option HeldCommit). HasRoomLeft h spare') (sym same) enough

-- a write and a drain take their room
written_room : (state : State) (write : Write) (actions : List Action) (one : Way) → suc (room_by_way actions (way_by state write one)) ≤ room_by_way (Written write ∷ actions) one
written_room state write actions (On undo) = omega arith
written_room state write actions (Back undone) = omega arith

drained_room : (actions : List Action) (one : Way) → suc (room_by_way actions one) ≤ room_by_way (Drained ∷ actions) one
drained_room actions (On undo) = omega arith
drained_room actions (Back undone) = omega arith

-- nor is it where the commit is turned round
pub both_after : (old : Managed) (words : ℕ) (held : Option HeldCommit) (made : Step) (new : Managed) (spare spare' : ℕ) → old.held ≡ held → Steps old words held made new → HasRoomBothWays held spare
    → spare' + length (actions_of made) ≡ spare → HasRoomBothWays new.held spare'
both_after old words None made new spare spare' under steps room used =
    subst (λ (h : Option HeldCommit). HasRoomBothWays h spare') (sym (ap (λ (m : Managed). m.held) steps.1 ∙ under)) tt
both_after old words (Some held) made new spare spare' under steps room used = go (stepped old words held made new steps)
  where
    go : HasStepped old words held made new → HasRoomBothWays new.held spare'
    go (End actions did is) = subst (λ (h : Option HeldCommit). HasRoomBothWays h spare') (sym (ap (λ (m : Managed). m.held) is ∙ left_held old held held.way)) tt
    go (Wrote write actions rest did is) =
        let one : length (actions_of made) ≡ 1 = ap (λ s. length (actions_of s)) did in
        let before : room_both_ways held ≡ room_by_way (Written write ∷ actions) held.way = ap (λ xs. room_by_way xs held.way) rest in
        let less = written_room old.state write actions held.way in
        let enough : room_by_way actions (way_by old.state write held.way) ≤ spare' = omega arith in
        subst (λ (m : Managed). HasRoomBothWays m.held spare') (sym is) enough
    go (Drain actions rest did is) =
        let one : length (actions_of made) ≡ 1 = ap (λ s. length (actions_of s)) did in
        let before : room_both_ways held ≡ room_by_way (Drained ∷ actions) held.way = ap (λ xs. room_by_way xs held.way) rest in
        let less = drained_room actions held.way in
        let enough : room_by_way actions held.way ≤ spare' = omega arith in
        subst (λ (m : Managed). HasRoomBothWays m.held spare') (sym is) enough
    go (Wait actions more rest flying did is) =
        let none : length (actions_of made) ≡ 0 = ap (λ s. length (actions_of s)) did in
        let same : new.held ≡ Some held = ap (λ (m : Managed). m.held) is ∙ under in
        let enough : room_both_ways held ≤ spare' = omega arith in
        subst (λ (h : Option HeldCommit). HasRoomBothWays h spare') (sym same) enough

-- no end is idle, waits for words, or is a drain
pub not_idle : (one : Way) (held : HeldCommit) → step.Idle ≡ end_answer one held.counts → ⊥
not_idle (On undo) held is = cc
not_idle (Back undone) held is = cc

pub not_waiting : (one : Way) (held : HeldCommit) (words : ℕ) → step.Waiting words ≡ end_answer one held.counts → ⊥
not_waiting (On undo) held words is = cc
not_waiting (Back undone) held words is = cc

pub not_drained : (one : Way) (held : HeldCommit) → step.Drained ≡ end_answer one held.counts → ⊥
not_drained (On undo) held is = cc
not_drained (Back undone) held is = cc

-- the drain comes where no write is due
pub none_drained : (old : Managed) (words : ℕ) (held : Option HeldCommit) (new : Managed) → Steps old words held step.Drained new → next_of held ≡ None
none_drained old words None new steps = refl
none_drained old words (Some held) new steps = go (stepped old words held step.Drained new steps)
  where
    go : HasStepped old words held step.Drained new → next_of (Some held) ≡ None
    go (End actions did is) = absurd (not_drained held.way held did)
    go (Wrote write actions rest did is) = absurd (let clash = did in cc)
    go (Drain actions rest did is) = ap due_write rest
    go (Wait actions more rest flying did is) = absurd (let clash = did in cc)

-- nor is one due where a step makes no action
pub none_due : (old : Managed) (words : ℕ) (held : Option HeldCommit) (made : Step) (new : Managed) → actions_of made ≡ [] → Steps old words held made new → next_of held ≡ None
none_due old words None made new none steps = refl
none_due old words (Some held) made new none steps = go (stepped old words held made new steps)
  where
    go : HasStepped old words held made new → next_of (Some held) ≡ None
    go (End actions did is) = ap due_write actions
    go (Wrote write actions rest did is) = absurd (let clash : Written write ∷ [] ≡ [] = ap actions_of (sym did) ∙ none in cc)
    go (Drain actions rest did is) = absurd (let clash : Drained ∷ [] ≡ [] = ap actions_of (sym did) ∙ none in cc)
    go (Wait actions more rest flying did is) = ap due_write rest

-- a write made leaves the way
pub same_way : (state : State) (write : Write) (one : Way) → is_back (way_by state write one) ≡ is_back one
same_way state write (On undo) = refl
same_way state write (Back undone) = refl

-- a commit that goes forward goes on so
pub forward_after : (old : Managed) (words : ℕ) (held : Option HeldCommit) (made : Step) (new : Managed) → old.held ≡ held → Steps old words held made new → GoesForward held → GoesForward new.held
forward_after old words None made new under steps forward =
    subst GoesForward (sym (ap (λ (m : Managed). m.held) steps.1 ∙ under)) tt
forward_after old words (Some held) made new under steps forward = go (stepped old words held made new steps)
  where
    go : HasStepped old words held made new → GoesForward new.held
    go (End actions did is) = subst GoesForward (sym (ap (λ (m : Managed). m.held) is ∙ left_held old held held.way)) tt
    go (Wrote write actions rest did is) = subst (λ (m : Managed). GoesForward m.held) (sym is) (same_way old.state write held.way ∙ forward)
    go (Drain actions rest did is) = subst (λ (m : Managed). GoesForward m.held) (sym is) forward
    go (Wait actions more rest flying did is) = subst GoesForward (sym (ap (λ (m : Managed). m.held) is ∙ under)) forward
