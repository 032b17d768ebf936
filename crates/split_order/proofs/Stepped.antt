-- What a step does, from what is left before it.
use Rattle.std.proofs.Common.{◌≡◌, ℕ, zero, suc, ◌+◌, Option, None, Some, List, [], ◌∷◌, ◌++◌, length, length-append, append-nil, sym, ◌∙◌, ap, subst, arith}
use Rattle.batch_order.specs.Managed.{HeldCommit}
use Rattle.split_device.specs.declared.SplitAction.{SplitAction}
use Rattle.split_device.specs.declared.SplitAction.TheVariants.{Drained}
use Rattle.split_device.specs.Flight.{state_of_events}
use Rattle.split_order.specs.declared.SplitStep.{SplitStep}
use Rattle.split_order.specs.Left.{ServesSplit, left_of, state_on}
use Rattle.split_order.specs.Managed.{SplitManaged}
use Rattle.split_order.specs.Next.{LeadsDevice, ServesAhead}
use Rattle.split_order.specs.Steps.{Advances, Ends, SplitSteps, made_by}

-- what was made is told
nothing_told : (old : SplitManaged) (made : SplitStep) (new : SplitManaged) → made_by made ≡ [] → new.events ≡ old.events → new.events ≡ old.events ++ made_by made
nothing_told old made new none same = same ∙ (sym (append-nil old.events) ∙ ap (λ some. old.events ++ some) (sym none))

pub drain_told : (slots : ℕ) (old : SplitManaged) (flying : ℕ) (made : SplitStep) (new : SplitManaged) → SplitSteps slots old flying (Drained ∷ []) made new → new.events ≡ old.events ++ made_by made
drain_told slots old zero made new did = did.1.events ∙ ap (λ some. old.events ++ some) (sym (ap made_by did.0))
drain_told slots old (suc n) made new did = nothing_told old made new (ap made_by did.0) (ap (λ (m : SplitManaged). m.events) did.1)

-- what was made took its room, and no more
pub room_taken : (before after made : List SplitAction) (spare spare' : ℕ) → after ≡ before ++ made → spare' + length made ≡ spare → spare' + length after ≡ spare + length before
room_taken before after made spare spare' told took = let size : length after ≡ length before + length made = ap length told ∙ length-append before made in omega arith

-- a manager whose device has its events leads it
pub led_is : (slots : ℕ) (events : List SplitAction) (manager : SplitManaged) → events ≡ manager.events → ServesSplit (state_on slots manager) manager
    → ServesAhead (left_of slots manager) (state_on slots manager) manager → LeadsDevice slots events manager
led_is slots events manager same serves next = record {
  on = same;
  serves = subst (λ some. ServesSplit (state_of_events slots some) manager) (sym same) serves;
  serves_next = subst (λ some. ServesAhead (left_of slots manager) (state_of_events slots some) manager) (sym same) next;
}

-- the slots in use stay
pub ends_events : (old : SplitManaged) (held : Option HeldCommit) (made : SplitStep) (new : SplitManaged) → Ends old held made new → new.events ≡ old.events
ends_events old None made new did = ap (λ (m : SplitManaged). m.events) did.1
ends_events old (Some held) made new did = ap (λ (m : SplitManaged). m.events) did.1

pub ends_slots : (old : SplitManaged) (held : Option HeldCommit) (made : SplitStep) (new : SplitManaged) → Ends old held made new → new.whole.slots ≡ old.whole.slots
ends_slots old None made new did = ap (λ (m : SplitManaged). m.whole.slots) did.1
ends_slots old (Some held) made new did = ap (λ (m : SplitManaged). m.whole.slots) did.1

pub advances_slots : (slots : ℕ) (action : SplitAction) (old new : SplitManaged) → Advances slots action old new → new.whole.slots ≡ old.whole.slots
advances_slots slots action old new did = ap (λ o. o.0.slots) did.outline_is

pub drain_slots : (slots : ℕ) (old : SplitManaged) (flying : ℕ) (made : SplitStep) (new : SplitManaged) → SplitSteps slots old flying (Drained ∷ []) made new → new.whole.slots ≡ old.whole.slots
drain_slots slots old zero made new did = advances_slots slots Drained old new did.1
drain_slots slots old (suc n) made new did = ap (λ (m : SplitManaged). m.whole.slots) did.1
