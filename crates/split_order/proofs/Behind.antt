-- What is left, part by part.
use Rattle.std.proofs.Common.{◌≡◌, ℕ, Bool, true, false, Option, None, Some, List, [], ◌∷◌, ◌++◌, drop, refl, sym, ◌∙◌, ap, subst}
use Rattle.slot_order.specs.Order.{slot}
use Rattle.rule_model.specs.declared.words.Word.{Word}
use Rattle.tcam_device.specs.State.{State, on_device}
use Rattle.tcam_device.specs.declared.Action.{Action}
use Rattle.tcam_device.specs.declared.Action.TheVariants as action
use Rattle.split_device.specs.declared.SplitWrite.{SplitWrite}
use Rattle.split_device.specs.declared.SplitWrite.TheVariants.{Slot, Result, Table}
use Rattle.split_device.specs.declared.SplitAction.{SplitAction}
use Rattle.split_device.specs.declared.SplitAction.TheVariants.{Written, Drained}
use Rattle.split_device.specs.State.{SplitState, blank_split, undivided, split_apply, split_after}
use Rattle.split_device.specs.Drains.{SinceDrain, nothing_since, since_made, since_write, since_all, is_drain_due, result_waits, with_drains}
use Rattle.split_device.specs.Flight.{state_of_events, written}
use Rattle.split_writes.specs.Parts.{made_of}
use Rattle.split_writes.proofs.Made.{written_append}
use Rattle.split_writes.proofs.Undivided.{after_append}
use Rattle.split_order.specs.Left.{left_from, made_behind}
use Rattle.split_order.specs.Steps.{IsPartNext}
use Rattle.split_order.proofs.Dues.{parts_same}

-- right behind a drain none is due
none_due : (state : SplitState) (write : SplitWrite) → is_drain_due state nothing_since write ≡ false
none_due state (Slot at parts) = refl
none_due state (Table field port word) = refl
none_due state (Result at tag answer) = here (slot state.slots at)
  where
    here : (held : Option (Word × Word)) → result_waits nothing_since at held ≡ false
    here None = refl
    here (Some parts) = refl

abbrev drained_if : Bool → SplitState → SinceDrain → SplitWrite → List SplitWrite → List SplitAction
drained_if due state since part parts =
    elim due [
      | true ↦ Drained ∷ Written part ∷ with_drains (split_apply state part) (since_write nothing_since part) parts
      | false ↦ Written part ∷ with_drains (split_apply state part) (since_write since part) parts
    ]

-- a part and what is behind it, with a drain before it or not
abbrev behind_if : Bool → SplitState → SinceDrain → SplitWrite → List SplitWrite → List Action → List SplitAction
behind_if due state since part parts actions =
    drained_if due state since part parts ++ made_of (split_after (split_apply state part) parts) (since_all since (drained_if due state since part parts)) actions

pub part_next : (state : SplitState) (since : SinceDrain) (part : SplitWrite) (parts : List SplitWrite) (actions : List Action) → is_drain_due state since part ≡ false
    → made_behind state since (part ∷ parts) actions ≡ Written part ∷ made_behind (split_apply state part) (since_write since part) parts actions
part_next state since part parts actions isnt = ap (λ due. behind_if due state since part parts actions) isnt

pub drain_next : (state : SplitState) (since : SinceDrain) (part : SplitWrite) (parts : List SplitWrite) (actions : List Action) → is_drain_due state since part ≡ true
    → made_behind state since (part ∷ parts) actions ≡ Drained ∷ made_behind state nothing_since (part ∷ parts) actions
drain_next state since part parts actions so =
    ap (λ due. behind_if due state since part parts actions) so
    ∙ ap (λ due. Drained ∷ behind_if due state nothing_since part parts actions) (sym (none_due state part))

-- before the first part of a write what is left is what is made of the actions
pub left_begun : (slots : ℕ) (state : SplitState) (since : SinceDrain) (whole : State) (actions : List Action) → undivided state ≡ on_device slots whole
    → left_from state since whole 0 actions ≡ made_of state since actions
left_begun slots state since whole [] same = refl
left_begun slots state since whole (action.Written write ∷ actions) same = ap (λ parts. made_behind state since parts actions) (parts_same slots (undivided state) whole write same)
left_begun slots state since whole (action.Drained ∷ actions) same = refl

-- what stands first stands before the rest
pub first_is : (left : List SplitAction) (action : SplitAction) (rest : List SplitAction) → left ≡ action ∷ rest → left ≡ action ∷ drop 1 left
first_is left action rest is = is ∙ ap (λ (some : List SplitAction). action ∷ drop 1 some) (sym is)

-- one more event
since_append : (since : SinceDrain) (xs ys : List SplitAction) → since_all since (xs ++ ys) ≡ since_all (since_all since xs) ys
since_append since [] ys = refl
since_append since (x ∷ xs) ys = since_append (since_made since x) xs ys

pub since_more : (events : List SplitAction) (one : SplitAction) → since_all nothing_since (events ++ one ∷ []) ≡ since_made (since_all nothing_since events) one
since_more events one = since_append nothing_since events (one ∷ [])

pub state_more : (slots : ℕ) (events : List SplitAction) (part : SplitWrite) → state_of_events slots (events ++ Written part ∷ []) ≡ split_apply (state_of_events slots events) part
state_more slots events part = ap (split_after (blank_split slots)) (written_append events (Written part ∷ [])) ∙ after_append (blank_split slots) (written events) (part ∷ [])

pub state_drained : (slots : ℕ) (events : List SplitAction) → state_of_events slots (events ++ Drained ∷ []) ≡ state_of_events slots events
state_drained slots events = ap (split_after (blank_split slots)) (written_append events (Drained ∷ [])) ∙ after_append (blank_split slots) (written events) []

-- what begins with an action isn't empty, and a part is no drain
pub not_none : (action : SplitAction) (rest : List SplitAction) → action ∷ rest ≡ [] → ⊥
not_none action rest is = cc

pub not_drained : (part : SplitWrite) (rest more : List SplitAction) → Written part ∷ rest ≡ Drained ∷ more → ⊥
not_drained part rest more is = subst IsPartNext is tt
