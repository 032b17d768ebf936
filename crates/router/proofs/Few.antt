-- A commit that a manager holds has few parts and few drains.
use Rattle.std.proofs.Common.{◌≡◌, ℕ, suc, ◌+◌, ◌*◌, ◌^◌, ◌<◌, ◌≤◌, Bool, true, false, Option, None, Some, List, [], ◌∷◌, ◌++◌, length, map, take, drop, take-append-drop, refl, sym, ap, ap₂, ◌∙◌, arith, length-append}
use Rattle.std.proofs.lemmas.List.{length-map}
use Rattle.rule_model.specs.declared.words.Entry.{Entry}
use Rattle.rule_model.specs.Entry.{same_match}
use Rattle.rule_store.specs.declared.Command.{Command}
use Rattle.slot_order.specs.Order.{slot}
use Rattle.tcam_device.specs.declared.Write.{Write}
use Rattle.tcam_device.specs.declared.Write.TheVariants as whole
use Rattle.tcam_device.specs.State.{State}
use Rattle.tcam_device.specs.declared.Action.{Action}
use Rattle.tcam_device.specs.declared.Action.TheVariants as action
use Rattle.tcam_device.specs.Flight.{writes_in}
use Rattle.tcam_device.specs.Insertion.{table_writes}
use Rattle.commit_writes.specs.Actions.{commit_actions, have_bits, with_drain}
use Rattle.commit_writes.specs.Bits.{bits_with, new_bits}
use Rattle.commit_writes.proofs.WritesIn.{writes_of_commit}
use Rattle.batch_order.specs.Managed.{HeldCommit, Managed, commit_of}
use Rattle.split_device.specs.declared.SplitWrite.{SplitWrite}
use Rattle.split_device.specs.declared.SplitAction.{SplitAction}
use Rattle.split_device.specs.declared.SplitAction.TheVariants.{Written, Drained}
use Rattle.split_device.specs.State.{SplitState, undivided, split_apply, split_after}
use Rattle.split_device.specs.Drains.{SinceDrain, is_drain_due, nothing_since, since_all, since_write, with_drains}
use Rattle.split_device.specs.Flight.{written}
use Rattle.split_writes.specs.declared.SplitDone.{SplitDone}
use Rattle.split_writes.specs.Parts.{made_of, parts_over, write_parts}
use Rattle.split_writes.proofs.Made.{written_append}
use Rattle.split_writes.proofs.Timely.{written_with_drains}
use Rattle.split_order.specs.Left.{left_from, left_of, left_of_held, since_of, state_on}
use Rattle.split_order.specs.Managed.{SplitManaged}
use Rattle.split_order.specs.Prepared.{HoldsSplit}
use Rattle.router.specs.Run.{drains_in}

-- an undivided write has at most three parts
over_few : (held : Option Entry) (at : ℕ) (entry : Entry) → length (parts_over held at entry) ≤ 3
over_few None at entry = omega arith
over_few (Some standing) at entry = by (same_match entry standing) refl
  where
    by : (same : Bool) → same_match entry standing ≡ same → length (parts_over (Some standing) at entry) ≤ 3
    by true e = rw e (omega arith)
    by false e = rw e (omega arith)

write_few : (state : State) (write : Write) → length (write_parts state write) ≤ 3
write_few state (whole.Slot at None) = omega arith
write_few state (whole.Slot at (Some entry)) = over_few (slot state.slots at) at entry
write_few state (whole.Table field port word) = omega arith

-- the parts of some writes, and of the first of them
both_count : (state : SplitState) (since : SinceDrain) (parts : List SplitWrite) (behind : List SplitAction)
    → length (written (with_drains state since parts ++ behind)) ≡ length parts + length (written behind)
both_count state since parts behind =
    ap length (written_append (with_drains state since parts) behind ∙ ap (λ some. some ++ written behind) (written_with_drains state since parts)) ∙ length-append parts (written behind)

made_few : (state : SplitState) (since : SinceDrain) (actions : List Action) → length (written (made_of state since actions)) ≤ 3 * length (writes_in actions)
made_few state since [] = omega arith
made_few state since (action.Drained ∷ actions) = made_few state nothing_since actions
made_few state since (action.Written write ∷ actions) =
    let parts = write_parts (undivided state) write in
    let made = with_drains state since parts in
    let behind = made_of (split_after state parts) (since_all since made) actions in
    let rest : length (written behind) ≤ 3 * length (writes_in actions) = made_few (split_after state parts) (since_all since made) actions in
    let one : length parts ≤ 3 = write_few (undivided state) write in
    let count : length (written (made ++ behind)) ≡ length parts + length (written behind) = both_count state since parts behind in
    let all : length (written (made ++ behind)) ≤ 3 * suc (length (writes_in actions)) = omega arith in
    all

-- at most one drain stands before each part
drains_append : (xs ys : List SplitAction) → drains_in (xs ++ ys) ≡ drains_in xs + drains_in ys
drains_append [] ys = omega arith
drains_append (Written part ∷ xs) ys = drains_append xs ys
drains_append (Drained ∷ xs) ys = let rest = drains_append xs ys in omega arith

drains_of_parts : (state : SplitState) (since : SinceDrain) (parts : List SplitWrite) → drains_in (with_drains state since parts) ≤ length parts
drains_of_parts state since [] = omega arith
drains_of_parts state since (part ∷ parts) = by (is_drain_due state since part) (λ later. drains_of_parts (split_apply state part) later parts)
  where
    by : (due : Bool) → ((later : SinceDrain) → drains_in (with_drains (split_apply state part) later parts) ≤ length parts) → drains_in (elim due [
      | true ↦ Drained ∷ Written part ∷ with_drains (split_apply state part) (since_write nothing_since part) parts
      | false ↦ Written part ∷ with_drains (split_apply state part) (since_write since part) parts
    ]) ≤ suc (length parts)
    by true more = let rest = more (since_write nothing_since part) in omega arith
    by false more = let rest = more (since_write since part) in omega arith

first_drains : (state : SplitState) (since : SinceDrain) (parts : List SplitWrite) (behind : List SplitAction) → length parts ≤ 3
    → drains_in (with_drains state since parts ++ behind) ≤ 3 + drains_in behind
first_drains state since parts behind few =
    let some = drains_of_parts state since parts in
    let sum = drains_append (with_drains state since parts) behind in
    omega arith

made_drains : (state : SplitState) (since : SinceDrain) (actions : List Action) → drains_in (made_of state since actions) ≤ 3 * length actions
made_drains state since [] = omega arith
made_drains state since (action.Drained ∷ actions) = let rest = made_drains state nothing_since actions in omega arith
made_drains state since (action.Written write ∷ actions) =
    let parts = write_parts (undivided state) write in
    let behind = made_of (split_after state parts) (since_all since (with_drains state since parts)) actions in
    let rest : drains_in behind ≤ 3 * length actions = made_drains (split_after state parts) (since_all since (with_drains state since parts)) actions in
    let first : drains_in (with_drains state since parts ++ behind) ≤ 3 + drains_in behind = first_drains state since parts behind (write_few (undivided state) write) in
    let all : drains_in (with_drains state since parts ++ behind) ≤ 3 * suc (length actions) = omega arith in
    all

-- likewise of what is left before the first part
from_few : (state : SplitState) (since : SinceDrain) (stands : State) (actions : List Action) → length (written (left_from state since stands 0 actions)) ≤ 3 * length (writes_in actions)
from_few state since stands [] = omega arith
from_few state since stands (action.Drained ∷ actions) = made_few state nothing_since actions
from_few state since stands (action.Written write ∷ actions) =
    let parts = write_parts stands write in
    let made = with_drains state since parts in
    let behind = made_of (split_after state parts) (since_all since made) actions in
    let rest : length (written behind) ≤ 3 * length (writes_in actions) = made_few (split_after state parts) (since_all since made) actions in
    let one : length parts ≤ 3 = write_few stands write in
    let count : length (written (made ++ behind)) ≡ length parts + length (written behind) = both_count state since parts behind in
    let all : length (written (made ++ behind)) ≤ 3 * suc (length (writes_in actions)) = omega arith in
    all

from_drains : (state : SplitState) (since : SinceDrain) (stands : State) (actions : List Action) → drains_in (left_from state since stands 0 actions) ≤ 3 * length actions
from_drains state since stands [] = omega arith
from_drains state since stands (action.Drained ∷ actions) = let rest = made_drains state nothing_since actions in omega arith
from_drains state since stands (action.Written write ∷ actions) =
    let parts = write_parts stands write in
    let behind = made_of (split_after state parts) (since_all since (with_drains state since parts)) actions in
    let rest : drains_in behind ≤ 3 * length actions = made_drains (split_after state parts) (since_all since (with_drains state since parts)) actions in
    let first : drains_in (with_drains state since parts ++ behind) ≤ 3 + drains_in behind = first_drains state since parts behind (write_few stands write) in
    let all : drains_in (with_drains state since parts ++ behind) ≤ 3 * suc (length actions) = omega arith in
    all

-- a commit has one action more than writes at most
one_more : (due : Bool) (made : List Write) → length (with_drain due made) ≤ suc (length made)
one_more false made = let same : length (map action.Written made) ≡ length made = length-map made action.Written in omega arith
one_more true made =
    let front = map action.Written (take (table_writes made) made) in
    let behind = map action.Written (drop (table_writes made) made) in
    let a : length (front ++ action.Drained ∷ behind) ≡ length front + suc (length behind) = length-append front (action.Drained ∷ behind) in
    let b : length front ≡ length (take (table_writes made) made) = length-map (take (table_writes made) made) action.Written in
    let c : length behind ≡ length (drop (table_writes made) made) = length-map (drop (table_writes made) made) action.Written in
    let d : length made ≡ length (take (table_writes made) made) + length (drop (table_writes made) made) =
    ap length (sym (take-append-drop (table_writes made) made)) ∙ length-append (take (table_writes made) made) (drop (table_writes made) made) in
    let all : length (front ++ action.Drained ∷ behind) ≤ suc (length made) = omega arith in
    all

module _ (slots : ℕ) (old : SplitManaged) (batch : List Command) (counts : SplitDone) (new : SplitManaged) (holds : HoldsSplit old batch counts new) where
  abbrev actions : List Action
  actions = commit_actions old.whole.mode old.whole.bits old.whole.rules batch holds.whole.1.made

  -- its planner holds a plan
  pub held_is : new.whole.held ≡ Some (commit_of old.whole batch holds.whole.1.made holds.whole.0)
  held_is = ap (λ (whole : Managed). whole.held) holds.whole.1.new_is

  left_is : left_of slots new ≡ left_from (state_on slots new) (since_of new) new.whole.state 0 actions
  left_is = ap₂ (λ (n : ℕ) (held : Option HeldCommit). left_of_held (state_on slots new) (since_of new) new.whole.state n held) holds.made held_is

  few_writes : length holds.whole.1.made ≤ 2 ^ 35
  few_writes = holds.whole.1.few

  pub few_parts : length (written (left_of slots new)) ≤ 2 ^ 41
  few_parts =
      let all : length (written (left_from (state_on slots new) (since_of new) new.whole.state 0 actions)) ≤ 3 * length (writes_in actions) = from_few (state_on slots new) (since_of new) new.whole.state actions in
      let same : length (written (left_of slots new)) ≡ length (written (left_from (state_on slots new) (since_of new) new.whole.state 0 actions)) = ap (λ (some : List SplitAction). length (written some)) left_is in
      let number : length (writes_in actions) ≡ length holds.whole.1.made =
      ap length (writes_of_commit (have_bits (new_bits old.whole.bits (bits_with old.whole.mode old.whole.rules batch old.whole.bits))) holds.whole.1.made) in
      let few = few_writes in
      omega arith

  pub few_drains : drains_in (left_of slots new) < 2 ^ 43
  few_drains =
      let all : drains_in (left_from (state_on slots new) (since_of new) new.whole.state 0 actions) ≤ 3 * length actions = from_drains (state_on slots new) (since_of new) new.whole.state actions in
      let same : drains_in (left_of slots new) ≡ drains_in (left_from (state_on slots new) (since_of new) new.whole.state 0 actions) = ap drains_in left_is in
      let number : length actions ≤ suc (length holds.whole.1.made) =
      one_more (have_bits (new_bits old.whole.bits (bits_with old.whole.mode old.whole.rules batch old.whole.bits))) holds.whole.1.made in
      let few = few_writes in
      omega arith
