-- What is made of a commit's writes: their parts, each in its time.
use Rattle.std.proofs.Common.{◌≡◌, List, [], ◌∷◌, ◌++◌, length, refl, sym, ◌∙◌, subst, ap, ap₂}
use Rattle.std.specs.List.{AllByRecursion}
use Rattle.tcam_device.specs.declared.Write.{Write}
use Rattle.tcam_device.specs.declared.Action.{Action}
use Rattle.tcam_device.specs.declared.Action.TheVariants as action
use Rattle.tcam_device.specs.State.{State, IsInUse}
use Rattle.tcam_device.specs.Flight.{writes_in}
use Rattle.split_device.specs.declared.SplitWrite.{SplitWrite}
use Rattle.split_device.specs.declared.SplitAction.{SplitAction}
use Rattle.split_device.specs.declared.SplitAction.TheVariants.{Written, Drained}
use Rattle.split_device.specs.State.{SplitState, IsSized, undivided, split_apply, split_after}
use Rattle.split_device.specs.Flight.{written}
use Rattle.split_device.specs.Drains.{SinceDrain, nothing_since, since_write, since_all, AreTimely, with_drains}
use Rattle.split_writes.specs.Parts.{write_parts, parts_of_writes, made_of}
use Rattle.split_writes.proofs.Undivided.{write_is, sizes_kept, sized_after}
use Rattle.split_writes.proofs.Timely.{written_with_drains, timely_with_drains}

pub written_append : (xs ys : List SplitAction) → written (xs ++ ys) ≡ written xs ++ written ys
written_append [] ys = refl
written_append (Written write ∷ xs) ys = ap (λ rest. write ∷ rest) (written_append xs ys)
written_append (Drained ∷ xs) ys = written_append xs ys

timely_append : (state : SplitState) (since : SinceDrain) (xs ys : List SplitAction) → AreTimely state since xs → AreTimely (split_after state (written xs)) (since_all since xs) ys
    → AreTimely state since (xs ++ ys)
timely_append state since [] ys first rest = rest
timely_append state since (Written write ∷ xs) ys first rest = (first.0, timely_append (split_apply state write) (since_write since write) xs ys first.1 rest)
timely_append state since (Drained ∷ xs) ys first rest = timely_append state nothing_since xs ys first rest

pub timely_front : (state : SplitState) (since : SinceDrain) (xs ys : List SplitAction) → AreTimely state since (xs ++ ys) → AreTimely state since xs
timely_front state since [] ys timely = tt
timely_front state since (Written write ∷ xs) ys timely = (timely.0, timely_front (split_apply state write) (since_write since write) xs ys timely.1)
timely_front state since (Drained ∷ xs) ys timely = timely_front state nothing_since xs ys timely

-- each part stands in its time,
pub made_timely : (state : SplitState) (since : SinceDrain) (actions : List Action) → AreTimely state since (made_of state since actions)
made_timely state since [] = tt
made_timely state since (action.Written write ∷ actions) =
    let parts = write_parts (undivided state) write in
    let made = with_drains state since parts in
    timely_append state since made (made_of (split_after state parts) (since_all since made) actions) (timely_with_drains state since parts)
    (subst (λ writes. AreTimely (split_after state writes) (since_all since made) (made_of (split_after state parts) (since_all since made) actions))
    (sym (written_with_drains state since parts)) (made_timely (split_after state parts) (since_all since made) actions))
made_timely state since (action.Drained ∷ actions) = made_timely state nothing_since actions

-- what is left is within the slots after some parts
pub inside_after : (state : SplitState) (parts : List SplitWrite) (writes : List Write) → AllByRecursion (IsInUse (length state.slots)) writes
    → AllByRecursion (IsInUse (length (split_after state parts).slots)) writes
inside_after state parts writes inside = subst (λ n. AllByRecursion (IsInUse n) writes) (sym (sizes_kept state parts).0) inside

-- and the writes among them are the parts
pub made_writes : (state : SplitState) (since : SinceDrain) (actions : List Action) → IsSized state → AllByRecursion (IsInUse (length state.slots)) (writes_in actions)
    → written (made_of state since actions) ≡ parts_of_writes (undivided state) (writes_in actions)
made_writes state since [] sized inside = refl
made_writes state since (action.Written write ∷ actions) sized inside =
    let parts = write_parts (undivided state) write in
    let made = with_drains state since parts in
    let next = split_after state parts in
    written_append made (made_of next (since_all since made) actions)
    ∙ ap₂ (λ first rest. first ++ rest) (written_with_drains state since parts)
    (made_writes next (since_all since made) actions (sized_after state parts sized) (inside_after state parts (writes_in actions) inside.1)
    ∙ ap (λ (s : State). parts_of_writes s (writes_in actions)) (write_is state write sized inside.0))
made_writes state since (action.Drained ∷ actions) sized inside = made_writes state nothing_since actions sized inside
