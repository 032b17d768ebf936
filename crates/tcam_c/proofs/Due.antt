-- What a session's calls rest on.
use Rattle.std.proofs.Common.{◌≡◌, ℕ, ◌≤◌, List, [], ◌∷◌, length, Option, Some, None, Ok, Err, refl, sym, subst, arith}
use Rattle.std.specs.Prelude.{IfSome, IsOk}
use Rattle.call_history.specs.Cause.{Rose}
use Rattle.rule_store.specs.declared.Mode.{Mode}
use Rattle.tcam_device.specs.declared.Write.{Write}
use Rattle.tcam_device.specs.declared.Action.{Action}
use Rattle.tcam_device.specs.declared.Action.TheVariants.{Written, Drained}
use Rattle.tcam_device.specs.State.{IsInUse, apply, blank, on_device}
use Rattle.tcam_device.specs.Flight.{writes_in}
use Rattle.memory_tcam.specs.Tcam.{AreCalls, Call, failures}
use Rattle.memory_tcam.specs.Tcam.Call.{Put, Drain}
use Rattle.batch_order.specs.declared.Placement.{Placement}
use Rattle.batch_order.specs.Managed.{Managed, IsOn, Serves, fresh}
use Rattle.batch_order.specs.Steps.{next_of}
use Rattle.batch_order.proofs.served.Ahead.{ahead_by_journal, by_journal}
use Rattle.tcam_c.specs.Driven.{IsServing, IsServingAhead, due_of, fresh_driven}
use Rattle.tcam_c.proofs.Ways.{due_next}

-- hardware of which no write fails has none that failed
pub never_failed : {H : Type 0} (drains : H → H → Type 0) (given : List H) (calls : List (Call H)) (now : H)
    → AreCalls (λ before write answer after. IsOk answer) drains given calls now → failures calls ≡ 0
never_failed drains given [] now are = refl
never_failed drains given (Put before write (Ok done) ∷ earlier) now are = never_failed drains given earlier before are.1
never_failed drains given (Put before write (Err fault) ∷ earlier) now are = absurd (let no = are.0 in cc)
never_failed drains given (Drain before ∷ earlier) now are = never_failed drains given earlier before are.1

-- a count that stays at 0 didn't rise
pub never_rose : (before now : ℕ) → before ≡ 0 → now ≡ 0 → Rose before now → ⊥
never_rose before now was is rose =
    let at : Rose 0 0 = subst (λ (n : ℕ). Rose 0 n) is (subst (λ (m : ℕ). Rose m now) was rose) in
    omega (arith, at)

-- each key is answered too where the write that is due was made already
pub due_ahead : (manager : Managed) (events : List Action) (due : Option Action) → due ≡ due_of manager.held
    → IfSome (next_of manager.held) (IsInUse manager.slots)
    → length manager.state.slots ≡ manager.slots → IsOn manager.slots (writes_in events) manager
    → ((write : Write) → next_of manager.held ≡ Some write → (n : ℕ) → manager.slots ≤ n → Serves (on_device n (apply manager.state write)) manager.rules manager.held)
    → IsServingAhead (record { manager = manager; events = events }) due
due_ahead manager events None is inside size on ahead = tt
due_ahead manager events (Some Drained) is inside size on ahead = tt
due_ahead manager events (Some (Written write)) is inside size on ahead =
    let due : next_of manager.held ≡ Some write = due_next manager.held write (sym is) in
    let used : IfSome (Some write) (IsInUse manager.slots) = subst (λ (one : Option Write). IfSome one (IsInUse manager.slots)) due inside in
    ahead_by_journal manager.slots (writes_in events) manager write (omega arith) on size used (ahead write due manager.slots (omega arith))

-- a blank memory serves a manager without rules
pub fresh_serves : (slots : ℕ) (mode : Mode) (placement : Placement) (manager : Managed) → manager ≡ fresh slots mode placement
    → ((n : ℕ) → slots ≤ n → IsOn n [] manager) → ((n : ℕ) → manager.slots ≤ n → Serves (on_device n manager.state) manager.rules manager.held)
    → IsServing (fresh_driven slots mode placement)
fresh_serves slots mode placement manager is on serves =
    let on_now : (n : ℕ) → slots ≤ n → IsOn n [] (fresh slots mode placement) = subst (λ (one : Managed). (n : ℕ) → slots ≤ n → IsOn n [] one) is on in
    let serves_now : (n : ℕ) → slots ≤ n → Serves (on_device n (blank slots)) [] None =
    subst (λ (one : Managed). (n : ℕ) → one.slots ≤ n → Serves (on_device n one.state) one.rules one.held) is serves in
    (on_now slots (omega arith), by_journal slots [] (fresh slots mode placement) (omega arith) serves_now (on_now slots (omega arith)))
