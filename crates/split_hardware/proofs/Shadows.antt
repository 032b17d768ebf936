-- What was asked of hardware, one call more.
use Rattle.std.proofs.Common.{◌≡◌, ℕ, List, [], ◌∷◌, ◌++◌, Result, ap, subst}
use Rattle.tcam_device.specs.declared.DeviceFault.{DeviceFault}
use Rattle.split_device.specs.declared.SplitWrite.{SplitWrite}
use Rattle.split_device.specs.declared.SplitAction.{SplitAction}
use Rattle.split_device.specs.declared.SplitAction.TheVariants.{Drained}
use Rattle.split_hardware.specs.Shadow.{HasPut, Put, Drain, counted, noted}

pub put_more : {H : Type 0} (puts : H → SplitWrite → Result (Unit {0}) DeviceFault → H → Type 0) (drains : H → H → Type 0) (given : List H) (events : List SplitAction) (faults : ℕ)
    (before after : H) (write : SplitWrite) (result answer : Result (Unit {0}) DeviceFault) → HasPut puts drains given events faults before → puts before write result after → result ≡ answer
    → HasPut puts drains given (noted events write answer) (counted faults answer) after
put_more puts drains given events faults before after write result answer was call is = record {
  calls = Put before write answer ∷ was.calls;
  are_calls = (subst (λ (a : Result (Unit {0}) DeviceFault). puts before write a after) is call, was.are_calls);
  events_are = ap (λ (actions : List SplitAction). noted actions write answer) was.events_are;
  faults_are = ap (λ (n : ℕ). counted n answer) was.faults_are;
}

pub drain_more : {H : Type 0} (puts : H → SplitWrite → Result (Unit {0}) DeviceFault → H → Type 0) (drains : H → H → Type 0) (given : List H) (events : List SplitAction) (faults : ℕ)
    (before after : H) → HasPut puts drains given events faults before → drains before after → HasPut puts drains given (events ++ Drained ∷ []) faults after
drain_more puts drains given events faults before after was call = record {
  calls = Drain before ∷ was.calls;
  are_calls = (call, was.are_calls);
  events_are = ap (λ (actions : List SplitAction). actions ++ Drained ∷ []) was.events_are;
  faults_are = was.faults_are;
}
