-- What a call hands to a sink, and what it leaves of a sink and a device.
use Rattle.std.specs.Prelude.{◌≡◌, ℕ, ◌++◌, ◌∷◌, Option, IsSome, Result, List, length}
use Rattle.std.specs.Io.KnownBytes.{Appends}
use Rattle.call_history.specs.Cause.{IsCounted}
use Rattle.tcam_device.specs.declared.Write.{Write}
use Rattle.tcam_device.specs.declared.Action.{Action}
use Rattle.tcam_device.specs.View.{DeviceView, journal}
use Rattle.batch_order.specs.CarriedOut.{IsTried}
use Rattle.report_lines.specs.Outside.{HandsOver}
use Rattle.replay.specs.Effects.{Effect, Prints, printed}
pub use Rattle.report_lines.specs.Outside.{AppendsPart, WritesLine}

-- what stands outside of a run at a moment: the writes and drains of its device since it was blank, and what its sink took
pub record Outside : Type 0 where
  pub events : List Action
  pub taken : Option (List ℕ)

abbrev pub outside : List Action → Option (List ℕ) → Outside
outside events taken = record { events = events; taken = taken }

-- some lines came about up to one that the sink didn't take whole
pub record CutsLines (lines : List Effect) (taken_old taken_new : Option (List ℕ)) : Type 0 where
  pub front : List Effect
  pub partial : List ℕ
  pub rest : List ℕ
  pub back : List Effect
  pub cut : lines ≡ front ++ Prints (partial ++ rest) ∷ back
  pub grown : Appends taken_old taken_new (printed front ++ partial)

-- some lines one after the other, or those before one that is cut, and a part of that
abbrev pub WritesLines : {S T E : Type 0} → (S → Option (List ℕ)) → (S → List ℕ) → (S → ℕ) → S → S → List Effect → Result T E → Type 0
WritesLines taken accepted faults old new lines result =
    HandsOver taken accepted faults old new (λ before after. Appends before after (printed lines)) (CutsLines lines) result

-- What a call leaves of a sink and a device, whatever comes of it: what was told stays told, the slots stay, and the
-- journal only grows. A sink's failure has this cause: its count rises, by one, exactly where the call ended by it. A
-- device's has this: its count rises by four where the call ended by it, as by four tries of one write, and beside them
-- by at most three for each write that was made.
pub record Leaves {S : Type 0} (taken : S → Option (List ℕ)) (sink_faults : S → ℕ) (sink_old sink_new : S) (device_old device_new : DeviceView) (SinkFailed DeviceFailed : Type 0) : Type 0 where
  pub told : IsSome (taken sink_old) → IsSome (taken sink_new)
  pub slots : device_new.slots ≡ device_old.slots
  pub more : List Write
  pub grown : journal device_new ≡ journal device_old ++ more
  pub sink_cause : IsCounted SinkFailed (sink_faults sink_old) (sink_faults sink_new)
  pub device_cause : IsTried 4 (length more) DeviceFailed device_old.faults device_new.faults
