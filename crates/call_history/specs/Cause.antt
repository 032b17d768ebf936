-- When an object's failure is answered: exactly where its count of failures rose in the call.
use Rattle.std.specs.Prelude.{◌≡◌, ℕ, ◌+◌, ◌-◌, ◌^◌, ◌≤◌, min, Result, OnOk, OnErr}

-- a count is raised by one, and stands at its last value
abbrev pub raised : ℕ → ℕ
raised count = min (count + 1) (2 ^ 64 - 1)

-- the count is greater now than before, or stands at its last value
abbrev pub Rose : ℕ → ℕ → Type 0
Rose before now = raised before ≤ now

-- A count of failures after a call: it rose, by one, where the call failed, and stays where it didn't. So no failure is
-- passed over in silence, and none is tried again.
pub record HasCause {T E : Type 0} (before now : ℕ) (result : Result T E) : Type 0 where
  pub later : before ≤ now
  pub once : now ≤ before + 1
  pub failed : OnErr result (Rose before now)
  pub stayed : OnOk result (now ≡ before)

-- The same of a call that may end otherwise too, by whether this failure ended it.
pub record IsCounted (failure : Type 0) (before now : ℕ) : Type 0 where
  pub later : before ≤ now
  pub once : now ≤ before + 1
  pub failed : failure → Rose before now
  pub stayed : ¬ failure → now ≡ before
