-- Calls that are to fail, by their numbers.
use Rattle.std.specs.Prelude.{ℕ, ◌+◌, ◌-◌, ◌^◌, ◌<◌, List, Contains}
use Rattle.call_history.specs.Cause.{raised}

-- the numbers of the calls that are to fail, from 1, and how many calls were made
pub record CallCount : Type 0 where
  pub listed : List ℕ
  pub made : ℕ

-- the next call is listed
abbrev pub IsNextListed : CallCount → Type 0
IsNextListed count = (count.made < 2 ^ 64 - 1) × Contains count.listed (count.made + 1)

-- one call more
abbrev pub with_call : CallCount → CallCount
with_call count = record count { made = raised count.made }
