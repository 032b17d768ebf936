-- What a manager of a device with split results keeps.
use Rattle.std.specs.Prelude.{ℕ, Bool, false, List, []}
use Rattle.rule_store.specs.declared.Mode.{Mode}
use Rattle.batch_order.specs.declared.Placement.{Placement}
use Rattle.batch_order.specs.Managed.{Managed, fresh}
use Rattle.split_device.specs.declared.SplitAction.{SplitAction}
use Rattle.split_writes.specs.declared.SplitDone.{SplitDone}

pub record SplitManaged : Type 0 where
  -- the planner of undivided writes: behind each of them it stands where their parts lead
  pub whole : Managed
  -- what was made of the device since it was blank
  pub events : List SplitAction
  -- how many parts of the write that is due were made
  pub made : ℕ
  -- whether a part or a drain of the commit under way was made, and its numbers
  pub begun : Bool
  pub counts : SplitDone

-- the numbers where no commit is under way
abbrev pub no_counts : SplitDone
no_counts = record { writes = 0; words = 0; most = 0; span = 0 }

-- with no commit under way
abbrev pub at_rest : Managed → List SplitAction → SplitManaged
at_rest whole events = record { whole = whole; events = events; made = 0; begun = false; counts = no_counts }

-- a manager of a blank device, without rules
abbrev pub fresh_split : ℕ → Mode → Placement → SplitManaged
fresh_split slots mode placement = at_rest (fresh slots mode placement) []
