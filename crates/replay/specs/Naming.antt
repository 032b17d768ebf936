-- What the next write does, where a trace is to tell that.
use Rattle.std.specs.Prelude.{Bool, Option, Some, None}
use Rattle.tcam_device.specs.declared.Write.{Write}
use Rattle.tcam_device.specs.State.{State}
use Rattle.report_lines.specs.declared.deed.Deed.{Deed}
use Rattle.replay.specs.Effects.{deed_told}

-- what the write does that is due, if one is
abbrev pub next_deed : Bool → State → Option Write → Option Deed
next_deed names state None = None
next_deed names state (Some write) = deed_told names state write
