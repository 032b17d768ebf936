-- How the process ends by a status.
use Rattle.std.specs.Prelude.{ℕ}
use Rattle.script_runs.specs.declared.Status.{Status}
use Rattle.script_runs.specs.declared.Status.TheVariants.{Done, Refused, Script, ReadFault, WriteFault, DeviceFault, Memory, Usage}

-- the exit code of a status
abbrev pub exit_code : Status → ℕ
exit_code Done = 0
exit_code Refused = 1
exit_code Script = 2
exit_code ReadFault = 3
exit_code WriteFault = 4
exit_code DeviceFault = 5
exit_code Memory = 6
exit_code Usage = 64
