-- The script that made commands are.
use Rattle.std.specs.Prelude.{ℕ, map}
use Rattle.rule_gen.specs.declared.Made.{Made}
use Rattle.rule_gen.specs.declared.Made.TheVariants as made
use Rattle.rule_gen.specs.Made.{made_commands}
use Rattle.replay.specs.declared.Act.{Act}
use Rattle.replay.specs.declared.Act.TheVariants.{Command, Commit}
use Rattle.script_runs.specs.Script.{Whole}
use Rattle.replay.specs.Script.{NumberedAct, Script}

-- a made command as an act
abbrev pub made_act : Made → Act
made_act (made.Change change) = Command change
made_act made.Commit = Commit

-- such an act comes from no line: those of a script are numbered from 1
abbrev pub made_numbered : Made → NumberedAct
made_numbered command = record { line = 0; act = made_act command }

-- The script of a seed: its commands to their end, of which none is at fault.
abbrev pub made_script : ℕ → ℕ → ℕ → Script
made_script seed rules batches = record { acts = map made_numbered (made_commands seed rules batches); last = Whole }
