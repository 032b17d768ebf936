use Rattle.script_lines.proofs.Shifted.{are-the-scripts}
use Rattle.script_lines.proofs.laws.bytes_are_the_scripts.Goals as goal

pub returns : goal.returns
returns c = are-the-scripts
