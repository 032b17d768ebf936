use Rattle.trace_file.proofs.Apart.{versions-apart}
use Rattle.trace_file.proofs.laws.versions_are_apart.Goals as goal

pub returns : goal.returns
returns c = versions-apart
