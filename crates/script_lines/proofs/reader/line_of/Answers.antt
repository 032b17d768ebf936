use Rattle.std.proofs.Common.{◌∙◌, length}
use Rattle.std.proofs.lemmas.List.{drop-replicate}
use Rattle.script_lines.proofs.reader.line_of.Goals as goal

pub returns-clause-rest : goal.returns-clause-rest
returns-clause-rest c = c.put_front.ensures.rest ∙ drop-replicate (length c.args.text.now) 512 0
