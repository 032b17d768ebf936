use Rattle.std.proofs.Common.{sym, string_bytes, ◌∙◌}
use Rattle.std.proofs.lemmas.List.{take_rest}
use Rattle.explain_cli.proofs.Named.{mapped-none, mapped-rest}
use Rattle.explain_cli.proofs.top.own_words.Goals as goal

pub returns-then-is_empty : goal.returns-then-is_empty
returns-then-is_empty c = mapped-none string_bytes c.args.words.now (sym c.is_empty.ensures ∙ c.if-is_empty.true)

pub returns : goal.returns
returns c = rw take_rest (mapped-rest string_bytes c.args.words.now)
