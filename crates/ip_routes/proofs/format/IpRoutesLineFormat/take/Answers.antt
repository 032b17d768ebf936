use Rattle.std.proofs.Common.{sym, ap, ◌∙◌}
use Rattle.import_lines.specs.Import.{SaidBy}
use Rattle.ip_routes.proofs.Ways.{told-none, after-none, told-words, after-words-some, told-again, after-again}
use Rattle.ip_routes.proofs.format.IpRoutesLineFormat.take.Goals as goal

pub returns-in-None-clause-told : goal.returns-in-None-clause-told
returns-in-None-clause-told c = told-none c.args.self.now c.args.text.now c.in-None.ensures ∙ ap SaidBy (sym c.requires.empty)

pub returns-in-None-clause-said : goal.returns-in-None-clause-said
returns-in-None-clause-said c = λ _. sym (after-none c.args.self.now c.args.text.now c.in-None.ensures)

pub returns-in-Some-clause-told : goal.returns-in-Some-clause-told
returns-in-Some-clause-told c = told-again _ _ _ _ (told-words c.args.self.now c.args.text.now _ _ c.in-Some.ensures) c.take_words.ensures.told

pub returns-in-Some-clause-said : goal.returns-in-Some-clause-said
returns-in-Some-clause-said c = after-again _ _ _ _ (after-words-some c.args.self.now c.args.text.now _ _ c.in-Some.ensures) c.take_words.ensures.said
