use Rattle.std.proofs.Common.{refl, rules, arith}
use Rattle.std.proofs.lemmas.Slice.Eq.{text_from_reads}
use Rattle.std.specs.Prelude.{codes}
use Rattle.line_words.proofs.kinds.named_action.Goals as goal

pub returns-in-permit : goal.returns-in-permit
returns-in-permit c =
    let word = text_from_reads c.args.word.now (codes "permit") (omega arith) (search rules) in
    rw word refl
