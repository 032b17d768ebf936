use Rattle.std.proofs.Common.{◌∷◌, ap}
use Rattle.kept_numbers.specs.Numbered.{numbered, put_before}
use Rattle.kept_numbers.proofs.numbering.put_mark.Goals as goal

pub returns-in-None-clause-goes : goal.returns-in-None-clause-goes
returns-in-None-clause-goes c = λ marks. ap (λ m. put_before c.args.into.now.items (numbered c.args.at.low c.args.at.wait (m ∷ marks))) c.in-None.is
