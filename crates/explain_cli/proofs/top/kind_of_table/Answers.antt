use Rattle.std.proofs.Common.{refl, sym, subst}
use Rattle.tcam_cli.specs.Headline.{Job}
use Rattle.explain_cli.specs.declared.top.Words.TheVariants as read_as
use Rattle.explain_cli.specs.Promise.{IsReadAs}
use Rattle.explain_cli.proofs.top.kind_of_table.Goals as goal

pub returns-in-Ok : goal.returns-in-Ok
returns-in-Ok c = subst (λ (job : Job). IsReadAs job c.kind_asked.result) (sym c.in-Ok.ensures.asked) c.kind_asked.ensures

pub returns-in-Err-Usage : goal.returns-in-Err-Usage
returns-in-Err-Usage c =
    let none = (rw c.in-Err-Usage.field-0-is at c.in-Err-Usage.ensures.usage) refl in
    subst (λ (job : Job). IsReadAs job read_as.Wrong) (sym none) refl
