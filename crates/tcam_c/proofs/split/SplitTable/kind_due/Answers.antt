use Rattle.std.proofs.Common.{◌∙◌, ap, le_refl}
use Rattle.tcam_c.specs.Split.{kind_of_part}
use Rattle.tcam_c.proofs.split.SplitTable.kind_due.Goals as goal

pub returns-clause-kind : goal.returns-clause-kind
returns-clause-kind c =
    rw (← c.self.view_is) (c.kind_of.ensures ∙ ap kind_of_part (c.next_action.ensures c.self.inside.manager.whole.slots (le_refl _)))

pub returns-clause-serves : goal.returns-clause-serves
returns-clause-serves c = rw (← c.self.view_is) (c.serving.ensures.serves c.self.inside.manager.whole.slots (le_refl _))
