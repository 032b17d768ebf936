use Rattle.std.proofs.Common.{le_refl, sym, subst}
use Rattle.tcam_c.specs.Split.{IsSplitEnded}
use Rattle.tcam_c.proofs.Parts.{split_ended}
use Rattle.tcam_c.proofs.split.SplitTable.due.Goals as goal

pub returns-clause-due : goal.returns-clause-due
returns-clause-due c = rw (← c.self.view_is) (c.next_action.ensures c.self.inside.manager.whole.slots (le_refl _))

pub returns-clause-ended : goal.returns-clause-ended
returns-clause-ended c =
    let m = c.self.inside.manager in
    rw (← c.self.view_is) (subst (IsSplitEnded m.whole.held) (sym (c.next_action.ensures m.whole.slots (le_refl _))) (split_ended m c.self.invariant.due))

pub returns-clause-serves : goal.returns-clause-serves
returns-clause-serves c =
    let m = c.self.inside.manager in
    let s = c.serving.ensures in
    rw (← c.self.view_is) record {
      serves = s.serves m.whole.slots (le_refl _);
      ahead = s.ahead m.whole.slots (le_refl _);
      live = s.live m.whole.slots (le_refl _);
      timely = s.timely m.whole.slots (le_refl _);
    }
