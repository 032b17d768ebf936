use Rattle.std.proofs.Common.{◌∙◌, ap}
use Rattle.std.specs.Prelude.{is_none}
use Rattle.std.specs.List.{count_by}
use Rattle.slot_pool.proofs.FreeSlots.{many_free}
use Rattle.slot_pool.proofs.Arrangement.free_count.Goals as goal

pub returns : goal.returns
returns c =
    c.count.ensures ∙ (ap (λ marks. count_by (λ mark. mark) marks) c.self.invariant.3
    ∙ (many_free c.self.inside.slots.items ∙ ap (λ slots. count_by (λ held. is_none held) slots) c.self.view_is))
