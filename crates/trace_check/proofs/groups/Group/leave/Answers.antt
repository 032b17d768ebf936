use Rattle.std.proofs.Common.{rules, ap, ◌∙◌}
use Rattle.std.specs.Prelude.{◌==◌, filter, not}
use Rattle.std.proofs.lemmas.Fn.{filter_same}
use Rattle.trace_check.proofs.groups.Group.leave.Goals as goal

pub returns : goal.returns
returns c = filter_same _ _ _ (λ slot stays after called. search rules) _ _ c.retain.ensures.filtered ∙ ap (filter (λ slot. not (slot == c.args.at))) c.self.view_is
