use Rattle.std.proofs.Common.{ap, length, arith, ◌∙◌}
use Rattle.std.specs.Prelude.{◌≡◌, ◌+◌, ◌/◌}
use Rattle.std.proofs.lemmas.List.{length-replicate}
use Rattle.std.proofs.lemmas.Result.{IfOk-weaker}
use Rattle.trace_check.proofs.pages.no_bounds.Goals as goal

pub returns : goal.returns
returns c = IfOk-weaker c.from_elem.result _ _ (λ bounds same.
    let size : length bounds.items ≡ c.args.slots / 64 + 1 = ap length (same (λ y h. h)) ∙ length-replicate (c.args.slots / 64 + 1) _ in omega arith) c.from_elem.ensures.items_if_clones_equal
