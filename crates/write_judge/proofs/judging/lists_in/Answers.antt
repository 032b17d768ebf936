use Rattle.std.proofs.Common.{◌∙◌, List, Option, ap}
use Rattle.slot_order.specs.Order.{first_hit}
use Rattle.rule_model.specs.declared.words.Entry.{Entry}
use Rattle.rule_model.specs.Entry.{hits}
use Rattle.tcam_device.specs.State.{told}
use Rattle.write_judge.proofs.judging.lists_in.Goals as goal

pub returns-clause-device : goal.returns-clause-device
returns-clause-device c = λ word is_word within.
    c.in_ok-from_device.ensures word is_word within ∙ ap (λ (some : List (Option Entry)). told (first_hit hits some word)) c.held-held.ensures
