use Rattle.std.proofs.Common.{◌∙◌, Option, List, drop, take, ap, ap₂}
use Rattle.rule_model.specs.declared.words.Entry.{Entry}
use Rattle.driver_trace.specs.Known.{with_block}
use Rattle.write_judge.proofs.watched.move_slots.Goals as goal

pub returns-clause-moved : goal.returns-clause-moved
returns-clause-moved c =
    c.put_block-2.ensures.block
    ∙ ap₂ (λ (slots block : List (Option Entry)). with_block slots c.args.to block)
    (c.put_block.ensures.block ∙ ap (with_block c.args.slots.now.items c.args.from) (c.as_slice-nothing.ensures.value ∙ c.in_ok-empty.ensures))
    (c.as_slice-held.ensures.value ∙ c.in_ok-block.ensures ∙ ap (λ (slots : List (Option Entry)). take c.args.count (drop c.args.from slots)) c.as_slice-before.ensures.value)
