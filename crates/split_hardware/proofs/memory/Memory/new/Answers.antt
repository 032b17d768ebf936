use Rattle.std.proofs.Common.{rules}
use Rattle.split_hardware.proofs.Kept.{blank_is, blank_results}
use Rattle.split_hardware.proofs.memory.Memory.new.Goals as goal

pub returns : goal.returns
returns c =
    blank_is c.args.slots _ _ _ _ _ _ c.in_ok-slots.ensures (c.in_ok-results.ensures.items_if_clones_equal (λ y h. search rules)) c.new-src.ensures.words c.new-dst.ensures.words
    c.new-src.ensures.spare c.new-dst.ensures.spare

pub invariant_of-result : goal.invariant_of-result
invariant_of-result c = blank_results c.args.slots _ _ c.in_ok-slots.ensures (c.in_ok-results.ensures.items_if_clones_equal (λ y h. search rules))
