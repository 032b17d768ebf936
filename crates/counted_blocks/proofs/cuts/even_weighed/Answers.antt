use Rattle.std.proofs.Common.{◌+◌, ◌∙◌, ℕ, List, [], set, ap, arith}
use Rattle.std.proofs.lemmas.List.{get_or_read}
use Rattle.counted_blocks.specs.declared.weights.Weight.{Weight}
use Rattle.counted_blocks.specs.Counted.{weight_of}
use Rattle.counted_blocks.proofs.Evens.{weights-evened}
use Rattle.counted_blocks.proofs.cuts.even_weighed.Goals as goal

pub returns-clause-weighed : goal.returns-clause-weighed
returns-clause-weighed c =
    let new = c.even.new.blocks.items in
    let left : ℕ = c.args.left in
    let inside = c.requires.loose.within in
    let same = c.even.ensures.same in
    let low = get_or_read new left c.index.result.now (omega arith) c.index.ensures [] in
    let up = get_or_read new (left + 1) c.index-2.result.now (omega arith) c.index-2.ensures [] in
    weights-evened c.args.blocks.now.items new c.args.weights.now.weights c.set-2.new.self.weights left c.weigh-lower.result c.weigh-upper.result inside c.even.ensures.others c.requires.weighed
    (c.weigh-lower.ensures.weight ∙ ap weight_of low) (c.weigh-upper.ensures.weight ∙ ap weight_of up)
    (c.set-2.ensures.weights ∙ ap (λ (all : List Weight). set all (left + 1) c.weigh-upper.result) c.set.ensures.weights)
