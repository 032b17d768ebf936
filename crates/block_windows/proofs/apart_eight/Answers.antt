use Rattle.std.proofs.Common.{◌∙◌, ap₂}
use Rattle.std.specs.Prelude.{◌&&◌, nat_le}
use Rattle.std.proofs.lemmas.Simd.{get_or-replicate}
use Rattle.block_windows.proofs.apart_eight.Goals as goal

pub returns-clause-near : goal.returns-clause-near
returns-clause-near c k l =
    c.either.ensures.zeros k l
    ∙ ap₂ (λ p q. p && q) (c.above.ensures.lanes k l ∙ ap₂ nat_le (c.eight.ensures.lanes k l) (get_or-replicate 8 k c.args.span.last 0 l))
    (c.above-2.ensures.lanes k l ∙ ap₂ nat_le (get_or-replicate 8 k c.args.span.first 0 l) (c.eight-2.ensures.lanes k l))
