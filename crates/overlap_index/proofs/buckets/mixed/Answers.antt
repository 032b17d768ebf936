use Rattle.std.proofs.Common.{◌≡◌, subst}
use Rattle.rule_model.specs.Rank.{high_of, low_of}
use Rattle.rule_model.proofs.Ranks.{high_of-rank_of, low_of-rank_of}
use Rattle.overlap_index.specs.Buckets.{mixed}
use Rattle.overlap_index.proofs.buckets.mixed.Goals as goal

pub returns : goal.returns
unfolding mixed
returns c =
    let r = c.priority.inside in
    let low : low_of c.args.priority ≡ r.low = subst (λ n. low_of n ≡ r.low) c.priority.view_is (low_of-rank_of r.high r.low c.priority.invariant) in
    let high : high_of c.args.priority ≡ r.high = subst (λ n. high_of n ≡ r.high) c.priority.view_is (high_of-rank_of r.high r.low c.priority.invariant) in
    cc
