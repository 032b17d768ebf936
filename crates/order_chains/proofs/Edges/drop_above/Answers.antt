use Rattle.std.proofs.Common.{◌<◌, map, ap, sym, subst, ◌∙◌}
use Rattle.std.specs.Prelude.{is_some, count_by}
use Rattle.order_chains.specs.Ends.{has_lower, without_those}
use Rattle.order_chains.specs.Pairs.{pairs_of}
use Rattle.order_chains.proofs.Held.{fewer_pairs}
use Rattle.order_chains.proofs.Without.{one_gone, none_gone, same_eqb, no_lower}
use Rattle.order_chains.proofs.Edges.drop_above.Goals as goal

pub loop-at-smaller : goal.loop-at-smaller
loop-at-smaller c =
    let h = c.in-Some.ensures.first in
    let l = fewer_pairs c.loop-at.self.places c.in-Some.at (h.0, c.args.id) h.1 in
    subst (λ z. count_by is_some z < pairs_of c.loop-at.self) (sym c.give_up.ensures.gone) l

pub loop-at-preserved : goal.loop-at-preserved
loop-at-preserved c =
    let h = c.in-Some.ensures.first in
    let i = c.loop-at.invariant in
    record {
      gone = ap (map (without_those (has_lower c.args.id))) c.give_up.ensures.gone
          ∙ (one_gone (has_lower c.args.id) c.loop-at.self.places c.in-Some.at (h.0, c.args.id) h.1 (same_eqb c.args.id) ∙ i.gone);
      ids = c.give_up.ensures.ids ∙ i.ids;
    }

pub returns-clause-gone : goal.returns-clause-gone
returns-clause-gone c =
    let n = c.in_default.ensures.none in
    sym (none_gone (has_lower c.args.id) c.loop-at.self.places (no_lower c.args.id c.loop-at.self.places n)) ∙ c.loop-at.invariant.gone
