use Rattle.std.proofs.Common.{sym, ◌∙◌, ap}
use Rattle.std.proofs.lemmas.Result.{IfOk-weaker, on_err_weaker}
use Rattle.overlap_index.specs.declared.ties.Ties.TheVariants as ties
use Rattle.overlap_index.proofs.ties.Ties.enter.Goals as goal

pub insert-requires-clause-small : goal.insert-requires-clause-small
insert-requires-clause-small c = (c.requires c.in-Told.trie c.in-Told.is).0

pub insert-requires-clause-absent : goal.insert-requires-clause-absent
insert-requires-clause-absent c = (c.requires c.in-Told.trie c.in-Told.is).1

pub returns-then-is_route-clause-entered : goal.returns-then-is_route-clause-entered
returns-then-is_route-clause-entered c = IfOk-weaker c.insert.result _ _ (λ done is yes. record {
  before = c.in-Told.trie;
  was_is = c.in-Told.is;
  is = record { right = c.is_route.ensures.right; is = sym c.is_route.ensures.is ∙ c.if-is_route.true };
  now_is = ap ties.Told (is yes);
}) c.insert.ensures.done

pub returns-then-is_route-clause-not : goal.returns-then-is_route-clause-not
returns-then-is_route-clause-not c = IfOk-weaker c.insert.result _ _ (λ done is no. ap ties.Told (is no) ∙ sym c.in-Told.is) c.insert.ensures.same

pub returns-then-is_route-clause-refused : goal.returns-then-is_route-clause-refused
returns-then-is_route-clause-refused c = on_err_weaker c.insert.result (λ is. ap ties.Told is ∙ sym c.in-Told.is) c.insert.ensures.refused
