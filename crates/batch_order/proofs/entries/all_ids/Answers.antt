use Rattle.std.proofs.Common.{rules, ◌≡◌, [], ◌∷◌, ◌++◌}
use Rattle.batch_order.proofs.ids.Ids.{all_none, all_more}
use Rattle.batch_order.proofs.entries.all_ids.Goals as goal

pub loop-id-init : goal.loop-id-init
loop-id-init c = (rw c.in_ok-ids.ensures.items all_none, search rules)

pub loop-id-preserved : goal.loop-id-preserved
loop-id-preserved c =
    let items : c.push.new.self.items ≡ c.loop-id.ids.items ++ c.loop-id.id ∷ [] = search rules in
    (rw items (all_more c.loop-id.id c.loop-id.ids.items c.loop-id.invariant.0), search (rules, c.loop-id.invariant.1))
