use Rattle.std.proofs.Common.{◌∙◌, refl}
use Rattle.rule_model.proofs.CoverRest.{one_more, room_left, all_made, right_ports, blocks_of, rising_of, exact_of}
use Rattle.rule_model.proofs.port_covers.cover.Goals as goal

pub push-requires : goal.push-requires
push-requires c = room_left _ _ _ _ c.loop-behind.invariant c.first_block-block.ensures.range c.first_block-block.ensures.largest

pub loop-behind-preserved : goal.loop-behind-preserved
loop-behind-preserved c =
    rw c.push.ensures
    (one_more _ _ _ _ _ c.loop-behind.invariant c.first_block-block.ensures.range c.first_block-block.ensures.largest c.in-Some.ensures.behind)

pub returns-in-None-clause-list : goal.returns-in-None-clause-list
returns-in-None-clause-list c =
    c.push.ensures ∙ all_made _ _ _ _ c.loop-behind.invariant c.first_block-block.ensures.range c.first_block-block.ensures.largest (c.in-None.ensures.none.0 refl)

pub returns-in-None-clause-blocks : goal.returns-in-None-clause-blocks
returns-in-None-clause-blocks c =
    blocks_of _ _ (returns-in-None-clause-list c) (right_ports _ _ _ c.loop-behind.invariant c.first_block-block.ensures.range)

pub returns-in-None-clause-rising : goal.returns-in-None-clause-rising
returns-in-None-clause-rising c =
    rising_of _ _ (returns-in-None-clause-list c) (right_ports _ _ _ c.loop-behind.invariant c.first_block-block.ensures.range)

pub returns-in-None-clause-exact : goal.returns-in-None-clause-exact
returns-in-None-clause-exact c =
    exact_of _ _ (returns-in-None-clause-list c) (right_ports _ _ _ c.loop-behind.invariant c.first_block-block.ensures.range)
