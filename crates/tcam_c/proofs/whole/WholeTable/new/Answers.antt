use Rattle.tcam_c.proofs.Due.{fresh_serves}
use Rattle.tcam_c.proofs.whole.WholeTable.new.Goals as goal

pub returns-clause-serves : goal.returns-clause-serves
returns-clause-serves c =
    fresh_serves c.args.slots c.args.mode c.args.placement c.in_ok-manager.manager c.in_ok-manager.ensures.fresh c.in_ok-manager.ensures.on_blank c.serving.ensures.serves
