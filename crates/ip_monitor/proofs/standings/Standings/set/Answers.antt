use Rattle.std.proofs.Common.{ap, ◌∙◌}
use Rattle.std.specs.Prelude.{map}
use Rattle.ip_monitor.specs.Standings.{with_ranks}
use Rattle.ip_monitor.proofs.Lists.{standing_of, ranks-set}
use Rattle.ip_monitor.proofs.standings.Standings.set.Goals as goal

pub returns : goal.returns
returns c =
    ap (λ e. map standing_of e) c.in_ok-insert.ensures.entries ∙ ranks-set c.args.prefix c.args.ranks _ _ _ c.addr.ensures.value c.len.ensures.value
    ∙ ap (λ s. with_ranks c.args.prefix c.args.ranks.items s) c.self.view_is
