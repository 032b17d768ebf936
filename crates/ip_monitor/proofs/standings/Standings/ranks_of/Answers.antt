use Rattle.std.proofs.Common.{ap, ◌∙◌}
use Rattle.ip_monitor.specs.Standings.{ranks_of}
use Rattle.ip_monitor.proofs.Lists.{items_of, ranks-looked}
use Rattle.ip_monitor.proofs.standings.Standings.ranks_of.Goals as goal

pub returns-in-Some : goal.returns-in-Some
returns-in-Some c =
    c.as_slice.ensures.value ∙ ap items_of c.in-Some.ensures.value ∙ ranks-looked c.args.prefix _ _ _ c.addr.ensures.value c.len.ensures.value
    ∙ ap (λ s. ranks_of c.args.prefix s) c.self.view_is

pub returns-in-None : goal.returns-in-None
returns-in-None c =
    ap items_of c.in-None.ensures.value ∙ ranks-looked c.args.prefix _ _ _ c.addr.ensures.value c.len.ensures.value
    ∙ ap (λ s. ranks_of c.args.prefix s) c.self.view_is
