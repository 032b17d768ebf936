use Rattle.std.proofs.Common.{ap, ◌∙◌}
use Rattle.ip_routes.specs.Telling.{after_behind}
use Rattle.ip_routes.proofs.Ways.{told-new, told-kept, told-unsaid}
use Rattle.ip_routes.proofs.format.IpRoutes.tell.Goals as goal

pub returns-in_ok-add-in-New-clause-told : goal.returns-in_ok-add-in-New-clause-told
returns-in_ok-add-in-New-clause-told c = told-new c.args.self.now c.args.route.now _ _ _ c.in-New.ensures c.in_ok-add-in-New.ensures.added c.requires

pub returns-in_ok-add-in-New-clause-said : goal.returns-in_ok-add-in-New-clause-said
returns-in_ok-add-in-New-clause-said c = λ _. c.in_ok-add-in-New.ensures.known ∙ ap (λ b. after_behind c.args.self.now c.args.route.now b) c.in-New.ensures

pub returns-in_ok-put_kept-in-Kept-clause-told : goal.returns-in_ok-put_kept-in-Kept-clause-told
returns-in_ok-put_kept-in-Kept-clause-told c = told-kept c.args.self.now c.args.route.now _ _ _ c.in-Kept.ensures c.in_ok-put_kept-in-Kept.ensures c.requires

pub returns-in_ok-put_kept-in-Kept-clause-said : goal.returns-in_ok-put_kept-in-Kept-clause-said
returns-in_ok-put_kept-in-Kept-clause-said c = λ _. ap (λ b. after_behind c.args.self.now c.args.route.now b) c.in-Kept.ensures

pub returns-in_ok-put_why-in-Unsaid-clause-told : goal.returns-in_ok-put_why-in-Unsaid-clause-told
returns-in_ok-put_why-in-Unsaid-clause-told c = told-unsaid c.args.self.now c.args.route.now _ _ _ _ _ c.in-Unsaid.ensures c.text.ensures c.in_ok-put_why-in-Unsaid.ensures c.requires
