use Rattle.std.proofs.Common.{subst}
use Rattle.std.specs.Prelude.{IfOk}
use Rattle.fpm_routes.specs.Changes.{message_change}
use Rattle.fpm_routes.specs.Views.{IsRead}
use Rattle.fpm_routes.proofs.changes.first_change.Goals as goal

pub returns : goal.returns
returns c =
    subst (λ k. IfOk c.message_change.result (λ change. IsRead change (message_change c.args.version k c.args.body.now))) c.two_at.ensures c.message_change.ensures
