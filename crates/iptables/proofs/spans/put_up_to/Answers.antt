use Rattle.std.proofs.Common.{[], ◌∷◌, ◌++◌, ap, sym, ◌∙◌}
use Rattle.iptables.proofs.Pieces.{up-to-last}
use Rattle.iptables.proofs.spans.put_up_to.Goals as goal

pub returns-then-number-last_number : goal.returns-then-number-last_number
returns-then-number-last_number c =
    c.in_ok-push.ensures.items ∙ ap (λ t. c.args.into.now.items ++ t ∷ []) c.any_tests.ensures
    ∙ ap (λ l. c.args.into.now.items ++ l) (sym (up-to-last c.args.side c.args.version c.args.number (c.if-number-last_number.true ∙ c.last_number.ensures)))
