use Rattle.std.proofs.Common.{◌≡◌, ◌++◌, IfOk, ap, subst, sym, ◌∙◌}
use Rattle.iptables.specs.Values.{from_number, up_to_number}
use Rattle.iptables.proofs.Pieces.{between}
use Rattle.iptables.proofs.spans.span_tests.Goals as goal

pub returns : goal.returns
returns c =
    let from = c.as_slice.ensures.value ∙ c.in_ok-put_from.ensures ∙ ap (λ l. l ++ from_number c.args.side c.args.version c.args.span.first) c.new-tests.ensures.items in
    let up = c.as_slice-2.ensures.value ∙ c.in_ok-put_up_to.ensures ∙ ap (λ l. l ++ up_to_number c.args.side c.args.version c.args.span.last) c.new-others.ensures.items in
    subst (λ l. IfOk c.met_with.result (λ tests. tests.items ≡ l)) (sym (between c.args.side c.args.version c.args.negated c.args.span _ _ c.if-negated.false from up)) c.met_with.ensures
