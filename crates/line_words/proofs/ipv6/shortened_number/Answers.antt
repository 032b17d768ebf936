use Rattle.std.proofs.Common.{◌+◌, Some, arith, sym, ap, ◌∙◌}
use Rattle.line_words.specs.Ipv6.{groups_of}
use Rattle.line_words.proofs.Groups.{parts-fit}
use Rattle.line_words.proofs.JoinedParts.{both-parts, shifted}
use Rattle.line_words.proofs.ipv6.shortened_number.Goals as goal

pub overflow_add-result : goal.overflow_add-result
overflow_add-result c =
    let before = c.in_ok-before.before in
    let behind = c.in_ok-behind.behind in
    let shift = shifted before.count before.value (omega arith) c.in_ok-before.ensures.fits in
    let room = parts-fit before.count before.value behind.count behind.value (omega arith) c.in_ok-before.ensures.fits c.in_ok-behind.ensures.fits in
    record { fits = omega arith }

pub returns : goal.returns
returns c =
    let before = c.in_ok-before.before in
    let behind = c.in_ok-behind.behind in
    let shift = shifted before.count before.value (omega arith) c.in_ok-before.ensures.fits in
    let is = both-parts (groups_of c.args.front.now) (groups_of c.args.back.now) before behind (sym c.in_ok-before.ensures.value) (sym c.in_ok-behind.ensures.value) c.if-before-behind-ge-GROUPS.false in
    ap (λ n. Some (n + behind.value)) shift ∙ sym is
