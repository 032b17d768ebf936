use Rattle.std.proofs.Common.{◌≡◌, ◌+◌, ◌-◌, ◌%◌, ◌^◌, ◌++◌, ℕ, true, false, OnOk, sym, ap, ◌∙◌, subst, append-nil, arith}
use Rattle.std.proofs.lemmas.Nat.{pow_pos}
use Rattle.rule_model.proofs.Multiples.{multiple_after, multiple_lower}
use Rattle.nft_rulesets.specs.Spans.{is_inside, misses}
use Rattle.nft_rulesets.proofs.Holding.{blocks-inside, blocks-missed, half-of, two-halves}
use Rattle.nft_rulesets.proofs.spans.+put_blocks.Goals as goal

pub returns-then-misses : goal.returns-then-misses
returns-then-misses t c =
    let is : misses c.args.past c.args.addr c.args.span.now ≡ true = sym c.misses.ensures ∙ c.if-misses.true in
    sym (ap (λ l. c.args.into.now.items ++ l) (blocks-missed _ _ _ is) ∙ append-nil _)

pub returns-then-is_inside : goal.returns-then-is_inside
returns-then-is_inside t c =
    let missed : misses c.args.past c.args.addr c.args.span.now ≡ false = sym c.misses.ensures ∙ c.if-misses.false in
    let is : is_inside c.args.past c.args.addr c.args.span.now ≡ true = sym c.is_inside.ensures ∙ c.if-is_inside.true in
    subst (λ l. OnOk c.put_block.result (c.put_block.new.into.items ≡ c.args.into.now.items ++ l)) (sym (blocks-inside _ _ _ missed is)) c.put_block.ensures

pub put_blocks-requires : goal.put_blocks-requires
put_blocks-requires t c =
    let twice = half-of c.args.past c.if-past-eq0.false in
    let block = multiple_lower (c.args.past - 1) c.args.past c.args.addr (omega arith) c.requires.block in
    (omega arith, (omega arith, (omega arith, block)))

pub overflow_add-addr : goal.overflow_add-addr
overflow_add-addr t c =
    let twice = half-of c.args.past c.if-past-eq0.false in
    let some = pow_pos (c.args.past - 1) in
    omega arith

pub put_blocks-requires-2 : goal.put_blocks-requires-2
put_blocks-requires-2 t c =
    let twice = half-of c.args.past c.if-past-eq0.false in
    let block = multiple_lower (c.args.past - 1) c.args.past c.args.addr (omega arith) c.requires.block in
    let next = multiple_after (c.args.past - 1) c.args.addr block in
    (omega arith, (omega arith, (omega arith, subst (λ (z : ℕ). (c.args.addr + z) % 2 ^ (c.args.past - 1) ≡ 0) (sym c.size.ensures) next)))

pub returns : goal.returns
returns t c =
    let missed : misses c.args.past c.args.addr c.args.span.now ≡ false = sym c.misses.ensures ∙ c.if-misses.false in
    let is : is_inside c.args.past c.args.addr c.args.span.now ≡ false = sym c.is_inside.ensures ∙ c.if-is_inside.false in
    let both = two-halves c.args.into.now.items _ c.args.past c.args.addr c.size.result c.args.span.now c.if-past-eq0.false missed is c.size.ensures c.in_ok-put_blocks.ensures in
    subst (λ l. OnOk c.put_blocks-2.result (c.put_blocks-2.new.into.items ≡ l)) both c.put_blocks-2.ensures
