use Rattle.std.proofs.Common.{rules, ◌≡◌, ◌∙◌, length, vec_len, arith}
use Rattle.std.proofs.lemmas.Grind.{common_steps}
use Rattle.nft_rulesets.proofs.Looking.{not-pair}
use Rattle.nft_rulesets.proofs.looks.pair_in.Goals as goal

pub returns-else-len-eq2 : goal.returns-else-len-eq2
returns-else-len-eq2 c =
    let all : vec_len c.in-Array.items ≡ length c.in-Array.items.items = first_of (search rules, grind (arith, common_steps)) in
    not-pair c.args.value.now c.in-Array.items c.len.result c.in-Array.is (c.len.ensures ∙ all) c.if-len-eq2.false
