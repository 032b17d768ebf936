use Rattle.std.proofs.Common.{rules, ◌≡◌, ◌∙◌, length, vec_len, arith}
use Rattle.std.proofs.lemmas.Grind.{common_steps}
use Rattle.nft_rulesets.proofs.Looking.{not-sole}
use Rattle.nft_rulesets.proofs.looks.sole.Goals as goal

pub returns-else-len-eq1 : goal.returns-else-len-eq1
returns-else-len-eq1 c =
    let all : vec_len c.in-Object.members ≡ length c.in-Object.members.items = first_of (search rules, grind (arith, common_steps)) in
    not-sole c.args.value.now c.in-Object.members c.len.result c.in-Object.is (c.len.ensures ∙ all) c.if-len-eq1.false
