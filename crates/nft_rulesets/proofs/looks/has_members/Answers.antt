use Rattle.std.proofs.Common.{rules, ◌≡◌, ◌∙◌, length, vec_len, arith}
use Rattle.std.proofs.lemmas.Grind.{common_steps}
use Rattle.nft_rulesets.proofs.Looking.{has-of}
use Rattle.nft_rulesets.proofs.looks.has_members.Goals as goal

pub returns-in-Object : goal.returns-in-Object
returns-in-Object c =
    let all : vec_len c.in-Object.members ≡ length c.in-Object.members.items = first_of (search rules, grind (arith, common_steps)) in
    has-of c.args.value.now c.in-Object.members c.len.result c.args.count c.in-Object.is (c.len.ensures ∙ all)
