use Rattle.std.proofs.Common.{◌∙◌, ap, arith}
use Rattle.std.specs.Prelude.{Some}
use Rattle.json.specs.Value.{value_view}
use Rattle.json.proofs.Trees.{get_item_past, get_item_within}
use Rattle.nft_rulesets.proofs.looks.item_at.Goals as goal

pub returns-then-place-all : goal.returns-then-place-all
returns-then-place-all c = ap (λ v. Some (value_view v)) c.index-all-place.is ∙ get_item_within c.args.all.now c.args.place c.index-all-place.result (omega arith)

pub returns : goal.returns
returns c = get_item_past c.args.all.now c.args.place (omega arith)
