use Rattle.std.proofs.Common.{◌++◌, ap, ◌∙◌}
use Rattle.json.specs.Value.{items_view}
use Rattle.json_routes.specs.Items.{left_out_items}
use Rattle.nft_rulesets.specs.Items.{Standing}
use Rattle.nft_rulesets.proofs.Scripts.{unlisted-by}
use Rattle.nft_rulesets.proofs.script.Telling.put_end.Goals as goal

pub returns : goal.returns
returns c =
    unlisted-by c.args.asked.now (items_view c.args.all.now) c.args.self.now.rules c.as_slice.result.now c.args.self.now.number c.args.self.now.left_out c.args.script.now.items c.put_left_out_count.new.into.items c.put_lines.new.into.items
    c.in_ok-put_lines.field-0 c.if-branch.false (c.as_slice.ensures.value ∙ ap (λ (s : Standing). s.rules) c.self.view_is)
    (c.in_ok-put_left_out_count.ensures ∙ ap (λ (s : Standing). c.args.script.now.items ++ left_out_items s.left_out) c.self.view_is) c.in_ok-put_lines.ensures
