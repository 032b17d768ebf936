use Rattle.std.proofs.Common.{sym, subst}
use Rattle.std.specs.Prelude.{IfOk}
use Rattle.json.specs.Value.{items_view}
use Rattle.json_routes.specs.Texts.{IsScriptOf}
use Rattle.nft_rulesets.specs.Items.{Standing, script_at}
use Rattle.nft_rulesets.proofs.Texts.{items-told}
use Rattle.nft_rulesets.proofs.text.tell_text.Goals as goal

pub returns-in-Some : goal.returns-in-Some
returns-in-Some c =
    let items = items_view c.in-Some.items.now in
    let script =
    subst (λ (at : Standing). IfOk c.tell_all.result (λ answer. IsScriptOf (script_at c.args.asked.now items at items) c.tell_all.new.script.items answer))
    c.new.ensures c.tell_all.ensures in
    items-told c.tell_all.result c.args.asked.now c.args.leave_out _ _ _ items c.in-Ok.ensures.ok.0 c.in-Ok.ensures.ok.1 (sym c.in-Some.ensures) script
