use Rattle.std.proofs.Common.{sym, subst}
use Rattle.std.specs.Prelude.{IfOk}
use Rattle.json.specs.Value.{items_view}
use Rattle.json_routes.specs.Items.{Standing, script_at}
use Rattle.json_routes.specs.Texts.{IsScriptOf}
use Rattle.json_routes.proofs.Texts.{items-told}
use Rattle.json_routes.proofs.text.tell_text.Goals as goal

pub returns-in-Some : goal.returns-in-Some
returns-in-Some c =
    let script =
    subst (λ (at : Standing). IfOk c.tell_all.result (λ answer. IsScriptOf (script_at at (items_view c.in-Some.items.now)) c.tell_all.new.script.items answer))
    c.new.ensures c.tell_all.ensures in
    items-told c.tell_all.result _ _ _ _ _ (items_view c.in-Some.items.now) c.in-Ok.ensures.ok.0 c.in-Ok.ensures.ok.1 (sym c.in-Some.ensures) script
