-- What a text comes to, and an import, by what their calls answer.
use Rattle.std.proofs.Common.{◌≡◌, ℕ, Bool, Some, List, [], ap, ◌∙◌}
use Rattle.std.specs.Prelude.{IfOk, Ok, Err, Result}
use Rattle.std.specs.Str.{IsUtf8}
use Rattle.json.specs.Json.{Json, Items, document}
use Rattle.script_runs.specs.declared.Status.{Status}
use Rattle.json_routes.specs.Texts.{IsScriptOf}
use Rattle.nft_rulesets.specs.declared.asked.Asked.{Asked}
use Rattle.nft_rulesets.specs.Items.{items_script}
use Rattle.nft_rulesets.specs.Texts.{TextTold, ByItems, items_in}

pub items-told : {E : Type 0} → (r : Result Status E) (asked : Asked) (leave_out : Bool) (text written : List ℕ) (value : Json) (items : Items) → IsUtf8 text → document text ≡ Some value → items_in (Some value) ≡ Some items
    → IfOk r (λ answer. IsScriptOf (items_script asked items leave_out [] 1 0 items) written answer) → IfOk r (λ answer. TextTold asked leave_out text written answer)
items-told (Ok answer) asked leave_out text written value items utf is has script = ByItems items (utf, ap items_in is ∙ has) script
items-told (Err e) asked leave_out text written value items utf is has script = tt
