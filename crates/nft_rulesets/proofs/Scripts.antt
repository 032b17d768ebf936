-- The script of a ruleset, item by item.
use Rattle.std.proofs.Common.{◌≡◌, ℕ, Bool, false, List, ◌++◌, sym, ap, ◌∙◌, subst, append_assoc}
use Rattle.json.specs.Json.{Items}
use Rattle.import_lines.specs.Import.{ImportedScript, StoppedAt, onto_script}
use Rattle.script_runs.specs.declared.Status.TheVariants as status
use Rattle.json_routes.specs.Items.{left_out_items}
use Rattle.json_routes.specs.Texts.{IsScriptOf, status_of}
use Rattle.written_chains.specs.declared.writing.ChainRule.{ChainRule}
use Rattle.nft_rulesets.specs.declared.asked.Asked.{Asked}
use Rattle.nft_rulesets.specs.Items.{IsListed, end_by, items_end, list_of}

-- ---- all items

-- ---- behind all items

-- or why there is none
pub unlisted-end : (asked : Asked) (all : Items) (rules : List ChainRule) (number left_out : ℕ) (old mid new : List ℕ) → mid ≡ old ++ left_out_items left_out → IsListed false (list_of asked all rules) mid new
    → IsScriptOf (onto_script old (items_end asked all rules number left_out)) new status.Script
unlisted-end asked all rules number left_out old mid new put listed =
    let is : items_end asked all rules number left_out ≡ record { text = left_out_items left_out ++ listed.0; last = StoppedAt number } = ap (end_by number left_out) listed.1 in (
      listed.2 ∙ ap (λ l. l ++ listed.0) put ∙ append_assoc old (left_out_items left_out) listed.0 ∙ sym (ap (λ (s : ImportedScript). old ++ s.text) is),
      sym (ap (λ (s : ImportedScript). status_of s.last) is),
    )

pub unlisted-by : (asked : Asked) (all : Items) (rules given : List ChainRule) (number left_out : ℕ) (old mid new : List ℕ) (listed : Bool) → listed ≡ false → given ≡ rules
    → mid ≡ old ++ left_out_items left_out → IsListed listed (list_of asked all given) mid new
    → IsScriptOf (onto_script old (items_end asked all rules number left_out)) new status.Script
unlisted-by asked all rules given number left_out old mid new listed is same put made =
    unlisted-end asked all rules number left_out old mid new put
    (subst (λ (b : Bool). IsListed b (list_of asked all rules) mid new) is (subst (λ (l : List ChainRule). IsListed listed (list_of asked all l) mid new) same made))
