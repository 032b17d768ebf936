-- What a text of JSON comes to, and an import of one, by what its source gave and what its sink took.
use Rattle.std.specs.Prelude.{◌≡◌, ◌⊎◌, ℕ, Bool, Option, Some, None, List, [], codes}
use Rattle.std.specs.List.{concat}
use Rattle.std.specs.Str.{IsUtf8}
use Rattle.std.specs.Io.KnownBytes.{Appends}
use Rattle.json.specs.Find.{as_array, get}
use Rattle.json.specs.Json.{Json, document, Items}
use Rattle.script_lines.specs.Given.{HasEnd}
use Rattle.script_runs.specs.declared.Status.{Status}
use Rattle.script_runs.specs.declared.Status.TheVariants as status
use Rattle.import_lines.specs.Writes.{ClosesBy}
use Rattle.json_routes.specs.Texts.{IsScriptOf}
use Rattle.nft_rulesets.specs.declared.asked.Asked.{Asked}
use Rattle.nft_rulesets.specs.Items.{items_script}

-- the items of a ruleset stand behind a name
abbrev pub listed : Option Json → Option Items
listed None = None
listed (Some value) = as_array value

abbrev pub items_in : Option Json → Option Items
items_in None = None
items_in (Some value) = listed (get (codes "nftables") value)

-- a text is a ruleset of these items
abbrev pub IsRulesetOf : List ℕ → Items → Type 0
IsRulesetOf text items = IsUtf8 text × (items_in (document text) ≡ Some items)

abbrev pub no_ruleset : List ℕ
no_ruleset = codes "no JSON ruleset\n"

-- What a text comes to: the script of its items, or the line that says that it is no ruleset.
pub data TextTold (asked : Asked) (leave_out : Bool) (text written : List ℕ) (answer : Status) : Type 0 where
  ByItems : (items : Items) → IsRulesetOf text items → IsScriptOf (items_script asked items leave_out [] 1 0 items) written answer → TextTold asked leave_out text written answer
  NoRuleset : ((items : Items) → IsRulesetOf text items → ⊥) → written ≡ no_ruleset → answer ≡ status.Script → TextTold asked leave_out text written answer

-- Where the source was read to its end the whole of what it gave is told: what that comes to was written whole, and the status
-- follows, or a part of it, and the sink failed.
pub record TellsWhole (asked : Asked) (leave_out : Bool) (pieces : List (List ℕ)) (answer : Status) (old new : Option (List ℕ)) : Type 0 where
  pub ended : HasEnd pieces
  pub written : List ℕ
  pub last : Status
  pub told : TextTold asked leave_out (concat pieces) written last
  pub writes : ClosesBy written last answer old new

-- Or nothing was written: the source failed, or memory was wanting.
pub data RulesetBy (asked : Asked) (leave_out : Bool) (pieces : List (List ℕ)) (answer : Status) (old new : Option (List ℕ)) : Type 0 where
  Told : TellsWhole asked leave_out pieces answer old new → RulesetBy asked leave_out pieces answer old new
  Untold : (answer ≡ status.ReadFault) ⊎ (answer ≡ status.Memory) → Appends old new [] → RulesetBy asked leave_out pieces answer old new
