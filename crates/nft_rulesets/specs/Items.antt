-- What the items of a ruleset come to in a script: each is said, left out by name, or the one at which the script ends.
use Rattle.std.specs.Prelude.{◌≡◌, ℕ, ◌+◌, Bool, true, false, not, ◌&&◌, ◌||◌, Result, Ok, Err, Option, Some, None, is_some, List, [], ◌∷◌, ◌++◌, codes, if◌then◌else◌}
use Rattle.std.specs.Str.{bytes_eq}
use Rattle.rule_model.specs.declared.IpVersion.{IpVersion}
use Rattle.rule_model.specs.declared.IpVersion.TheVariants.{V4, V6}
use Rattle.json.specs.Find.{as_array, get, get_item}
use Rattle.json.specs.Json.{Json, Items, no_items, item}
use Rattle.json_routes.specs.Items.{left_out_item, left_out_items, stops_at_item}
use Rattle.json_routes.specs.Lines.{named_key}
use Rattle.import_lines.specs.declared.Told.{Told}
use Rattle.import_lines.specs.declared.Told.TheVariants as told
use Rattle.import_lines.specs.Import.{LineTold, SaidBy, UnsaidBy, ImportedScript, Whole, StoppedAt, onto_script}
use Rattle.iptables.specs.Values.{any_tests}
use Rattle.iptables.specs.Telling.{list_text}
use Rattle.written_chains.specs.declared.writing.ChainRule.{ChainRule}
use Rattle.written_chains.specs.declared.writing.Line.{Line}
use Rattle.written_chains.specs.declared.writing.Refused.{Refused}
use Rattle.written_chains.specs.declared.writing.Refused.TheVariants.{TooDeep, TooMany}
use Rattle.written_chains.specs.Written.{written_out}
use Rattle.nft_rulesets.specs.declared.asked.Asked.{Asked}
use Rattle.nft_rulesets.specs.declared.why.Why.{Why}
use Rattle.nft_rulesets.specs.declared.why.Why.TheVariants as why
use Rattle.nft_rulesets.specs.Defined.{is_base, is_named, is_ours, place_of}
use Rattle.nft_rulesets.specs.Looks.{sole, text_at, text_is, word_at}
use Rattle.nft_rulesets.specs.Rules.{all_pass, rule_place, rule_read, why_text}

-- what an item comes to: a comment, perhaps none, and the rules of chains that it is; or why it isn't said
abbrev pub ItemRead : Type 0
ItemRead = Result (List ℕ × List ChainRule) (List ℕ)

abbrev pub nothing_said : ItemRead
nothing_said = Ok ([], [])

-- ---- a rule

abbrev pub no_packet : Json → List ℕ
no_packet body = codes "# no packet: " ++ (rule_place body ++ codes "\n")

abbrev pub packet_note : List ChainRule → Json → List ℕ
packet_note [] body = no_packet body
packet_note (rule ∷ rules) body = []

abbrev pub rules_said : Json → Result (List ChainRule) (List ℕ) → ItemRead
rules_said body (Ok rules) = Ok (packet_note rules body, rules)
rules_said body (Err reason) = Err reason

abbrev pub verdict_note : Json → List ℕ
verdict_note body = codes "# no verdict: " ++ (rule_place body ++ codes "\n")

abbrev pub statements_said : Asked → Items → ℕ → Json → Option Items → ItemRead
statements_said asked all chain body None = Err (codes "no statements: " ++ rule_place body)
statements_said asked all chain body (Some statements) =
    if all_pass statements then Ok (verdict_note body, []) else rules_said body (rule_read asked all chain body statements)

abbrev pub listed_statements : Option Json → Option Items
listed_statements None = None
listed_statements (Some value) = as_array value

-- no jump leads to a chain that packets meet without one
abbrev pub chain_said : Asked → Items → Json → Option ℕ → ItemRead
chain_said asked all body None = Err (codes "no chain: " ++ rule_place body)
chain_said asked all body (Some chain) =
    if is_base all chain && not (text_is (codes "chain") body asked.chain.now) then nothing_said
    else statements_said asked all chain body (listed_statements (get (codes "expr") body))

abbrev pub rule_place_of : Asked → Items → Option (List ℕ) → Option ℕ
rule_place_of asked all None = None
rule_place_of asked all (Some name) = place_of asked (codes "chain") name all

abbrev pub rule_said : Asked → Items → Json → ItemRead
rule_said asked all body =
    if is_ours asked (codes "table") body then chain_said asked all body (rule_place_of asked all (text_at (codes "chain") body))
    else nothing_said

-- ---- a chain

abbrev pub policy_named : Option (List ℕ) → Option Bool
policy_named None = None
policy_named (Some text) =
    if bytes_eq text (codes "accept") then Some true else if bytes_eq text (codes "drop") then Some false else None

abbrev pub policy_said : Asked → Option Bool → ItemRead
policy_said asked None = Err (codes "no policy: " ++ named_key asked.chain.now)
policy_said asked (Some policy) = nothing_said

-- packets of a version meet the chains of a table of this family
abbrev pub family_fits : IpVersion → List ℕ → Bool
family_fits V4 family = bytes_eq family (codes "inet") || bytes_eq family (codes "ip")
family_fits V6 family = bytes_eq family (codes "inet") || bytes_eq family (codes "ip6")

abbrev pub type_said : Asked → Json → ItemRead
type_said asked body =
    if not (family_fits asked.version asked.family.now) then Err (codes "another version: " ++ named_key asked.family.now)
    else if text_is (codes "type") body (codes "filter") then policy_said asked (policy_named (text_at (codes "policy") body))
    else Err (codes "type of chain: " ++ word_at (codes "type") body)

-- the one that is asked for has a list where each packet meets it, and gets a policy that is known
abbrev pub chain_item : Asked → Json → ItemRead
chain_item asked body = if is_named asked asked.chain.now (Some body) then type_said asked body else nothing_said

-- ---- a table

abbrev pub table_note : Json → List ℕ
table_note body =
    codes "# another table: " ++ (word_at (codes "family") body ++ (codes " " ++ (word_at (codes "name") body ++ codes "\n")))

-- packets may not meet the chains of a table with flags, as of one at rest (`dormant`)
abbrev pub own_table : Json → ItemRead
own_table body = if is_some (get (codes "flags") body) then Err (codes "flags of table: " ++ word_at (codes "name") body) else nothing_said

abbrev pub table_said : Asked → Json → ItemRead
table_said asked body = if is_ours asked (codes "name") body then own_table body else Ok (table_note body, [])

-- ---- an item

-- what says nothing of packets before a rule names it, and then is looked for
abbrev pub is_definition : List ℕ → Bool
is_definition key =
    bytes_eq key (codes "metainfo") || bytes_eq key (codes "set") || bytes_eq key (codes "map") || bytes_eq key (codes "counter")
    || bytes_eq key (codes "quota") || bytes_eq key (codes "limit") || bytes_eq key (codes "flowtable") || bytes_eq key (codes "ct helper")
    || bytes_eq key (codes "ct timeout") || bytes_eq key (codes "ct expectation")

abbrev pub item_by_key : Asked → Items → List ℕ → Json → ItemRead
item_by_key asked all key body =
    if is_definition key then nothing_said
    else if bytes_eq key (codes "table") then table_said asked body
    else if bytes_eq key (codes "chain") then chain_item asked body
    else if bytes_eq key (codes "rule") then rule_said asked all body
    else Err (codes "unknown item: " ++ named_key key)

abbrev pub item_by : Asked → Items → Option (List ℕ × Json) → ItemRead
item_by asked all None = Err (codes "no item")
item_by asked all (Some (key, body)) = item_by_key asked all key body

-- What an item comes to, by all of them.
abbrev pub item_read : Asked → Items → Json → ItemRead
item_read asked all value = item_by asked all (sole value)

abbrev pub told_of : ItemRead → LineTold
told_of (Ok (comment, rules)) = SaidBy comment
told_of (Err reason) = UnsaidBy reason

abbrev pub rules_of : ItemRead → List ChainRule
rules_of (Ok (comment, rules)) = rules
rules_of (Err reason) = []

-- what the code answers of an item: a comment and rules behind others, or why it isn't said
abbrev pub IsItem : Told → ItemRead → List ℕ → List ChainRule → List ChainRule → Type 0
IsItem told.Said read text old new = (rules : List ChainRule) × (read ≡ Ok (text, rules)) × (new ≡ old ++ rules)
IsItem told.Unsaid read text old new = (read ≡ Err text) × (new ≡ old)

-- ---- the list

abbrev pub refused_why : Refused → Why
refused_why TooDeep = why.Deep
refused_why TooMany = why.Many

abbrev pub no_list : List ℕ → List ℕ → List ℕ
no_list reason name = codes "no list: " ++ (reason ++ (codes ": " ++ (named_key name ++ codes "\n")))

abbrev pub list_or : Asked → Bool → Result (List Line) Refused → Result (List ℕ) (List ℕ)
list_or asked policy (Ok lines) = Ok (list_text asked.version policy any_tests asked.older.now lines ++ codes "commit\n")
list_or asked policy (Err refused) = Err (no_list (why_text (refused_why refused)) asked.chain.now)

abbrev pub no_chain : Asked → Result (List ℕ) (List ℕ)
no_chain asked = Err (no_list (codes "no chain") asked.chain.now)

abbrev pub policy_list : Asked → List ChainRule → ℕ → Option Bool → Result (List ℕ) (List ℕ)
policy_list asked rules chain None = no_chain asked
policy_list asked rules chain (Some policy) = list_or asked policy (written_out 4095 rules 32 chain)

-- the policy of a chain that may be asked for
abbrev pub policy_in : Json → Option Bool
policy_in body = if text_is (codes "type") body (codes "filter") then policy_named (text_at (codes "policy") body) else None

abbrev pub policy_of_chain : Option Json → Option Bool
policy_of_chain None = None
policy_of_chain (Some body) = policy_in body

abbrev pub policy_at : Option Json → Option Bool
policy_at None = None
policy_at (Some value) = policy_of_chain (get (codes "chain") value)

abbrev pub placed_list : Asked → Items → List ChainRule → Option ℕ → Result (List ℕ) (List ℕ)
placed_list asked all rules None = no_chain asked
placed_list asked all rules (Some chain) = policy_list asked rules chain (policy_at (get_item chain all))

-- The lines of the chain that is asked for, by the rules of all of them, and their commit; or why there are none.
abbrev pub list_of : Asked → Items → List ChainRule → Result (List ℕ) (List ℕ)
list_of asked all rules =
    if not (family_fits asked.version asked.family.now) then no_chain asked else placed_list asked all rules (place_of asked (codes "chain") asked.chain.now all)

-- what the code answers of it: it was put behind a text, or why there is none
abbrev pub IsListed : Bool → Result (List ℕ) (List ℕ) → List ℕ → List ℕ → Type 0
IsListed true found old new = (text : List ℕ) × (found ≡ Ok text) × (new ≡ old ++ text)
IsListed false found old new = (reason : List ℕ) × (found ≡ Err reason) × (new ≡ old ++ reason)

-- ---- all items

abbrev pub end_by : ℕ → ℕ → Result (List ℕ) (List ℕ) → ImportedScript
end_by number left_out (Ok text) = record { text = left_out_items left_out ++ text; last = Whole left_out }
end_by number left_out (Err reason) = record { text = left_out_items left_out ++ reason; last = StoppedAt number }

-- a script behind all items, so many of them left out
abbrev pub items_end : Asked → Items → List ChainRule → ℕ → ℕ → ImportedScript
items_end asked all rules number left_out = end_by number left_out (list_of asked all rules)

-- what an item has in the script, before what those behind it have: where it is said, and where it is left out
abbrev pub item_script : Bool → ℕ → LineTold → ImportedScript → ImportedScript → ImportedScript
item_script leave_out number (SaidBy bytes) said passed = onto_script bytes said
item_script leave_out number (UnsaidBy reason) said passed =
    if leave_out then onto_script (left_out_item number reason) passed else stops_at_item number reason

-- The script of some items, the first of this number, by all of them, the rules before them and how many are left out by then.
abbrev pub items_script : Asked → Items → Bool → List ChainRule → ℕ → ℕ → Items → ImportedScript
items_script asked all leave_out rules number left_out no_items = items_end asked all rules number left_out
items_script asked all leave_out rules number left_out (item value items) =
    item_script leave_out number (told_of (item_read asked all value))
    (items_script asked all leave_out (rules ++ rules_of (item_read asked all value)) (number + 1) left_out items)
    (items_script asked all leave_out rules (number + 1) (left_out + 1) items)

-- where the script stands between two items
pub record Standing : Type 0 where
  pub rules : List ChainRule
  pub leave_out : Bool
  pub number : ℕ
  pub left_out : ℕ

abbrev pub first_standing : Bool → Standing
first_standing leave_out = record { rules = []; leave_out = leave_out; number = 1; left_out = 0 }

-- what the items to come have
abbrev pub script_at : Asked → Items → Standing → Items → ImportedScript
script_at asked all at items = items_script asked all at.leave_out at.rules at.number at.left_out items

-- behind an item the script goes on, or it ended there
abbrev pub GoesBy : Bool → Asked → Items → ImportedScript → List ℕ → Standing → Items → Type 0
GoesBy true asked all script written at items = script ≡ onto_script written (script_at asked all at items)
GoesBy false asked all script written at items = script ≡ record { text = written; last = StoppedAt at.number }
