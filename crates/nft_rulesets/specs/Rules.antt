-- A rule, statement by statement.
use Rattle.std.specs.Prelude.{ℕ, Bool, true, false, ◌&&◌, ◌||◌, Result, Ok, Err, Option, Some, None, is_none, List, [], ◌∷◌, ◌++◌, codes, if◌then◌else◌}
use Rattle.std.specs.Str.{bytes_eq}
use Rattle.rule_model.specs.declared.IpVersion.{IpVersion}
use Rattle.rule_model.specs.declared.IpVersion.TheVariants.{V4, V6}
use Rattle.json.specs.Find.{get}
use Rattle.json.specs.Json.{Json, Items, no_items, item}
use Rattle.json_routes.specs.Lines.{named_key}
use Rattle.iptables.specs.Values.{any_tests}
use Rattle.written_chains.specs.declared.meets.Tests.{Tests}
use Rattle.written_chains.specs.declared.writing.ChainRule.{ChainRule}
use Rattle.nft_rulesets.specs.declared.asked.Asked.{Asked}
use Rattle.nft_rulesets.specs.declared.why.Why.{Why}
use Rattle.nft_rulesets.specs.declared.why.Why.TheVariants as why
use Rattle.nft_rulesets.specs.Looks.{sole, text_at, word_at, word_in}
use Rattle.nft_rulesets.specs.Matches.{is_version, matched}
use Rattle.nft_rulesets.specs.Products.{meets_all, proto_test}
use Rattle.nft_rulesets.specs.Verdicts.{decided, mapped, verdict_of}

-- ---- whether it decides anything

abbrev pub is_passing : List ℕ → Bool
is_passing key =
    bytes_eq key (codes "match") || bytes_eq key (codes "counter") || bytes_eq key (codes "log") || bytes_eq key (codes "limit")
    || bytes_eq key (codes "quota") || bytes_eq key (codes "continue")

abbrev pub passes_by : Option (List ℕ × Json) → Bool
passes_by None = false
passes_by (Some (key, body)) = is_passing key

-- each of its statements leaves packets to the rules behind it
abbrev pub all_pass : Items → Bool
all_pass no_items = true
all_pass (item value items) = passes_by (sole value) && all_pass items

-- ---- its statements

-- the tests so far, or the rules that a verdict made of them
pub record ReadSoFar : Type 0 where
  pub tests : List Tests
  pub rules : List ChainRule
  pub ended : Bool

abbrev pub first_reading : ReadSoFar
first_reading = record { tests = any_tests ∷ []; rules = []; ended = false }

abbrev pub with_tests : ReadSoFar → Result (List Tests) Why → Result ReadSoFar Why
with_tests reading (Ok tests) = Ok (record reading { tests = tests })
with_tests reading (Err reason) = Err reason

abbrev pub with_rules : ReadSoFar → Result (List ChainRule) Why → Result ReadSoFar Why
with_rules reading (Ok rules) = Ok (record reading { rules = reading.rules ++ rules; ended = true })
with_rules reading (Err reason) = Err reason

-- A message of one version of IP, or of TCP, answers the packets of that alone, and nft may print the rule without the comparison that it has for it.
abbrev pub answered : IpVersion → Option (List ℕ) → List Tests → List Tests
answered version None tests = tests
answered version (Some kind) tests =
    if bytes_eq kind (codes "icmp") then (if is_version version V4 then tests else [])
    else if bytes_eq kind (codes "icmpv6") then (if is_version version V6 then tests else [])
    else if bytes_eq kind (codes "tcp reset") then meets_all tests (proto_test 6 ∷ [])
    else tests

-- the tests that hold with a verdict, which a rejection has
abbrev pub verdict_tests : Asked → List Tests → List ℕ → Json → List Tests
verdict_tests asked tests key body = if bytes_eq key (codes "reject") then answered asked.version (text_at (codes "type") body) tests else tests

abbrev pub with_verdict : Asked → Items → ℕ → ReadSoFar → List ℕ → Json → Result ReadSoFar Why
with_verdict asked all chain reading key body =
    with_rules (record reading { tests = verdict_tests asked reading.tests key body })
    (decided chain (verdict_tests asked reading.tests key body) (verdict_of asked all key body))

-- Of counters that a map names the map has those of some packets, and the others leave the rule.
abbrev pub only_counts : List ℕ → Json → Bool
only_counts key body = bytes_eq key (codes "log") || (bytes_eq key (codes "counter") && is_none (get (codes "map") body))

abbrev pub by_key : Asked → Items → ℕ → ReadSoFar → List ℕ → Json → Result ReadSoFar Why
by_key asked all chain reading key body =
    if bytes_eq key (codes "match") then with_tests reading (matched asked all reading.tests body)
    else if bytes_eq key (codes "vmap") then with_rules reading (mapped asked all chain reading.tests body)
    else if only_counts key body then Ok reading
    else with_verdict asked all chain reading key body

abbrev pub by_sole : Asked → Items → ℕ → ReadSoFar → Option (List ℕ × Json) → Result ReadSoFar Why
by_sole asked all chain reading None = Err why.Statement
by_sole asked all chain reading (Some (key, body)) = if reading.ended then Err why.Behind else by_key asked all chain reading key body

-- what is read behind a statement
abbrev pub statement_read : Asked → Items → ℕ → ReadSoFar → Json → Result ReadSoFar Why
statement_read asked all chain reading value = by_sole asked all chain reading (sole value)

-- ---- why one isn't said

abbrev pub detail_text : Option (List ℕ) → List ℕ
detail_text None = []
detail_text (Some text) = codes " " ++ named_key text

-- a text that tells more of what is tested
abbrev pub detail : List ℕ → Json → List ℕ
detail key body = detail_text (word_in (get key body))

abbrev pub left_words : Option (List ℕ × Json) → List ℕ
left_words None = codes "?"
left_words (Some (kind, body)) = named_key kind ++ (detail (codes "key") body ++ (detail (codes "protocol") body ++ detail (codes "field") body))

abbrev pub side_words : List ℕ → Option Json → List ℕ
side_words key None = named_key key
side_words key (Some left) = left_words (sole left)

abbrev pub words_by : List ℕ → Json → List ℕ
words_by key body =
    if bytes_eq key (codes "match") then side_words key (get (codes "left") body)
    else if bytes_eq key (codes "vmap") then side_words key (get (codes "key") body)
    else named_key key

-- what a comment names a statement by
abbrev pub statement_words : Option (List ℕ × Json) → List ℕ
statement_words None = codes "?"
statement_words (Some (key, body)) = words_by key body

abbrev pub why_text : Why → List ℕ
why_text why.Statement = codes "statement"
why_text why.State = codes "conntrack state"
why_text why.Match = codes "match"
why_text why.Operator = codes "operator"
why_text why.Values = codes "no values"
why_text why.Set = codes "no set of values"
why_text why.Ports = codes "no ports"
why_text why.Behind = codes "behind a verdict"
why_text why.Target = codes "target"
why_text why.Overlap = codes "overlapping pairs"
why_text why.Many = codes "too many lines"
why_text why.Deep = codes "jumps too deep"

-- where a rule stands
abbrev pub rule_place : Json → List ℕ
rule_place body = codes "handle " ++ (word_at (codes "handle") body ++ (codes " of " ++ word_at (codes "chain") body))

abbrev pub unsaid_text : Why → Json → Json → List ℕ
unsaid_text reason value body = why_text reason ++ (codes ": " ++ (statement_words (sole value) ++ (codes ", " ++ rule_place body)))

-- ---- all of them

abbrev pub read_on : (ReadSoFar → Result (List ChainRule) (List ℕ)) → Json → Json → Result ReadSoFar Why → Result (List ChainRule) (List ℕ)
read_on behind value body (Ok reading) = behind reading
read_on behind value body (Err reason) = Err (unsaid_text reason value body)

abbrev pub read_from : Asked → Items → ℕ → Json → ReadSoFar → Items → Result (List ChainRule) (List ℕ)
read_from asked all chain body reading no_items = Ok reading.rules
read_from asked all chain body reading (item value items) =
    read_on (λ next. read_from asked all chain body next items) value body (statement_read asked all chain reading value)

-- The rules that a rule of this chain is, by its statements; or why it isn't said.
abbrev pub rule_read : Asked → Items → ℕ → Json → Items → Result (List ChainRule) (List ℕ)
rule_read asked all chain body statements = read_from asked all chain body first_reading statements
