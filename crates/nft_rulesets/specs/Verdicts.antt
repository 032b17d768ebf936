-- What becomes of packets: verdicts, and maps that have one for each value.
use Rattle.std.specs.Prelude.{◌≡◌, ℕ, Bool, true, false, not, ◌&&◌, ◌||◌, Result, Ok, Err, Option, Some, None, List, [], ◌∷◌, ◌++◌, map, codes, if◌then◌else◌}
use Rattle.std.specs.Str.{bytes_eq}
use Rattle.rule_model.specs.declared.IpVersion.{IpVersion}
use Rattle.json.specs.Find.{as_array, get}
use Rattle.json.specs.Json.{Json, Items, no_items, item}
use Rattle.written_chains.specs.declared.meets.Tests.{Tests}
use Rattle.written_chains.specs.declared.writing.ChainRule.{ChainRule}
use Rattle.written_chains.specs.declared.writing.Target.{Target}
use Rattle.written_chains.specs.declared.writing.Target.TheVariants as target
use Rattle.nft_rulesets.specs.declared.asked.Asked.{Asked}
use Rattle.nft_rulesets.specs.declared.fields.Field.{Field}
use Rattle.nft_rulesets.specs.declared.fields.Field.TheVariants as field
use Rattle.nft_rulesets.specs.declared.verdicts.Verdict.{Verdict}
use Rattle.nft_rulesets.specs.declared.verdicts.Verdict.TheVariants as verdict
use Rattle.nft_rulesets.specs.declared.why.Why.{Why}
use Rattle.nft_rulesets.specs.declared.why.Why.TheVariants as why
use Rattle.nft_rulesets.specs.Concats.{concat_at, element_product, parts_in}
use Rattle.nft_rulesets.specs.Defined.{elements, place_of}
use Rattle.nft_rulesets.specs.Looks.{has_members, pair_in, sole, text_at}
use Rattle.nft_rulesets.specs.Matches.{are_absent, field_of, fields_in}
use Rattle.nft_rulesets.specs.Products.{are_met, pair_tests}
use Rattle.nft_rulesets.specs.Values.{element_span, listed_items, name_in, named_items, set_in}

-- ---- a verdict

-- the chain that one leads to
abbrev pub leads_to : Asked → Items → Option (List ℕ) → Option ℕ
leads_to asked all None = None
leads_to asked all (Some name) = place_of asked (codes "chain") name all

abbrev pub jump_to : Option ℕ → Result Verdict Why
jump_to None = Err why.Target
jump_to (Some chain) = Ok (verdict.Jumps chain)

abbrev pub go_to : Option ℕ → Result Verdict Why
go_to None = Err why.Target
go_to (Some chain) = Ok (verdict.Goes chain)

abbrev pub verdict_of : Asked → Items → List ℕ → Json → Result Verdict Why
verdict_of asked all key body =
    if bytes_eq key (codes "accept") then Ok (verdict.Decides true)
    else if bytes_eq key (codes "drop") || bytes_eq key (codes "reject") then Ok (verdict.Decides false)
    else if bytes_eq key (codes "return") then Ok verdict.Returns
    else if bytes_eq key (codes "continue") then Ok verdict.Continues
    else if bytes_eq key (codes "jump") then jump_to (leads_to asked all (text_at (codes "target") body))
    else if bytes_eq key (codes "goto") then go_to (leads_to asked all (text_at (codes "target") body))
    else Err why.Statement

-- ---- the rules of one chain that it is

abbrev pub rule_with : ℕ → Target → Tests → ChainRule
rule_with chain to one = record { chain = chain; tests = one; target = to }

abbrev pub with_target : ℕ → List Tests → Target → List ChainRule
with_target chain tests to = map (rule_with chain to) tests

-- A packet that goes to another chain doesn't come back: where it leaves that one, it leaves this one too.
abbrev pub verdict_rules : ℕ → List Tests → Verdict → List ChainRule
verdict_rules chain tests (verdict.Decides permits) = with_target chain tests (target.Decides permits)
verdict_rules chain tests verdict.Returns = with_target chain tests target.Returns
verdict_rules chain tests (verdict.Jumps callee) = with_target chain tests (target.Jumps callee)
verdict_rules chain tests (verdict.Goes callee) = with_target chain tests (target.Jumps callee) ++ with_target chain tests target.Returns
verdict_rules chain tests verdict.Continues = []

abbrev pub decided : ℕ → List Tests → Result Verdict Why → Result (List ChainRule) Why
decided chain tests (Ok found) = Ok (verdict_rules chain tests found)
decided chain tests (Err reason) = Err reason

-- rules were put behind others, or it is known why not
abbrev pub ArePut : Result (Unit {0}) Why → Result (List ChainRule) Why → List ChainRule → List ChainRule → Type 0
ArePut (Ok done) found old new = (rules : List ChainRule) × (found ≡ Ok rules) × (new ≡ old ++ rules)
ArePut (Err reason) found old new = found ≡ Err reason

-- ---- a map

abbrev pub pair_decided : Asked → Items → ℕ → List ℕ → Json → Result (List Tests) Why → Result (List ChainRule) Why
pair_decided asked all chain key body (Ok tests) = decided chain tests (verdict_of asked all key body)
pair_decided asked all chain key body (Err reason) = Err reason

abbrev pub sole_decided : Asked → Items → ℕ → List Tests → Field → Json → Option (List ℕ × Json) → Result (List ChainRule) Why
sole_decided asked all chain tests tested value None = Err why.Values
sole_decided asked all chain tests tested value (Some (key, body)) =
    pair_decided asked all chain key body (pair_tests tests tested (element_span tested asked.version value))

abbrev pub both_decided : Asked → Items → ℕ → List Tests → Field → Option (Json × Json) → Result (List ChainRule) Why
both_decided asked all chain tests tested None = Err why.Values
both_decided asked all chain tests tested (Some (value, to)) = sole_decided asked all chain tests tested value (sole to)

abbrev pub before_rules : Result (List ChainRule) Why → Result (List ChainRule) Why → Result (List ChainRule) Why
before_rules (Err reason) behind = Err reason
before_rules (Ok rules) (Err reason) = Err reason
before_rules (Ok rules) (Ok behind) = Ok (rules ++ behind)

-- the rules of a map's pairs
abbrev pub pairs_decided : Asked → Items → ℕ → List Tests → Field → Items → Result (List ChainRule) Why
pairs_decided asked all chain tests tested no_items = Ok []
pairs_decided asked all chain tests tested (item value items) =
    before_rules (both_decided asked all chain tests tested (pair_in value)) (pairs_decided asked all chain tests tested items)

abbrev pub items_decided : Asked → Items → ℕ → List Tests → Field → Result Items Why → Result (List ChainRule) Why
items_decided asked all chain tests tested (Ok items) = pairs_decided asked all chain tests tested items
items_decided asked all chain tests tested (Err reason) = Err reason

-- the pairs of a map that has a name, or that stands here
abbrev pub plain_pairs : Option Json → Result Items Why
plain_pairs None = Err why.Values
plain_pairs (Some body) = listed_items (as_array body)

abbrev pub pairs_by : Asked → Items → Json → Option (List ℕ) → Result Items Why
pairs_by asked all map_value None = plain_pairs (set_in (sole map_value))
pairs_by asked all map_value (Some name) = named_items (elements asked (codes "map") name all)

abbrev pub pairs_of : Asked → Items → Option Json → Result Items Why
pairs_of asked all None = Err why.Values
pairs_of asked all (Some map_value) = pairs_by asked all map_value (name_in map_value)

abbrev pub field_mapped : Asked → Items → ℕ → List Tests → Field → Option Json → Result (List ChainRule) Why
field_mapped asked all chain tests field.Absent pairs = Ok []
field_mapped asked all chain tests field.Version pairs = Err why.Match
field_mapped asked all chain tests field.Source pairs = items_decided asked all chain tests field.Source (pairs_of asked all pairs)
field_mapped asked all chain tests field.Receiver pairs = items_decided asked all chain tests field.Receiver (pairs_of asked all pairs)
field_mapped asked all chain tests field.Protocol pairs = items_decided asked all chain tests field.Protocol (pairs_of asked all pairs)
field_mapped asked all chain tests (field.SourcePort proto) pairs = items_decided asked all chain tests (field.SourcePort proto) (pairs_of asked all pairs)
field_mapped asked all chain tests (field.ReceiverPort proto) pairs = items_decided asked all chain tests (field.ReceiverPort proto) (pairs_of asked all pairs)

abbrev pub mapped_by : Asked → Items → ℕ → List Tests → Json → Result Field Why → Result (List ChainRule) Why
mapped_by asked all chain tests body (Err reason) = Err reason
mapped_by asked all chain tests body (Ok tested) =
    if not (has_members 2 body) then Err why.Operator else field_mapped asked all chain tests tested (get (codes "data") body)

-- ---- a map of fields together

abbrev pub parts_sole : Asked → Items → ℕ → List Tests → List Field → Json → Option (List ℕ × Json) → Result (List ChainRule) Why
parts_sole asked all chain tests fields value None = Err why.Values
parts_sole asked all chain tests fields value (Some (key, body)) =
    pair_decided asked all chain key body (element_product asked.version fields tests value)

abbrev pub parts_decided : Asked → Items → ℕ → List Tests → List Field → Option (Json × Json) → Result (List ChainRule) Why
parts_decided asked all chain tests fields None = Err why.Values
parts_decided asked all chain tests fields (Some (value, to)) = parts_sole asked all chain tests fields value (sole to)

-- the rules of its pairs
abbrev pub parts_pairs : Asked → Items → ℕ → List Tests → List Field → Items → Result (List ChainRule) Why
parts_pairs asked all chain tests fields no_items = Ok []
parts_pairs asked all chain tests fields (item value items) =
    before_rules (parts_decided asked all chain tests fields (pair_in value)) (parts_pairs asked all chain tests fields items)

-- Its pairs may have packets in common: such a packet gets the verdict of the first one that holds it, and where that lets it go
-- on, it goes on behind the map. In a list it would meet the pairs behind that one, so a map in which a pair has packets of
-- one before it that lets them go on isn't said.

-- a verdict lets packets go on to what is behind it, a jump those that come back
abbrev pub lets_on : Verdict → Bool
lets_on (verdict.Decides permits) = false
lets_on verdict.Returns = false
lets_on (verdict.Jumps callee) = true
lets_on (verdict.Goes callee) = false
lets_on verdict.Continues = true

abbrev pub found_lets_on : Result Verdict Why → Bool
found_lets_on (Ok found) = lets_on found
found_lets_on (Err reason) = false

abbrev pub sole_lets_on : Asked → Items → Option (List ℕ × Json) → Bool
sole_lets_on asked all None = false
sole_lets_on asked all (Some (key, body)) = found_lets_on (verdict_of asked all key body)

-- a pair does
abbrev pub pair_lets_on : Asked → Items → Option (Json × Json) → Bool
pair_lets_on asked all None = false
pair_lets_on asked all (Some (value, to)) = sole_lets_on asked all (sole to)

-- the tests of a pair; none, if they aren't said
abbrev pub tests_or_none : Result (List Tests) Why → List Tests
tests_or_none (Ok tests) = tests
tests_or_none (Err reason) = []

abbrev pub pair_held : IpVersion → List Field → List Tests → Option (Json × Json) → List Tests
pair_held version fields tests None = []
pair_held version fields tests (Some (value, to)) = tests_or_none (element_product version fields tests value)

-- the tests of pairs that let packets go on, with those of one more if it does
abbrev pub passed_on : Bool → List Tests → List Tests → List Tests
passed_on true passed held = passed ++ held
passed_on false passed held = passed

-- no pair has packets of these tests, or of a pair before it that lets them go on
abbrev pub are_apart : Asked → Items → List Field → List Tests → List Tests → Items → Bool
are_apart asked all fields tests passed no_items = true
are_apart asked all fields tests passed (item value items) =
    not (are_met passed (pair_held asked.version fields tests (pair_in value)))
    && are_apart asked all fields tests
    (passed_on (pair_lets_on asked all (pair_in value)) passed (pair_held asked.version fields tests (pair_in value))) items

abbrev pub apart_pairs : Asked → Items → ℕ → List Tests → List Field → Items → Result (List ChainRule) Why
apart_pairs asked all chain tests fields items =
    if not (are_apart asked all fields tests [] items) then Err why.Overlap else parts_pairs asked all chain tests fields items

abbrev pub parts_items : Asked → Items → ℕ → List Tests → List Field → Result Items Why → Result (List ChainRule) Why
parts_items asked all chain tests fields (Ok items) = apart_pairs asked all chain tests fields items
parts_items asked all chain tests fields (Err reason) = Err reason

abbrev pub fields_mapped : Asked → Items → ℕ → List Tests → List Field → Option Json → Result (List ChainRule) Why
fields_mapped asked all chain tests fields pairs = if are_absent fields then Ok [] else parts_items asked all chain tests fields (pairs_of asked all pairs)

abbrev pub parts_mapped : Asked → Items → ℕ → List Tests → Json → Result (List Field) Why → Result (List ChainRule) Why
parts_mapped asked all chain tests body (Err reason) = Err reason
parts_mapped asked all chain tests body (Ok fields) =
    if not (has_members 2 body) then Err why.Operator else fields_mapped asked all chain tests fields (get (codes "data") body)

-- ---- by the key of a map

abbrev pub key_mapped : Asked → Items → ℕ → List Tests → Json → Option Json → Result (List ChainRule) Why
key_mapped asked all chain tests body None = mapped_by asked all chain tests body (field_of asked.version (get (codes "key") body))
key_mapped asked all chain tests body (Some parts) = parts_mapped asked all chain tests body (fields_in asked.version (parts_in (Some parts)))

-- The rules of a map, behind these tests.
abbrev pub mapped : Asked → Items → ℕ → List Tests → Json → Result (List ChainRule) Why
mapped asked all chain tests body = key_mapped asked all chain tests body (concat_at (get (codes "key") body))
