-- What the words of a line say of a route.
use Rattle.std.specs.Prelude.{ℕ, ◌+◌, Bool, false, ◌==◌, nat_le, Result, Ok, Err, Option, Some, None, List, [], ◌∷◌, ◌++◌, codes, length, if◌then◌else◌}
use Rattle.std.specs.List.{list_any}
use Rattle.std.specs.Str.{bytes_eq}
use Rattle.rule_model.specs.declared.IpVersion.{IpVersion}
use Rattle.rule_model.specs.declared.IpVersion.TheVariants.{V4, V6}
use Rattle.rule_model.specs.AddressBlock.{AddressBlock, any_address}
use Rattle.line_words.specs.Kinds.{result_of}
use Rattle.line_words.specs.Notations.{notation_for}
use Rattle.line_words.specs.declared.WordFault.{WordFault}
use Rattle.ip_routes.specs.declared.attributes.RouteKind.{RouteKind}
use Rattle.ip_routes.specs.declared.attributes.RouteKind.TheVariants as kind
use Rattle.ip_routes.specs.declared.attributes.Attribute.{Attribute}
use Rattle.ip_routes.specs.declared.attributes.Attribute.TheVariants as attribute
use Rattle.ip_routes.specs.declared.attributes.Why.{Why}
use Rattle.ip_routes.specs.declared.attributes.Why.TheVariants as why
use Rattle.ip_routes.specs.declared.reading.Expects.{Expects}
use Rattle.ip_routes.specs.declared.reading.Expects.TheVariants as expects
use Rattle.ip_routes.specs.Words.{kind_of, is_another_kind, attribute_in, why_of, is_family}

-- what the words of a line have said so far: whether the route goes, what the next word is to be, the kind of route, its prefix,
-- and as a script has it, its metric, and its next hop
pub record RouteReading : Type 0 where
  pub gone : Bool
  pub expects : Expects
  pub kind : RouteKind
  pub block : AddressBlock
  pub text : List ℕ
  pub metric : ℕ
  pub hop : List ℕ

-- before the first word, of a route that goes or of one that stands
abbrev pub reading_of : Bool → RouteReading
reading_of gone =
    record { gone = gone; expects = expects.Kind; kind = kind.Unicast; block = any_address; text = []; metric = 0; hop = [] }

abbrev pub first_reading : RouteReading
first_reading = reading_of false

-- what is said behind a word, or why the line isn't said
abbrev pub said_or : Result (Unit {0}) Why → RouteReading → Result RouteReading Why
said_or (Ok done) seen = Ok seen
said_or (Err reason) seen = Err reason

-- a prefix as a script has it: `default` by its address and length, an address alone with the length of an address
abbrev pub has_slash : List ℕ → Bool
has_slash word = list_any (λ byte. byte == 47) word

abbrev pub whole_length : IpVersion → List ℕ
whole_length V4 = codes "/32"
whole_length V6 = codes "/128"

abbrev pub missing_length : IpVersion → List ℕ → List ℕ
missing_length version word = if has_slash word then [] else whole_length version

abbrev pub every_address : IpVersion → List ℕ
every_address V4 = codes "0.0.0.0/0"
every_address V6 = codes "::/0"

abbrev pub prefix_text : IpVersion → List ℕ → List ℕ
prefix_text version word =
    if bytes_eq word (codes "default") then every_address version else word ++ missing_length version word

-- a prefix is read where its text has at most 64 bytes
abbrev pub with_block : RouteReading → List ℕ → Result AddressBlock WordFault → Result RouteReading Why
with_block seen text (Ok block) = Ok (record seen { expects = expects.Attribute; block = block; text = text })
with_block seen text (Err fault) = Err why.Prefix

abbrev pub read_prefix : IpVersion → RouteReading → List ℕ → Result RouteReading Why
read_prefix version seen word =
    if nat_le (length (prefix_text version word)) 64
    then with_block seen (prefix_text version word) ((notation_for version).block (prefix_text version word))
    else Err why.Prefix

-- the first word: a kind of route, or the prefix
abbrev pub with_kind : IpVersion → RouteReading → List ℕ → Option RouteKind → Result RouteReading Why
with_kind version seen word None = read_prefix version seen word
with_kind version seen word (Some named) = Ok (record seen { expects = expects.Prefix; kind = named })

abbrev pub read_first : IpVersion → RouteReading → List ℕ → Result RouteReading Why
read_first version seen word = if is_another_kind word then Err why.Kind else with_kind version seen word (kind_of word)

-- bytes of the next hop, which has at most 400
abbrev pub put_bytes : RouteReading → List ℕ → Result RouteReading Why
put_bytes seen bytes =
    if nat_le (length seen.hop + length bytes) 400 then Ok (record seen { hop = seen.hop ++ bytes }) else Err why.LongHop

-- one word more of it, behind a space where it isn't the first
abbrev pub spaced : List ℕ → List ℕ
spaced [] = []
spaced (byte ∷ bytes) = (byte ∷ bytes) ++ 32 ∷ []

abbrev pub put_hop : RouteReading → List ℕ → Result RouteReading Why
put_hop seen word = put_bytes (record seen { hop = spaced seen.hop }) word

abbrev pub expecting : Expects → RouteReading → RouteReading
expecting next seen = record seen { expects = next }

-- a part of the next hop
abbrev pub read_hop_value : RouteReading → List ℕ → Result RouteReading Why
read_hop_value seen word = put_hop (expecting expects.Attribute seen) word

-- behind `via` stands an address, or the name of a version of IP and an address
abbrev pub behind_via : List ℕ → Expects
behind_via word = if is_family word then expects.HopValue else expects.Attribute

abbrev pub read_address : RouteReading → List ℕ → Result RouteReading Why
read_address seen word = put_hop (expecting (behind_via word) seen) word

abbrev pub behind_part : List ℕ → Expects
behind_part word = if bytes_eq word (codes "via") then expects.Address else expects.HopValue

-- a word that says what it is
abbrev pub read_as : RouteReading → List ℕ → Attribute → Result RouteReading Why
read_as seen word attribute.Hop = put_hop seen word
read_as seen word attribute.HopValue = put_hop (expecting (behind_part word) seen) word
read_as seen word attribute.Flag = Ok seen
read_as seen word attribute.Skipped = Ok (expecting expects.Skipped seen)
read_as seen word attribute.Metric = Ok (expecting expects.Metric seen)
read_as seen word attribute.Unsaid = Err (why_of word)

-- a metric, a number of 32 bits
abbrev pub read_metric : RouteReading → Result ℕ WordFault → Result RouteReading Why
read_metric seen (Ok metric) = Ok (record seen { expects = expects.Attribute; metric = metric })
read_metric seen (Err fault) = Err why.Metric

-- a word, by what it is to be
abbrev pub step_as : IpVersion → RouteReading → List ℕ → Expects → Result RouteReading Why
step_as version seen word expects.Kind = read_first version seen word
step_as version seen word expects.Prefix = read_prefix version seen word
step_as version seen word expects.Attribute = read_as seen word (attribute_in version seen.gone word)
step_as version seen word expects.Address = read_address seen word
step_as version seen word expects.HopValue = read_hop_value seen word
step_as version seen word expects.Skipped = Ok (expecting expects.Attribute seen)
step_as version seen word expects.Metric = read_metric seen (result_of word)

abbrev pub step : IpVersion → RouteReading → List ℕ → Result RouteReading Why
step version seen word = step_as version seen word seen.expects

-- a route to a next hop names one
abbrev pub hop_of : RouteKind → List ℕ → Result (Unit {0}) Why
hop_of kind.Unicast hop = if length hop == 0 then Err why.Hop else Ok tt
hop_of kind.Blackhole hop = Ok tt
hop_of kind.Unreachable hop = Ok tt
hop_of kind.Prohibit hop = Ok tt

-- where a line may end
abbrev pub end_as : RouteReading → Expects → Result (Unit {0}) Why
end_as seen expects.Kind = Err why.Prefix
end_as seen expects.Prefix = Err why.Prefix
end_as seen expects.Attribute = hop_of seen.kind seen.hop
end_as seen expects.Address = Err why.Value
end_as seen expects.HopValue = Err why.Value
end_as seen expects.Skipped = Err why.Value
end_as seen expects.Metric = Err why.Value

-- why a line isn't said, and the word
pub record Unsaid : Type 0 where
  pub why : Why
  pub word : List ℕ

-- at the end of the words, of which this was the last
abbrev pub ended_by : RouteReading → List ℕ → Result (Unit {0}) Why → Result RouteReading Unsaid
ended_by seen last (Ok done) = Ok seen
ended_by seen last (Err reason) = Err (record { why = reason; word = last })

-- behind a word
abbrev pub goes_on : (RouteReading → Result RouteReading Unsaid) → List ℕ → Result RouteReading Why → Result RouteReading Unsaid
goes_on behind word (Ok next) = behind next
goes_on behind word (Err reason) = Err (record { why = reason; word = word })

-- the words of a line, from what those before it said, of which this was the last
abbrev pub read_words : IpVersion → RouteReading → List ℕ → List (List ℕ) → Result RouteReading Unsaid
read_words version seen last [] = ended_by seen last (end_as seen seen.expects)
read_words version seen last (word ∷ words) =
    goes_on (λ next. read_words version next word words) word (step version seen word)

-- where the packets of a route go
abbrev pub way_by : List ℕ → RouteKind → List ℕ
way_by hop kind.Unicast = hop
way_by hop kind.Blackhole = codes "blackhole"
way_by hop kind.Unreachable = codes "unreachable"
way_by hop kind.Prohibit = codes "prohibit"

abbrev pub way_of : RouteReading → List ℕ
way_of seen = way_by seen.hop seen.kind
