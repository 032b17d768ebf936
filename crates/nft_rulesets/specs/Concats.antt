-- Fields that are compared together: an element holds what all of its parts hold.
use Rattle.std.specs.Prelude.{ℕ, ◌+◌, nat_le, Result, Ok, Err, Option, Some, None, List, [], ◌∷◌, ◌++◌, length, codes, if◌then◌else◌}
use Rattle.std.specs.Str.{bytes_eq}
use Rattle.rule_model.specs.declared.IpVersion.{IpVersion}
use Rattle.json.specs.Find.{as_array}
use Rattle.json.specs.Json.{Json, Items, no_items, item}
use Rattle.written_chains.specs.declared.meets.Tests.{Tests}
use Rattle.nft_rulesets.specs.declared.fields.Field.{Field}
use Rattle.nft_rulesets.specs.declared.why.Why.{Why}
use Rattle.nft_rulesets.specs.declared.why.Why.TheVariants as why
use Rattle.nft_rulesets.specs.Looks.{sole}
use Rattle.nft_rulesets.specs.Products.{pair_tests}
use Rattle.nft_rulesets.specs.Values.{unwrapped, value_span}

-- ---- what stands together

abbrev pub concat_by : Option (List ℕ × Json) → Option Json
concat_by None = None
concat_by (Some (kind, body)) = if bytes_eq kind (codes "concat") then Some body else None

abbrev pub concat_in : Json → Option Json
concat_in value = concat_by (sole value)

abbrev pub concat_at : Option Json → Option Json
concat_at None = None
concat_at (Some value) = concat_in value

abbrev pub parts_in : Option Json → Option Items
parts_in None = None
parts_in (Some body) = as_array body

-- the parts of an element
abbrev pub element_parts : Json → Option Items
element_parts value = parts_in (concat_at (unwrapped value))

-- ---- an element

abbrev pub held_by : (List Tests → Result (List Tests) Why) → Result (List Tests) Why → Result (List Tests) Why
held_by behind (Ok tests) = behind tests
held_by behind (Err reason) = Err reason

-- the tests of a rule that hold where each of some fields is in the part at its place
abbrev pub parts_product : IpVersion → List Field → List Tests → Items → Result (List Tests) Why
parts_product version [] tests no_items = Ok tests
parts_product version [] tests (item value items) = Err why.Values
parts_product version (tested ∷ fields) tests no_items = Err why.Values
parts_product version (tested ∷ fields) tests (item value items) =
    held_by (λ held. parts_product version fields held items) (pair_tests tests tested (value_span tested version value))

abbrev pub listed_product : IpVersion → List Field → List Tests → Option Items → Result (List Tests) Why
listed_product version fields tests None = Err why.Values
listed_product version fields tests (Some parts) = parts_product version fields tests parts

-- the same by an element of a set
abbrev pub element_product : IpVersion → List Field → List Tests → Json → Result (List Tests) Why
element_product version fields tests value = listed_product version fields tests (element_parts value)

-- ---- several

-- all of them are no more than a list has lines
abbrev pub put_behind : List Tests → Result (List Tests) Why → Result (List Tests) Why
put_behind held (Err reason) = Err reason
put_behind held (Ok more) = if nat_le (length held + length more) 4095 then Ok (held ++ more) else Err why.Many

abbrev pub elements_from : IpVersion → List Field → List Tests → List Tests → Items → Result (List Tests) Why
elements_from version fields tests held no_items = Ok held
elements_from version fields tests held (item value items) =
    held_by (λ next. elements_from version fields tests next items) (put_behind held (element_product version fields tests value))

-- The tests of a rule that hold where some fields are in one of some elements.
abbrev pub elements_product : IpVersion → List Field → List Tests → Items → Result (List Tests) Why
elements_product version fields tests items = elements_from version fields tests [] items
