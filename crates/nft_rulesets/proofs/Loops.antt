-- What loops say by then, with what is to come.
use Rattle.std.proofs.Common.{◌≡◌, ◌<◌, ◌≤◌, ◌+◌, ◌-◌, ℕ, suc, Option, Some, None, Result, Ok, Err, List, [], ◌∷◌, ◌++◌, length, drop, get_or, refl, sym, ap, ◌∙◌, append_assoc, append-nil, arith}
use Rattle.std.specs.List.{range_with_len}
use Rattle.std.proofs.lemmas.List.{at_drop_more, at_drop_all}
use Rattle.rule_model.specs.declared.IpVersion.{IpVersion}
use Rattle.json.specs.Json.{Items, item}
use Rattle.json.specs.Value.{value_view, items_view}
use Rattle.json.specs.declared.value.Value.{Value}
use Rattle.written_chains.specs.declared.meets.Tests.{Tests}
use Rattle.written_chains.specs.declared.writing.ChainRule.{ChainRule}
use Rattle.nft_rulesets.specs.declared.fields.Field.{Field}
use Rattle.nft_rulesets.specs.declared.spans.Span.{Span}
use Rattle.nft_rulesets.specs.declared.why.Why.{Why}
use Rattle.nft_rulesets.specs.declared.why.Why.TheVariants as why
use Rattle.nft_rulesets.specs.Concats.{parts_product}
use Rattle.nft_rulesets.specs.Values.{before_spans, element_span, element_spans}
use Rattle.nft_rulesets.specs.Products.{meets_all, meets_one, met_tests}
use Rattle.nft_rulesets.specs.Spans.{above, below, outside, without}
use Rattle.written_chains.specs.Meets.{meet}
use Rattle.std.specs.Prelude.{map}

-- ---- spans behind others

abbrev pub onto_spans : List Span → Option (List Span) → Option (List Span)
onto_spans before None = None
onto_spans before (Some spans) = Some (before ++ spans)

abbrev pub onto_tests : List Tests → Option (List Tests) → Option (List Tests)
onto_tests before None = None
onto_tests before (Some tests) = Some (before ++ tests)

abbrev pub onto_rules : List ChainRule → Result (List ChainRule) Why → Result (List ChainRule) Why
onto_rules before (Ok rules) = Ok (before ++ rules)
onto_rules before (Err reason) = Err reason

-- the next item of a value's, and no more of them
pub item-there : {A B : Type 0} → (f : Items → B) (values : List (Value A)) (place : ℕ) (value unused : Value A) → place < length values → value ≡ get_or values place unused
    → f (items_view (drop place values)) ≡ f (item (value_view value) (items_view (drop (place + 1) values)))
item-there f values place value unused below is =
    at_drop_more (λ l. f (items_view l)) values place unused below
    ∙ ap (λ v. f (item (value_view v) (items_view (drop (place + 1) values)))) (sym is)

-- ---- the next span

pub onto-span : (before : List Span) (span : Span) (behind : Option (List Span)) → onto_spans before (before_spans (Some span) behind) ≡ onto_spans (before ++ span ∷ []) behind
onto-span before span None = refl
onto-span before span (Some spans) = ap Some (sym (append_assoc before (span ∷ []) spans))

pub span-next : {A : Type 0} → (tested : Field) (version : IpVersion) (values : List (Value A)) (place : ℕ) (value unused : Value A) (span : Span) (old new : List Span) → place < length values → value ≡ get_or values place unused
    → Some span ≡ element_span tested version (value_view value) → new ≡ old ++ span ∷ []
    → onto_spans old (element_spans tested version (items_view (drop place values))) ≡ onto_spans new (element_spans tested version (items_view (drop (place + 1) values)))
span-next tested version values place value unused span old new below is said put =
    let rest = element_spans tested version (items_view (drop (place + 1) values)) in
    item-there (λ l. onto_spans old (element_spans tested version l)) values place value unused below is
    ∙ ap (λ s. onto_spans old (before_spans s rest)) (sym said)
    ∙ onto-span old span rest
    ∙ ap (λ l. onto_spans l rest) (sym put)

-- ---- what is outside of a span

pub without-next : (cut : Span) (spans : List Span) (place : ℕ) (span unused : Span) (old mid new : List Span) → place < length spans → span ≡ get_or spans place unused
    → mid ≡ old ++ below cut span → new ≡ mid ++ above cut span → old ++ without cut (drop place spans) ≡ new ++ without cut (drop (place + 1) spans)
without-next cut spans place span unused old mid new under is low high =
    let rest = without cut (drop (place + 1) spans) in
    at_drop_more (λ l. old ++ without cut l) spans place unused under
    ∙ ap (λ s. old ++ (below cut s ++ (above cut s ++ rest))) (sym is)
    ∙ sym (append_assoc old (below cut span) (above cut span ++ rest))
    ∙ ap (λ l. l ++ (above cut span ++ rest)) (sym low)
    ∙ sym (append_assoc mid (above cut span) rest)
    ∙ ap (λ l. l ++ rest) (sym high)

pub outside-next : (cuts left new : List Span) (place : ℕ) (cut unused : Span) → place < length cuts → cut ≡ get_or cuts place unused → new ≡ without cut left
    → outside (drop place cuts) left ≡ outside (drop (place + 1) cuts) new
outside-next cuts left new place cut unused under is put =
    at_drop_more (λ l. outside l left) cuts place unused under
    ∙ ap (λ c. outside (drop (place + 1) cuts) (without c left)) (sym is)
    ∙ ap (λ l. outside (drop (place + 1) cuts) l) (sym put)

-- ---- tests

-- a part is put, and the rest is to come
next : (into new part rest : List Tests) → new ≡ into ++ part → new ++ rest ≡ into ++ (part ++ rest)
next into new part rest put = ap (λ l. l ++ rest) put ∙ append_assoc into part rest

pub meets-next : (tests : Tests) (others into new : List Tests) (place : ℕ) (other unused : Tests) → place < length others → other ≡ get_or others place unused
    → new ≡ into ++ met_tests (meet tests other) → new ++ meets_one tests (drop (place + 1) others) ≡ into ++ meets_one tests (drop place others)
meets-next tests others into new place other unused under is put =
    next into new (met_tests (meet tests other)) (meets_one tests (drop (place + 1) others)) put
    ∙ ap (λ t. into ++ (met_tests (meet tests t) ++ meets_one tests (drop (place + 1) others))) is
    ∙ sym (at_drop_more (λ l. into ++ meets_one tests l) others place unused under)

pub meets-end : (tests : Tests) (others into : List Tests) (place : ℕ) → length others ≤ place → into ++ meets_one tests (drop place others) ≡ into
meets-end tests others into place all = at_drop_all (λ l. into ++ meets_one tests l) others place all ∙ append-nil into

pub all-next : (tests others into new : List Tests) (place : ℕ) (one unused : Tests) → place < length tests → one ≡ get_or tests place unused
    → new ≡ into ++ meets_one one others → new ++ meets_all (drop (place + 1) tests) others ≡ into ++ meets_all (drop place tests) others
all-next tests others into new place one unused under is put =
    next into new (meets_one one others) (meets_all (drop (place + 1) tests) others) put
    ∙ ap (λ t. into ++ (meets_one t others ++ meets_all (drop (place + 1) tests) others)) is
    ∙ sym (at_drop_more (λ l. into ++ meets_all l others) tests place unused under)

pub all-end : (tests others into : List Tests) (place : ℕ) → length tests ≤ place → into ++ meets_all (drop place tests) others ≡ into
all-end tests others into place all = at_drop_all (λ l. into ++ meets_all l others) tests place all ∙ append-nil into

-- ---- a list that is made one by one

pub map-next : {A B : Type 0} → (f : A → B) (list : List A) (into new : List B) (place : ℕ) (one unused : A) → place < length list → one ≡ get_or list place unused
    → new ≡ into ++ f one ∷ [] → new ++ map f (drop (place + 1) list) ≡ into ++ map f (drop place list)
map-next f list into new place one unused under is put =
    let rest = map f (drop (place + 1) list) in
    ap (λ l. l ++ rest) put
    ∙ append_assoc into (f one ∷ []) rest
    ∙ ap (λ o. into ++ f o ∷ rest) is
    ∙ sym (at_drop_more (λ l. into ++ map f l) list place unused under)

-- the next one is made by a call
pub map-made : {A B : Type 0} → (f : A → B) (list : List A) (into new : List B) (place : ℕ) (one unused : A) (made : B) → place < length list → one ≡ get_or list place unused
    → made ≡ f one → new ≡ into ++ made ∷ [] → new ++ map f (drop (place + 1) list) ≡ into ++ map f (drop place list)
map-made f list into new place one unused made under is made_by put = map-next f list into new place one unused under is (put ∙ ap (λ m. into ++ m ∷ []) made_by)

-- the next number
pub numbers-made : {B : Type 0} → (f : ℕ → B) (into new : List B) (number end : ℕ) (made : B) → number < end → made ≡ f number → new ≡ into ++ made ∷ []
    → new ++ map f (range_with_len (number + 1) (end - (number + 1))) ≡ into ++ map f (range_with_len number (end - number))
numbers-made f into new number end made below made_by put =
    let rest = map f (range_with_len (number + 1) (end - (number + 1))) in
    let one_more : suc (end - (number + 1)) ≡ end - number = omega arith in
    ap (λ l. l ++ rest) (put ∙ ap (λ m. into ++ m ∷ []) made_by)
    ∙ append_assoc into (f number ∷ []) rest
    ∙ ap (λ (n : ℕ). into ++ map f (range_with_len number n)) one_more

pub map-end : {A B : Type 0} → (f : A → B) (list : List A) (into : List B) (place : ℕ) → length list ≤ place → into ++ map f (drop place list) ≡ into
map-end f list into place all = at_drop_all (λ l. into ++ map f l) list place all ∙ append-nil into

-- ---- parts of an element, each with its field

-- there is no part for a field
pub part-lacking : {A : Type 0} → (version : IpVersion) (fields : List Field) (parts : List (Value A)) (held : List Tests) (place : ℕ) (unused : Field) → place < length fields → length parts ≤ place
    → parts_product version (drop place fields) held (items_view (drop place parts)) ≡ Err why.Values
part-lacking version fields parts held place unused below none =
    at_drop_more (λ l. parts_product version l held (items_view (drop place parts))) fields place unused below
    ∙ at_drop_all (λ l. parts_product version (get_or fields place unused ∷ drop (place + 1) fields) held (items_view l)) parts place none

-- there is no field for a part
pub parts-over : {A : Type 0} → (version : IpVersion) (fields : List Field) (parts : List (Value A)) (held : List Tests) (place : ℕ) → length fields ≤ place → place < length parts
    → parts_product version (drop place fields) held (items_view (drop place parts)) ≡ Err why.Values
parts-over version fields [] held place all under = absurd (none place under)
  where
    none : (n : ℕ) → n < 0 → ⊥
    none n less = omega arith
parts-over version fields (value ∷ parts) held place all under =
    at_drop_all (λ l. parts_product version l held (items_view (drop place (value ∷ parts)))) fields place all
    ∙ at_drop_more (λ l. parts_product version [] held (items_view l)) (value ∷ parts) place value under
