-- What fields hold together.
use Rattle.std.proofs.Common.{◌≡◌, ℕ, Bool, true, false, ◌&&◌, ◌||◌, cond, Option, Some, None, Result, Ok, Err, List, [], ◌∷◌, ◌++◌, refl, sym, ap, ◌∙◌}
use Rattle.json.specs.Json.{Items, no_items, item}
use Rattle.rule_model.specs.declared.IpVersion.{IpVersion}
use Rattle.rule_model.specs.declared.Key.{Key}
use Rattle.rule_model.specs.Key.{IsKey}
use Rattle.written_chains.specs.declared.meets.Tests.{Tests}
use Rattle.written_chains.specs.Laws.{ListsAnswerAsWalks}
use Rattle.nft_rulesets.specs.declared.fields.Field.{Field}
use Rattle.nft_rulesets.specs.declared.fields.Field.TheVariants as field
use Rattle.nft_rulesets.specs.declared.spans.Span.{Span}
use Rattle.nft_rulesets.specs.declared.why.Why.{Why}
use Rattle.nft_rulesets.specs.declared.why.Why.TheVariants as why
use Rattle.nft_rulesets.specs.Concats.{element_parts, element_product, elements_from, held_by, listed_product, parts_product, put_behind}
use Rattle.nft_rulesets.specs.Laws.{ElementsHoldTogether, PartsHoldTogether, any_holds, element_holds, elements_hold, is_of_field, listed_hold, number_of, number_said, part_holds, parts_hold, span_holds}
use Rattle.nft_rulesets.specs.Products.{pair_tests, product}
use Rattle.nft_rulesets.specs.Values.{value_span}
use Rattle.nft_rulesets.proofs.Comparing.{both-any, ok-same, product-any}
use Rattle.nft_rulesets.proofs.Holding.{or-false}

not-ok : {A : Type 0} → (reason : Why) (both : List Tests) → ◌≡◌ {A = Result (List Tests) Why} (Err reason) (Ok both) → A
not-ok reason both e = absurd (cc)

-- what was made behind something was made of what that was
held-parts : (behind : List Tests → Result (List Tests) Why) (made : Result (List Tests) Why) (both : List Tests) → held_by behind made ≡ Ok both
    → (held : List Tests) × (made ≡ Ok held) × (behind held ≡ Ok both)
held-parts behind (Ok held) both e = (held, refl, e)
held-parts behind (Err reason) both e = not-ok reason both e

-- ---- one part

numbered : ListsAnswerAsWalks → (tests both : List Tests) (tested : Field) (span : Span) (key : Key) (number : ℕ) → IsKey key → number_of tested key ≡ Some number
    → product tests tested (span ∷ []) ≡ Ok both → any_holds both key ≡ (any_holds tests key && (is_of_field tested key && number_said (Some span) (number_of tested key)))
numbered law tests both tested span key number is has made =
    product-any law tests both tested (span ∷ []) key number is has made
    ∙ ap (λ b. any_holds tests key && (is_of_field tested key && b)) (or-false (span_holds span number))
    ∙ ap (λ n. any_holds tests key && (is_of_field tested key && number_said (Some span) n)) (sym has)

spanned-any : ListsAnswerAsWalks → (tests both : List Tests) (tested : Field) (span : Span) (key : Key) → IsKey key
    → product tests tested (span ∷ []) ≡ Ok both → any_holds both key ≡ (any_holds tests key && (is_of_field tested key && number_said (Some span) (number_of tested key)))
spanned-any law tests both field.Source span key is made = numbered law tests both field.Source span key key.src is refl made
spanned-any law tests both field.Receiver span key is made = numbered law tests both field.Receiver span key key.dst is refl made
spanned-any law tests both field.Protocol span key is made = numbered law tests both field.Protocol span key key.proto is refl made
spanned-any law tests both (field.SourcePort proto) span key is made = numbered law tests both (field.SourcePort proto) span key key.sport is refl made
spanned-any law tests both (field.ReceiverPort proto) span key is made = numbered law tests both (field.ReceiverPort proto) span key key.dport is refl made
spanned-any law tests both field.Version span key is made = not-ok why.Values both made
spanned-any law tests both field.Absent span key is made = not-ok why.Values both made

part-any : ListsAnswerAsWalks → (tests both : List Tests) (tested : Field) (said : Option Span) (key : Key) → IsKey key
    → pair_tests tests tested said ≡ Ok both → any_holds both key ≡ (any_holds tests key && (is_of_field tested key && number_said said (number_of tested key)))
part-any law tests both tested None key is made = not-ok why.Values both made
part-any law tests both tested (Some span) key is made = spanned-any law tests both tested span key is made

-- ---- all parts of an element

and-and : (a b c : Bool) → ((a && b) && c) ≡ (a && (b && c))
and-and true b c = refl
and-and false b c = refl

and-true : (a : Bool) → a ≡ (a && true)
and-true true = refl
and-true false = refl

parts-any : ListsAnswerAsWalks → (version : IpVersion) (fields : List Field) (tests both : List Tests) (parts : Items) (key : Key) → IsKey key
    → parts_product version fields tests parts ≡ Ok both → any_holds both key ≡ (any_holds tests key && parts_hold version fields parts key)
parts-any law version [] tests both no_items key is made = ap (λ l. any_holds l key) (sym (ok-same tests both made)) ∙ and-true (any_holds tests key)
parts-any law version [] tests both (item value items) key is made = not-ok why.Values both made
parts-any law version (tested ∷ fields) tests both no_items key is made = not-ok why.Values both made
parts-any law version (tested ∷ fields) tests both (item value items) key is made =
    let found = held-parts (λ held. parts_product version fields held items) (pair_tests tests tested (value_span tested version value)) both made in
    parts-any law version fields found.0 both items key is found.2
    ∙ ap (λ b. b && parts_hold version fields items key) (part-any law tests found.0 tested (value_span tested version value) key is found.1)
    ∙ and-and (any_holds tests key) (part_holds version tested value key) (parts_hold version fields items key)

listed-any : ListsAnswerAsWalks → (version : IpVersion) (fields : List Field) (tests both : List Tests) (parts : Option Items) (key : Key) → IsKey key
    → listed_product version fields tests parts ≡ Ok both → any_holds both key ≡ (any_holds tests key && listed_hold version fields parts key)
listed-any law version fields tests both None key is made = not-ok why.Values both made
listed-any law version fields tests both (Some parts) key is made = parts-any law version fields tests both parts key is made

pub parts-together : ListsAnswerAsWalks → PartsHoldTogether
parts-together law version fields tests both value key is made = listed-any law version fields tests both (element_parts value) key is made

-- ---- one element after the other

if-few : (few : Bool) (list new : List Tests) → cond few (Ok list) (Err why.Many) ≡ Ok new → list ≡ new
if-few true list new e = ok-same list new e
if-few false list new e = not-ok why.Many new e

behind-parts : (held new : List Tests) (made : Result (List Tests) Why) → put_behind held made ≡ Ok new → (more : List Tests) × (made ≡ Ok more) × (held ++ more ≡ new)
behind-parts held new (Err reason) e = not-ok reason new e
behind-parts held new (Ok more) e = (more, refl, if-few _ (held ++ more) new e)

spread : (h t a b : Bool) → ((h || (t && a)) || (t && b)) ≡ (h || (t && (a || b)))
spread true t a b = refl
spread false true a b = refl
spread false false a b = refl

or-none : (h t : Bool) → h ≡ (h || (t && false))
or-none true t = refl
or-none false true = refl
or-none false false = refl

elements-any : ListsAnswerAsWalks → (version : IpVersion) (fields : List Field) (tests held both : List Tests) (items : Items) (key : Key) → IsKey key
    → elements_from version fields tests held items ≡ Ok both → any_holds both key ≡ (any_holds held key || (any_holds tests key && elements_hold version fields items key))
elements-any law version fields tests held both no_items key is made = ap (λ l. any_holds l key) (sym (ok-same held both made)) ∙ or-none (any_holds held key) (any_holds tests key)
elements-any law version fields tests held both (item value items) key is made =
    let found = held-parts (λ next. elements_from version fields tests next items) (put_behind held (element_product version fields tests value)) both made in
    let put = behind-parts held found.0 (element_product version fields tests value) found.1 in
    elements-any law version fields tests found.0 both items key is found.2
    ∙ ap (λ l. any_holds l key || (any_holds tests key && elements_hold version fields items key)) (sym put.2)
    ∙ ap (λ b. b || (any_holds tests key && elements_hold version fields items key)) (both-any held put.0 key)
    ∙ ap (λ b. (any_holds held key || b) || (any_holds tests key && elements_hold version fields items key)) (parts-together law version fields tests put.0 value key is put.1)
    ∙ spread (any_holds held key) (any_holds tests key) (element_holds version fields value key) (elements_hold version fields items key)

pub elements-together : ListsAnswerAsWalks → ElementsHoldTogether
elements-together law version fields tests both items key is made = elements-any law version fields tests [] both items key is made
